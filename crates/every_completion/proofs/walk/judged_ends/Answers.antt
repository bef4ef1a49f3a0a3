use Rattle.std.proofs.Common.{◌≡◌, ℕ, to_z, of_z, sym, subst, arith}
use Rattle.std.specs.Int.{w128}
use Rattle.std.proofs.lemmas.Int.{ints}
use Rattle.desk_model.specs.Ranking.{IsRanking}
use Rattle.every_completion.specs.Walk.{value_of}
use Rattle.every_completion.proofs.Agreement.{judged_extremes}
use Rattle.every_completion.proofs.walk.judged_ends.Goals as goal

pub returns : goal.returns
returns c =
    let of = c.args.of.now in
    let lo : to_z w128 (of_z w128 c.rounded-lo.result.0) ≡ c.rounded-lo.result.0 = omega (arith, ints) in
    let hi : to_z w128 (of_z w128 c.rounded-lo.result.1) ≡ c.rounded-lo.result.1 = omega (arith, ints) in
    rw (lo, hi) (judged_extremes of.scale.measure of.scale.unit c.args.marks.now of.first.now of.second.now (value_of c.score_of-x.result) (value_of c.score_of-y.result) c.rounded-lo.result.0 c.rounded-lo.result.1
    of.scale.untailed (subst (λ (n : ℕ). IsRanking n of.first.now) (sym c.requires.size) of.ranking) (subst (λ (n : ℕ). IsRanking n of.second.now) (sym c.requires.size) of.other) c.requires.judged c.score_of-x.ensures c.score_of-y.ensures c.rounded-lo.ensures.low c.rounded-lo.ensures.high)
