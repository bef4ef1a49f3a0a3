use Rattle.std.proofs.Common.{◌≡◌, ℕ, true, false, List, to_z, of_z, arith, ap, ◌∙◌}
use Rattle.std.specs.Int.{w128}
use Rattle.std.proofs.lemmas.Int.{ints}
use Rattle.desk_model.specs.Completion.{with_picked}
use Rattle.desk_model.specs.Score.{first_true}
use Rattle.recip_rank.proofs.Ends.{bounds_read}
use Rattle.recip_rank.proofs.recip_rank.RecipRankMeasure.bounds.Goals as goal

pub returns : goal.returns
returns c =
    let lo : to_z w128 (of_z w128 c.span-least.result.lo) ≡ c.span-least.result.lo = omega (arith, ints) in
    let hi : to_z w128 (of_z w128 c.span-greatest.result.hi) ≡ c.span-greatest.result.hi = omega (arith, ints) in
    let first = ap (λ (xs : List ℕ). first_true (with_picked c.args.marks.now (λ _. false)) xs) c.docs.ensures.docs in
    let last = ap (λ (xs : List ℕ). first_true (with_picked c.args.marks.now (λ _. true)) xs) c.docs-2.ensures.docs in
    bounds_read c.args.marks.now c.args.a.now c.first_rank.result c.first_rank-2.result c.span-least.result c.span-greatest.result _ _ c.requires.ranking
    (c.first_rank.ensures.first ∙ first) (c.first_rank-2.ensures.first ∙ last) c.span-least.ensures.span c.span-greatest.ensures.span lo hi
