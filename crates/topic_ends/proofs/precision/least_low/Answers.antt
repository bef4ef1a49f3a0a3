use Rattle.std.proofs.Common.{◌≡◌, ◌∙◌, pos, ◌-ℤ◌, to_z, of_z, arith, ap, subst, sym, false, take}
use Rattle.std.specs.Int.{w128}
use Rattle.std.proofs.lemmas.Int.{ints}
use Rattle.desk_model.specs.Classes.{only_count, precision_least}
use Rattle.desk_model.specs.Extremes.{InEvery, IsGreatest}
use Rattle.desk_model.specs.Fraction.{IsAtMost}
use Rattle.desk_model.specs.declared.types.MeasureName.TheVariants.{Precision}
use Rattle.desk_model.proofs.PrecisionEnds.{precision_extremes}
use Rattle.topic_ends.proofs.precision.least_low.Goals as goal

pub returns : goal.returns
returns c =
    let own = c.of_first-own.result in
    let is = c.of_first-own.ensures.own in
    let same : to_z w128 (of_z w128 (to_z w128 (of_z w128 c.from.result) -ℤ to_z w128 (of_z w128 c.from-2.result))) ≡ pos own.first.relevant -ℤ pos own.second.possible = omega (arith, ints) in
    let low : to_z w128 (of_z w128 (to_z w128 (of_z w128 c.from.result) -ℤ to_z w128 (of_z w128 c.from-2.result))) ≡ precision_least c.args.k c.args.pair.now.marks.now c.args.pair.now.a.now c.args.pair.now.b.now =
    same ∙ ap (λ n. pos n -ℤ pos own.second.possible) is.first_relevant ∙ ap (λ n. pos (only_count false c.args.pair.now.marks.now (take c.args.k c.args.pair.now.a.now) (take c.args.k c.args.pair.now.b.now)) -ℤ pos n) is.second_possible in
    subst (IsGreatest (λ w. InEvery (Precision c.args.k) c.args.pair.now.marks.now c.args.pair.now.a.now c.args.pair.now.b.now (IsAtMost w c.args.k))) (sym low) (precision_extremes c.args.k c.args.pair.now.marks.now c.args.pair.now.a.now c.args.pair.now.b.now (omega arith) c.args.pair.now.first c.args.pair.now.second).least_lo
