use Rattle.std.proofs.Common.{◌≡◌, ◌+◌, ◌-◌, ◌<◌, ◌≤◌, ◌^◌, to_z, of_z, arith, subst, sym}
use Rattle.std.specs.Int.{w128}
use Rattle.std.proofs.lemmas.Int.{ints}
use Rattle.desk_model.specs.Extremes.{InEvery, IsGreatest}
use Rattle.desk_model.specs.Fraction.{IsAtMost}
use Rattle.desk_model.specs.declared.types.MeasureName.TheVariants.{Recall}
use Rattle.topic_ends.proofs.Lows.{own_few, recall_low}
use Rattle.topic_ends.proofs.recall.least_low.Goals.{then-second-first, else-second-first}
use Rattle.topic_ends.proofs.recall.least_low.Goals as goal

pub overflow_sub-whole : goal.overflow_sub-whole
overflow_sub-whole c =
    omega (arith, own_few c.args.k c.args.pair.now.marks.now c.args.pair.now.a.now c.args.pair.now.b.now _ _ c.args.pair.now.first c.args.pair.now.second c.of_first-own.ensures.own.first_possible c.requires.possible, c.unjudged.ensures)

pub returns : goal.returns
returns c =
    let own = c.of_first-own.result in
    let is = c.of_first-own.ensures.own in
    let same : to_z w128 (of_z w128 c.floor.result) ≡ c.floor.result = omega (arith, ints) in
    let led : own.second.possible < own.first.relevant → c.if-second-first.whole ≡ c.args.all.possible - (own.first.possible - own.first.relevant) =
    λ h. elim c.if-second-first.branch [ then-second-first w ↦ omega (arith, w.whole-is, w.unjudged.ensures) | else-second-first w ↦ absurd (omega (arith, h, w.if-second-first.false)) ] in
    let trails : own.first.relevant ≤ own.second.possible → c.if-second-first.whole ≡ c.args.all.relevant + (own.second.possible - own.second.relevant) =
    λ h. elim c.if-second-first.branch [ then-second-first w ↦ absurd (omega (arith, h, w.if-second-first.true)) | else-second-first w ↦ omega (arith, w.whole-is, w.unjudged-else-second-first.ensures) ] in
    subst (IsGreatest (λ w. InEvery (Recall c.args.k) c.args.pair.now.marks.now c.args.pair.now.a.now c.args.pair.now.b.now (IsAtMost w (10 ^ 18)))) (sym same)
    (recall_low c.args.k c.args.pair.now.marks.now c.args.pair.now.a.now c.args.pair.now.b.now own.first own.second c.args.all c.if-second-first.whole c.floor.result c.args.pair.now.first c.args.pair.now.second
    (record { relevant = is.first_relevant; possible = is.first_possible }) (record { relevant = is.second_relevant; possible = is.second_possible }) c.requires.relevant c.requires.possible led trails c.floor.ensures.floor)
