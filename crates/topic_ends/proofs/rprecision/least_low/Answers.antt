use Rattle.std.proofs.Common.{◌≡◌, ◌+◌, ◌^◌, ℕ, take, to_z, of_z, arith, refl, subst, sym}
use Rattle.std.specs.Int.{w128}
use Rattle.std.proofs.lemmas.Int.{ints}
use Rattle.desk_model.specs.declared.types.MeasureName.TheVariants.{RPrecision}
use Rattle.topic_counts.specs.Ends.{IsNear}
use Rattle.desk_model.specs.Extremes.{InEvery, IsGreatest}
use Rattle.desk_model.specs.Fraction.{IsAtMost}
use Rattle.measure_laws.proofs.Stretches.{candidates_are_enough}
use Rattle.topic_ends.specs.Differences.{IsLowered}
use Rattle.topic_ends.specs.Own.{CountsOwn}
use Rattle.topic_ends.proofs.Numbers.{IsAt, IsLowTo, at_beyond, beyond_is, is_at, low_beyond, low_further, low_judged, used_are}
use Rattle.topic_ends.proofs.OwnSteps.{own_ordered, prefix_short}
use Rattle.topic_ends.proofs.Smallest.{smallest_is}
use Rattle.topic_ends.proofs.rprecision.least_low.Goals as goal

pub loop-chosen-init : goal.loop-chosen-init
loop-chosen-init c =
    let marks = c.args.pair.now.marks.now in
    let a = c.args.pair.now.a.now in
    let b = c.args.pair.now.b.now in
    let k = c.args.all.relevant in
    let none : k ≡ k + 0 = omega arith in
    let same : to_z w128 (of_z w128 c.floor-low.result) ≡ c.floor-low.result = omega (arith, ints) in
    let at = is_at marks a b k c.args.all.possible 0 k c.of_first-own.result c.difference.result c.requires.relevant c.requires.possible none c.of_first-own.ensures.own c.difference.ensures.lead c.difference.ensures.whole in
    record {
      own = subst (λ (n : ℕ). CountsOwn marks (take n a) (take n b) c.of_first-own.result) none c.of_first-own.ensures.own;
      low = subst (IsLowTo marks a b 0) (sym same) (low_judged marks a b k c.difference.result c.floor-low.result c.requires.relevant at c.floor-low.ensures.floor);
      near = subst IsNear (sym same) c.floor-low.ensures.near;
    }

pub difference-requires-in-loop-chosen-clause-own : goal.difference-requires-in-loop-chosen-clause-own
difference-requires-in-loop-chosen-clause-own c =
    let k = c.args.all.relevant + c.loop-chosen.chosen + 1 in
    own_ordered c.args.pair.now.marks.now _ _ c.deepened-own.result (prefix_short k c.args.pair.now.a.now c.args.pair.now.first.short) (prefix_short k c.args.pair.now.b.now c.args.pair.now.second.short) c.deepened-own.ensures

pub loop-chosen-preserved : goal.loop-chosen-preserved
loop-chosen-preserved c =
    let marks = c.args.pair.now.marks.now in
    let a = c.args.pair.now.a.now in
    let b = c.args.pair.now.b.now in
    let k = c.args.all.relevant in
    let n = c.loop-chosen.chosen in
    let d = c.difference-in-loop-chosen in
    let next : k + n + 1 ≡ k + (n + 1) = omega arith in
    let own = subst (λ (m : ℕ). CountsOwn marks (take m a) (take m b) c.deepened-own.result) next c.deepened-own.ensures in
    let same : to_z w128 (of_z w128 c.lowered-low.result) ≡ c.lowered-low.result = omega (arith, ints) in
    let at = is_at marks a b k c.args.all.possible (n + 1) (k + (n + 1)) c.deepened-own.result d.result c.requires.relevant c.requires.possible refl own d.ensures.lead d.ensures.whole in
    record {
      own = own;
      low = subst (IsLowTo marks a b (n + 1)) (sym same) (low_further marks a b n (k + (n + 1)) d.result (to_z w128 c.loop-chosen.low-bits) c.lowered-low.result (omega (arith, c.requires.relevant)) at c.lowered-low.ensures.lowered c.loop-chosen.invariant.low);
      near = subst IsNear (sym same) c.lowered-low.ensures.near;
    }

pub unjudged-requires : goal.unjudged-requires
unjudged-requires c =
    let k = c.args.all.relevant + c.loop-chosen.chosen in
    let ordered = own_ordered c.args.pair.now.marks.now _ _ c.loop-chosen.own (prefix_short k c.args.pair.now.a.now c.args.pair.now.first.short) (prefix_short k c.args.pair.now.b.now c.args.pair.now.second.short) c.loop-chosen.invariant.own in ordered.second

pub unjudged-requires-3 : goal.unjudged-requires-3
unjudged-requires-3 c =
    let k = c.args.all.relevant + c.loop-chosen.chosen in
    let ordered = own_ordered c.args.pair.now.marks.now _ _ c.loop-chosen.own (prefix_short k c.args.pair.now.a.now c.args.pair.now.first.short) (prefix_short k c.args.pair.now.b.now c.args.pair.now.second.short) c.loop-chosen.invariant.own in ordered.first

pub difference-requires-2-clause-own : goal.difference-requires-2-clause-own
difference-requires-2-clause-own c =
    let k = c.args.all.relevant + c.loop-chosen.chosen in
    own_ordered c.args.pair.now.marks.now _ _ c.loop-chosen.own (prefix_short k c.args.pair.now.a.now c.args.pair.now.first.short) (prefix_short k c.args.pair.now.b.now c.args.pair.now.second.short) c.loop-chosen.invariant.own

pub difference-requires-3-clause-own : goal.difference-requires-3-clause-own
difference-requires-3-clause-own c =
    let k = c.args.all.relevant + c.loop-chosen.chosen in
    own_ordered c.args.pair.now.marks.now _ _ c.loop-chosen.own (prefix_short k c.args.pair.now.a.now c.args.pair.now.first.short) (prefix_short k c.args.pair.now.b.now c.args.pair.now.second.short) c.loop-chosen.invariant.own

pub difference-requires-2-clause-chosen : goal.difference-requires-2-clause-chosen
difference-requires-2-clause-chosen c =
    let marks = c.args.pair.now.marks.now in
    let a = c.args.pair.now.a.now in
    let b = c.args.pair.now.b.now in
    let j = c.args.all.relevant in
    let steps = c.steps_to_longer-steps.result in
    let own = c.loop-chosen.own in
    let last : c.loop-chosen.chosen ≡ steps = omega (arith, c.loop-chosen-test.false, c.loop-chosen.auto.chosen-end) in
    let kept = subst (λ (n : ℕ). CountsOwn marks (take (j + n) a) (take (j + n) b) own) last c.loop-chosen.invariant.own in
    let beyond = beyond_is marks a b j c.args.all.possible steps c.requires.relevant c.requires.possible c.requires.order c.steps_to_longer-steps.ensures in
    let used = used_are marks a b j c.args.all.possible steps c.max-second_used.result c.max-others_used.result own c.args.pair.now.first c.args.pair.now.second c.requires.relevant c.requires.possible c.requires.order beyond kept
    (omega (arith, c.max-second_used.ensures, c.unjudged.ensures)) (omega (arith, c.max-others_used.ensures, c.unjudged-2.ensures, c.unjudged-3.ensures)) in
    omega (arith, used.order, used.last)

pub returns : goal.returns
returns c =
    let marks = c.args.pair.now.marks.now in
    let a = c.args.pair.now.a.now in
    let b = c.args.pair.now.b.now in
    let j = c.args.all.relevant in
    let steps = c.steps_to_longer-steps.result in
    let own = c.loop-chosen.own in
    let last : c.loop-chosen.chosen ≡ steps = omega (arith, c.loop-chosen-test.false, c.loop-chosen.auto.chosen-end) in
    let kept = subst (λ (n : ℕ). CountsOwn marks (take (j + n) a) (take (j + n) b) own) last c.loop-chosen.invariant.own in
    let beyond = beyond_is marks a b j c.args.all.possible steps c.requires.relevant c.requires.possible c.requires.order c.steps_to_longer-steps.ensures in
    let used = used_are marks a b j c.args.all.possible steps c.max-second_used.result c.max-others_used.result own c.args.pair.now.first c.args.pair.now.second c.requires.relevant c.requires.possible c.requires.order beyond kept
    (omega (arith, c.max-second_used.ensures, c.unjudged.ensures)) (omega (arith, c.max-others_used.ensures, c.unjudged-2.ensures, c.unjudged-3.ensures)) in
    let low = subst (λ (n : ℕ). IsLowTo marks a b n (to_z w128 c.loop-chosen.low-bits)) last c.loop-chosen.invariant.low in
    let at_used = at_beyond marks a b j c.args.all.possible steps c.max-second_used.result own c.difference-2.result c.requires.relevant c.requires.possible c.requires.order beyond used.first (omega (arith, used.order, used.last)) kept c.difference-2.ensures.lead c.difference-2.ensures.whole in
    let at_left = at_beyond marks a b j c.args.all.possible steps c.max-others_used.result own c.difference-3.result c.requires.relevant c.requires.possible c.requires.order beyond (omega (arith, used.first, used.order)) used.last kept c.difference-3.ensures.lead c.difference-3.ensures.whole in
    let lower : to_z w128 (of_z w128 c.lowered-low-2.result) ≡ c.lowered-low-2.result = omega (arith, ints) in
    let same : to_z w128 (of_z w128 c.lowered.result) ≡ c.lowered.result = omega (arith, ints) in
    let lowest = low_beyond marks a b j steps c.difference-2.result c.difference-3.result (to_z w128 c.loop-chosen.low-bits) c.lowered-low-2.result c.lowered.result c.requires.relevant low
    (subst (λ (r : ℕ). IsAt marks a b r c.difference-2.result) used.second at_used) c.lowered-low-2.ensures.lowered
    (subst (λ (r : ℕ). IsAt marks a b r c.difference-3.result) used.others at_left) (subst (λ z. IsLowered c.difference-3.result z c.lowered.result) lower c.lowered.ensures.lowered) in
    subst (λ z. IsGreatest (λ w. InEvery RPrecision marks a b (IsAtMost w (10 ^ 18))) z) (sym same)
    (smallest_is RPrecision marks a b _ _ _ c.lowered.result (candidates_are_enough marks a b (j + steps) c.args.pair.now.first c.args.pair.now.second beyond) lowest)
