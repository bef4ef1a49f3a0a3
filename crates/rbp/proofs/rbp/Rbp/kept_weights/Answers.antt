use Rattle.std.proofs.Common.{◌≡◌, ◌+◌, ◌*◌, ◌^◌, ◌<◌, ◌≤◌, ℕ, Some, true, nat_eq, take, slice_index_or, arith, refl, ap}
use Rattle.std.proofs.lemmas.List.{length-take, length-set}
use Rattle.desk_model.specs.Completion.{with_picked}
use Rattle.desk_model.specs.Mark.{mark_at}
use Rattle.measure_laws.specs.Powers.{low_weight, high_weight}
use Rattle.measure_laws.proofs.Weights.{low_weight-most, high_weight-most}
use Rattle.measure_core.specs.declared.room.RunWeights.{RunWeights}
use Rattle.rbp.specs.Persistence.{Persistence}
use Rattle.rbp.specs.Walk.{number_of}
use Rattle.rbp.proofs.Sums.{entered, relevant_sum, possible_sum, number_small, low_sum_small, high_sum_small}
use Rattle.rbp.proofs.rbp.Rbp.kept_weights.Goals as goal

pub overflow_add-low : goal.overflow_add-low
overflow_add-low c =
    let r = c.args.self.now in
    let l = c.loop-place in
    let below : r.top < r.bottom = omega (arith, c.self.invariant.below, ap (λ (p : Persistence). p.top) c.self.view_is, ap (λ (p : Persistence). p.bottom) c.self.view_is) in
    let marks = c.args.marks.now in
    let k = c.number_of-number.result in
    let number : k < 3 = omega (arith, c.number_of-number.ensures, number_small (mark_at marks (slice_index_or c.args.docs.now l.place 0))) in
    let sum : slice_index_or l.low k 0 ≤ 2 * 10 ^ 18 = omega (arith, l.invariant.low k number, low_sum_small r.top r.bottom (λ doc. nat_eq (number_of (mark_at marks doc)) k) (take l.place c.args.docs.now) below) in
    let more : c.parts_at-parts.result.low ≤ 10 ^ 18 = omega (arith, c.parts_at-parts.ensures.low, low_weight-most r.top r.bottom (Some (l.place + 1)) (omega arith)) in
    omega (arith, sum, more)

pub overflow_add-result : goal.overflow_add-result
overflow_add-result c =
    let r = c.args.self.now in
    let l = c.loop-place in
    let below : r.top < r.bottom = omega (arith, c.self.invariant.below, ap (λ (p : Persistence). p.top) c.self.view_is, ap (λ (p : Persistence). p.bottom) c.self.view_is) in
    let sum : slice_index_or l.low 0 0 + slice_index_or l.low 1 0 ≤ 2 * 10 ^ 18 =
    omega (arith, possible_sum (λ rank. low_weight r.top r.bottom (Some rank)) c.args.marks.now c.args.docs.now l.place _ _ c.loop-place-test.false (l.invariant.low 0 (omega arith)) (l.invariant.low 1 (omega arith)), low_sum_small r.top r.bottom (with_picked c.args.marks.now (λ _. true)) c.args.docs.now below) in
    omega (arith, sum)

pub overflow_add-high : goal.overflow_add-high
overflow_add-high c =
    let r = c.args.self.now in
    let l = c.loop-place in
    let below : r.top < r.bottom = omega (arith, c.self.invariant.below, ap (λ (p : Persistence). p.top) c.self.view_is, ap (λ (p : Persistence). p.bottom) c.self.view_is) in
    let marks = c.args.marks.now in
    let k = c.number_of-number.result in
    let number : k < 3 = omega (arith, c.number_of-number.ensures, number_small (mark_at marks (slice_index_or c.args.docs.now l.place 0))) in
    let sum : slice_index_or l.high k 0 ≤ 2 * 10 ^ 18 = omega (arith, l.invariant.high k number, high_sum_small r.top r.bottom (λ doc. nat_eq (number_of (mark_at marks doc)) k) (take l.place c.args.docs.now) below (omega (arith, length-take l.place c.args.docs.now, c.requires.few))) in
    let more : c.parts_at-parts.result.high ≤ 10 ^ 18 = omega (arith, c.parts_at-parts.ensures.high, high_weight-most r.top r.bottom (Some (l.place + 1)) (omega arith) (omega arith)) in
    omega (arith, sum, more)

pub overflow_add-result-2 : goal.overflow_add-result-2
overflow_add-result-2 c =
    let r = c.args.self.now in
    let l = c.loop-place in
    let below : r.top < r.bottom = omega (arith, c.self.invariant.below, ap (λ (p : Persistence). p.top) c.self.view_is, ap (λ (p : Persistence). p.bottom) c.self.view_is) in
    let sum : slice_index_or l.high 0 0 + slice_index_or l.high 1 0 ≤ 2 * 10 ^ 18 =
    omega (arith, possible_sum (λ rank. high_weight r.top r.bottom (Some rank)) c.args.marks.now c.args.docs.now l.place _ _ c.loop-place-test.false (l.invariant.high 0 (omega arith)) (l.invariant.high 1 (omega arith)), high_sum_small r.top r.bottom (with_picked c.args.marks.now (λ _. true)) c.args.docs.now below c.requires.few) in
    omega (arith, sum)

pub loop-place-preserved : goal.loop-place-preserved
loop-place-preserved c =
    let r = c.args.self.now in
    let l = c.loop-place in
    let marks = c.args.marks.now in
    let docs = c.args.docs.now in
    let m = c.number_of-number.result in
    let number : m < 3 = omega (arith, c.number_of-number.ensures, number_small (mark_at marks (slice_index_or docs l.place 0))) in
    let low = λ (rank : ℕ). low_weight r.top r.bottom (Some rank) in
    let high = λ (rank : ℕ). high_weight r.top r.bottom (Some rank) in
    record {
      low_long = omega (arith, length-set l.low m (slice_index_or l.low m 0 + c.parts_at-parts.result.low));
      high_long = omega (arith, length-set l.high m (slice_index_or l.high m 0 + c.parts_at-parts.result.high));
      low = λ k h. rw c.parts_at-parts.ensures.low (entered low (λ doc. number_of (mark_at marks doc)) l.place _ m k docs l.low c.loop-place-test.true refl c.number_of-number.ensures (omega (arith, number, l.invariant.low_long)) (l.invariant.low k h));
      high = λ k h. rw c.parts_at-parts.ensures.high (entered high (λ doc. number_of (mark_at marks doc)) l.place _ m k docs l.high c.loop-place-test.true refl c.number_of-number.ensures (omega (arith, number, l.invariant.high_long)) (l.invariant.high k h));
    }

abbrev kept : (relevant_low relevant_high possible_low possible_high : ℕ) → RunWeights
kept relevant_low relevant_high possible_low possible_high = record { relevant_low = relevant_low; relevant_high = relevant_high; possible_low = possible_low; possible_high = possible_high }

same : (p q r s p' q' r' s' : ℕ) → p ≡ p' → q ≡ q' → r ≡ r' → s ≡ s' → kept p q r s ≡ kept p' q' r' s'
same p q r s p' q' r' s' e f g h = rw (e, f, g, h) refl

pub returns : goal.returns
returns c =
    let r = c.args.self.now in
    let l = c.loop-place in
    let marks = c.args.marks.now in
    let docs = c.args.docs.now in
    let low = λ (rank : ℕ). low_weight r.top r.bottom (Some rank) in
    let high = λ (rank : ℕ). high_weight r.top r.bottom (Some rank) in
    same _ _ _ _ _ _ _ _
    (relevant_sum low marks docs l.place _ c.loop-place-test.false (l.invariant.low 1 (omega arith)))
    (relevant_sum high marks docs l.place _ c.loop-place-test.false (l.invariant.high 1 (omega arith)))
    (possible_sum low marks docs l.place _ _ c.loop-place-test.false (l.invariant.low 0 (omega arith)) (l.invariant.low 1 (omega arith)))
    (possible_sum high marks docs l.place _ _ c.loop-place-test.false (l.invariant.high 0 (omega arith)) (l.invariant.high 1 (omega arith)))
