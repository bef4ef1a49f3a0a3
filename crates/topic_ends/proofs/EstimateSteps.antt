-- A walk along a ranking: each document keeps what is known, and the candidate that it has come to is estimated.
use Rattle.std.proofs.Common.{◌≡◌, ℕ, zero, suc, ◌+◌, ◌-◌, ◌*◌, ◌/◌, ◌^◌, ◌<◌, ◌≤◌, Bool, true, false, List, [], ◌∷◌, length, drop, get_or, ap, refl, sym, subst, ◌∙◌, arith}
use Rattle.std.proofs.Math.Nat.{mul-le-mul_left, mul-le-mul_right}
use Rattle.std.proofs.lemmas.Nat.{div_below}
use Rattle.desk_model.specs.Completion.{picked_value}
use Rattle.desk_model.specs.Limits.{PARTS_OF_ONE, RANK_LIMIT}
use Rattle.desk_model.specs.Mark.{mark_at}
use Rattle.desk_model.specs.declared.types.Mark.{Mark}
use Rattle.desk_model.specs.declared.types.Mark.TheVariants.{Unjudged, Relevant, Other}
use Rattle.measure_laws.specs.Powers.{ceil_div}
use Rattle.desk_model.specs.Precisions.{true_ranks}
use Rattle.measure_laws.specs.Parts.{ranked_sum, low_part, high_part}
use Rattle.measure_laws.specs.Candidates.{open_docs}
use Rattle.measure_laws.proofs.RankSums.{ArePositive, ranks_positive}
use Rattle.topic_ends.specs.declared.part_sum.PartSum.{PartSum}
use Rattle.topic_ends.specs.declared.estimate.Passed.{Passed}
use Rattle.topic_ends.specs.declared.estimate.Totals.{Totals}
use Rattle.topic_ends.specs.PartSums.{IsBefore, added, whole, worth_of}
use Rattle.topic_ends.specs.Candidates.{along, candidate_sum, gains_by, value_at}
use Rattle.topic_ends.specs.Estimates.{AreApart, AreTotals, IsNear, IsPassing, IsWalk, inverse_if, inverse_sum, walked}
use Rattle.topic_ends.proofs.Passes.{gains_next, one_open, open_next, whole_next}
use Rattle.topic_ends.proofs.RoundedParts.{ceil_most}

-- ---- a precision with more true places before it
ceil_covers : (n d : ℕ) → n ≤ ceil_div n (suc d) * suc d
ceil_covers n d = omega arith

low_more : (s j p d : ℕ) → s * (j + p) / suc d ≤ s * j / suc d + p * ceil_div (s * 1) (suc d)
low_more s j p d =
    let x = s * j / suc d in
    let w = ceil_div (s * 1) (suc d) in
    let above : s * j < (x + 1) * suc d = omega arith in
    let times : p * (s * 1) ≤ p * (w * suc d) = mul-le-mul_left p (ceil_covers (s * 1) d) in
    let cut : s * (j + p) < (x + p * w + 1) * suc d = omega (arith, above, times) in
    omega (arith, div_below (s * (j + p)) (suc d) (x + p * w + 1) (omega arith) cut)

high_more : (s j p d : ℕ) → ceil_div (s * (j + p)) (suc d) ≤ ceil_div (s * j) (suc d) + p * ceil_div (s * 1) (suc d)
high_more s j p d =
    let x = ceil_div (s * j) (suc d) in
    let w = ceil_div (s * 1) (suc d) in
    let times : p * (s * 1) ≤ p * (w * suc d) = mul-le-mul_left p (ceil_covers (s * 1) d) in
    ceil_most (s * (j + p)) d (x + p * w) (omega (arith, ceil_covers (s * j) d, times))

worth_more : (high : Bool) (j p r : ℕ) → 0 < r → worth_of high (j + p) r ≤ worth_of high j r + p * high_part 1 r
worth_more high j p zero h = absurd (omega (arith, h))
worth_more true j p (suc d) h = high_more (10 ^ 18) j p d
worth_more false j p (suc d) h = low_more (10 ^ 18) j p d

sum_more : (high : Bool) (j p : ℕ) (rs : List ℕ) → ArePositive rs → ranked_sum (worth_of high) (j + p) rs ≤ ranked_sum (worth_of high) j rs + p * inverse_sum rs
sum_more high j p [] h = omega arith
sum_more high j p (r ∷ rs) h =
    let next : j + p + 1 ≡ j + 1 + p = omega arith in
    let same : ranked_sum (worth_of high) (j + p + 1) rs ≡ ranked_sum (worth_of high) (j + 1 + p) rs = ap (λ (k : ℕ). ranked_sum (worth_of high) k rs) next in
    omega (arith, same, worth_more high j p r h.0, sum_more high (j + 1) p rs h.1)

-- ---- one document more
pub inverse_next : (gain : Bool) (rank : ℕ) (gains : List Bool) → inverse_if gain rank + inverse_sum (true_ranks (rank + 1) gains) ≡ inverse_sum (true_ranks rank (gain ∷ gains))
inverse_next true rank gains = refl
inverse_next false rank gains = omega arith

near_step : (high : Bool) (m : Mark) (ms : List Mark) (near : PartSum) (rank unjudged : ℕ) (total : ℕ → ℕ) → ((left : ℕ) → whole (worth_of high) near rank (gains_by high (m ∷ ms) left) ≡ total (unjudged + left)) →
    (left : ℕ) → whole (worth_of high) (added (worth_of high) near (picked_value (value_at high 1) m) rank) (rank + 1) (gains_by high ms left) ≡ total (unjudged + one_open m + left)
near_step high Relevant ms near rank unjudged total h left =
    let same : left ≡ left - 0 = omega arith in
    let moved : unjudged + left ≡ unjudged + 0 + left = omega arith in
    whole_next (worth_of high) near true rank (gains_by high ms left) ∙ ap (λ (k : ℕ). whole (worth_of high) near rank (true ∷ gains_by high ms k)) same ∙ h left ∙ ap total moved
near_step high Other ms near rank unjudged total h left =
    let same : left ≡ left - 0 = omega arith in
    let moved : unjudged + left ≡ unjudged + 0 + left = omega arith in
    whole_next (worth_of high) near false rank (gains_by high ms left) ∙ ap (λ (k : ℕ). whole (worth_of high) near rank (false ∷ gains_by high ms k)) same ∙ h left ∙ ap total moved
near_step high Unjudged ms near rank unjudged total h left =
    let same : left ≡ suc left - 1 = omega arith in
    let moved : unjudged + suc left ≡ unjudged + 1 + left = omega arith in
    whole_next (worth_of high) near high rank (gains_by high ms left) ∙ ap (λ (k : ℕ). whole (worth_of high) near rank (high ∷ gains_by high ms k)) same ∙ h (suc left) ∙ ap total moved

far_step : (high : Bool) (m : Mark) (ms : List Mark) (far : PartSum) (rank total : ℕ) → whole (worth_of high) far rank (gains_by high (m ∷ ms) 0) ≡ total →
    whole (worth_of high) (added (worth_of high) far (picked_value (value_at high 0) m) rank) (rank + 1) (gains_by high ms 0) ≡ total
far_step high m ms far rank total h =
    let g = picked_value (value_at high 0) m in
    let none : 0 ≡ 0 - one_open m = omega arith in
    whole_next (worth_of high) far g rank (gains_by high ms 0) ∙ ap (λ (k : ℕ). whole (worth_of high) far rank (g ∷ gains_by high ms k)) none ∙ h

pub inverse_step : (high : Bool) (m : Mark) (ms : List Mark) (sum rank total : ℕ) → sum + inverse_sum (true_ranks rank (gains_by high (m ∷ ms) 0)) ≡ total →
    sum + inverse_if (picked_value (value_at high 0) m) rank + inverse_sum (true_ranks (rank + 1) (gains_by high ms 0)) ≡ total
inverse_step high m ms sum rank total h =
    let g = picked_value (value_at high 0) m in
    let none : 0 ≡ 0 - one_open m = omega arith in
    let kept : inverse_sum (true_ranks rank (g ∷ gains_by high ms 0)) ≡ inverse_sum (true_ranks rank (gains_by high (m ∷ ms) 0)) = ap (λ (k : ℕ). inverse_sum (true_ranks rank (g ∷ gains_by high ms k))) none in
    omega (arith, h, kept, inverse_next g rank (gains_by high ms 0))

apart_step : (high : Bool) (m : Mark) (passed : Passed) (rank : ℕ) → AreApart high passed → AreApart high (walked high passed m rank)
apart_step true Relevant passed rank h = omega (arith, h)
apart_step true Other passed rank h = omega (arith, h)
apart_step true Unjudged passed rank h = omega (arith, h)
apart_step false Relevant passed rank h = omega (arith, h)
apart_step false Other passed rank h = omega (arith, h)
apart_step false Unjudged passed rank h = omega (arith, h)

pub walk_next : (high : Bool) (marks : List Mark) (docs : List ℕ) (place : ℕ) (passed next : Passed) → place < length docs → IsWalk high marks docs place passed →
    next ≡ walked high passed (mark_at marks (get_or docs place 0)) (place + 1) → IsBefore (place + 1 + 1) next.near → IsBefore (place + 1 + 1) next.far → next.inverses ≤ passed.inverses + PARTS_OF_ONE →
    IsWalk high marks docs (place + 1) next
walk_next high marks docs place passed next lt h e nb fb ib =
    let m = mark_at marks (get_or docs place 0) in
    let rest = along marks (drop (place + 1) docs) in
    let is : (left : ℕ) → gains_by high (along marks (drop place docs)) left ≡ gains_by high (m ∷ rest) left = λ left. gains_next high marks docs place left lt in
    record {
      near_before = nb;
      far_before = fb;
      inverses_before = omega (arith, ib, h.inverses_before);
      apart = subst (λ (w : Passed). AreApart high w) (sym e) (apart_step high m passed (place + 1) h.apart);
      opens = subst (λ (w : Passed). w.unjudged + length (open_docs marks (drop (place + 1) docs)) ≡ length (open_docs marks docs)) (sym e) (omega (arith, h.opens, open_next marks docs place lt));
      near = λ left. subst (λ (w : Passed). whole (worth_of high) w.near (place + 1 + 1) (gains_by high rest left) ≡ candidate_sum high (along marks docs) (w.unjudged + left)) (sym e)
          (near_step high m rest passed.near (place + 1) passed.unjudged (candidate_sum high (along marks docs))
          (λ k. ap (λ (gs : List Bool). whole (worth_of high) passed.near (place + 1) gs) (sym (is k)) ∙ h.near k) left);
      far = subst (λ (w : Passed). whole (worth_of high) w.far (place + 1 + 1) (gains_by high rest 0) ≡ candidate_sum high (along marks docs) 0) (sym e)
          (far_step high m rest passed.far (place + 1) (candidate_sum high (along marks docs) 0) (ap (λ (gs : List Bool). whole (worth_of high) passed.far (place + 1) gs) (sym (is 0)) ∙ h.far));
      inverses = subst (λ (w : Passed). w.inverses + inverse_sum (true_ranks (place + 1 + 1) (gains_by high rest 0)) ≡ inverse_sum (true_ranks 1 (gains_by high (along marks docs) 0))) (sym e)
          (inverse_step high m rest passed.inverses (place + 1) (inverse_sum (true_ranks 1 (gains_by high (along marks docs) 0)))
          (ap (λ (gs : List Bool). passed.inverses + inverse_sum (true_ranks (place + 1) gs)) (sym (is 0)) ∙ h.inverses));
    }

-- ---- the estimate
near_of : (high : Bool) (passed : Passed) (rs : List ℕ) (sum rest inverses : ℕ) → AreApart high passed → ArePositive rs → passed.near.parts + ranked_sum (worth_of high) (passed.near.found + 1) rs ≡ sum →
    rest ≡ ranked_sum (worth_of high) (passed.far.found + 1) rs → inverses ≡ inverse_sum rs → IsNear high sum (passed.near.parts + rest) (passed.unjudged * inverses)
near_of true passed rs sum rest inverses a p h e f =
    let from : passed.near.found + 1 ≡ passed.far.found + 1 + passed.unjudged = omega (arith, a) in
    let same : ranked_sum high_part (passed.near.found + 1) rs ≡ ranked_sum high_part (passed.far.found + 1 + passed.unjudged) rs = ap (λ (k : ℕ). ranked_sum high_part k rs) from in
    let times : passed.unjudged * inverses ≡ passed.unjudged * inverse_sum rs = ap (λ (k : ℕ). passed.unjudged * k) f in
    omega (arith, same, times, e, h, sum_more true (passed.far.found + 1) passed.unjudged rs p)
near_of false passed rs sum rest inverses a p h e f =
    let from : passed.far.found + 1 ≡ passed.near.found + 1 + passed.unjudged = omega (arith, a) in
    let same : ranked_sum low_part (passed.far.found + 1) rs ≡ ranked_sum low_part (passed.near.found + 1 + passed.unjudged) rs = ap (λ (k : ℕ). ranked_sum low_part k rs) from in
    let times : passed.unjudged * inverses ≡ passed.unjudged * inverse_sum rs = ap (λ (k : ℕ). passed.unjudged * k) f in
    omega (arith, same, times, e, h, sum_more false (passed.near.found + 1) passed.unjudged rs p)

few_parts : (parts found place : ℕ) → parts ≤ found * PARTS_OF_ONE → found < place + 1 → place ≤ RANK_LIMIT → parts ≤ RANK_LIMIT * PARTS_OF_ONE
few_parts parts found place h l s =
    let most : found ≤ RANK_LIMIT = omega (arith, l, s) in omega (arith, h, mul-le-mul_right PARTS_OF_ONE most)

pub walk_passing : (high : Bool) (marks : List Mark) (docs : List ℕ) (place : ℕ) (passed : Passed) (totals : Totals) → place ≤ RANK_LIMIT → IsWalk high marks docs place passed → AreTotals high marks docs totals → IsPassing high marks docs totals passed
walk_passing high marks docs place passed totals short h t =
    let gs = gains_by high (along marks (drop place docs)) 0 in
    let rs = true_ranks (place + 1) gs in
    let here : passed.unjudged + 0 ≡ passed.unjudged = omega arith in
    let sum : passed.near.parts + ranked_sum (worth_of high) (passed.near.found + 1) rs ≡ candidate_sum high (along marks docs) passed.unjudged = h.near 0 ∙ ap (candidate_sum high (along marks docs)) here in
    record {
      within = omega (arith, h.opens);
      far = omega (arith, h.far, t.far);
      inverses = omega (arith, h.inverses, t.inverses);
      near_small = few_parts passed.near.parts passed.near.found place h.near_before.small h.near_before.few short;
      far_small = t.far_small;
      inverses_small = t.inverses_small;
      near = near_of high passed rs (candidate_sum high (along marks docs) passed.unjudged) (totals.far - passed.far.parts) (totals.inverses - passed.inverses) h.apart (ranks_positive (place + 1) gs (omega arith)) sum
          (omega (arith, h.far, t.far)) (omega (arith, h.inverses, t.inverses));
    }
