-- The least difference under precision, recall and R-precision, in counts of documents.
use Rattle.std.proofs.Common.{◌≡◌, ℕ, ◌+◌, ◌-◌, ◌<◌, ◌≤◌, min, max, Bool, true, false, not, ◌&&◌, nat_lt, List, [], length, take, length-take, count_by, ℤ, pos, ◌*ℤ◌, ◌-ℤ◌, ◌≤ℤ◌, arith, refl, ap, ◌∙◌, sym, subst}
use Rattle.std.specs.Prelude.{if◌then◌else◌}
use Rattle.std.specs.List.{range_with_len}
use Rattle.std.proofs.Math.Bool.{and-true}
use Rattle.std.proofs.lemmas.List.Sums.{count_by-le-length}
use Rattle.small_lemmas.proofs.Tests.{same_difference}
use Rattle.desk_model.specs.Mark.{is_unjudged, mark_at}
use Rattle.desk_model.specs.Classes.{only_count, precision_least}
use Rattle.desk_model.specs.Completion.{Completes, picked_value, with_picked}
use Rattle.desk_model.specs.Extremes.{InEvery, InSome}
use Rattle.desk_model.specs.Fraction.{Fraction, IsAtMost, IsAtLeast, over}
use Rattle.desk_model.specs.Ranking.{IsRanking, is_in}
use Rattle.desk_model.specs.Score.{score, true_among, true_count}
use Rattle.desk_model.specs.declared.types.Mark.{Mark}
use Rattle.desk_model.specs.declared.types.Mark.TheVariants.{Unjudged, Relevant, Other}
use Rattle.desk_model.specs.declared.types.MeasureName.{MeasureName}
use Rattle.desk_model.specs.declared.types.MeasureName.TheVariants.{Precision, Recall, RPrecision}
use Rattle.desk_model.proofs.Counts.{IsDistinct-take, count_by-agree, count_by-weaker}
use Rattle.desk_model.proofs.Completions.{with_picked-Completes}
use Rattle.desk_model.proofs.PrecisionEnds.{difference_outside, prefix_within, is_in_members, least_attained, over-pos, weaker}
use Rattle.desk_model.proofs.Topics.{over-den, score-den}
use Rattle.measure_laws.specs.Cases.{recall_pick}
use Rattle.measure_laws.specs.Classes.{judged_count, open_in, size_of}
use Rattle.measure_laws.specs.Differences.{IsLeastCase, IsNoGreater}
use Rattle.measure_laws.specs.Prefixes.{neutral, only_second}
use Rattle.measure_laws.specs.LeastDifference.{IsLeastDifference, IsPossible, IsSmallestOf, own_relevant, own_unjudged, possible_count, recall_relevant, rprec_lead, unjudged_count}
use Rattle.measure_laws.specs.RprecCase.{greedy_pick, greedy_truth}
use Rattle.measure_laws.proofs.LeastCases.{precision_least_case, recall_case}
use Rattle.measure_laws.proofs.LeastEnds.{at_least_no_greater, at_most_no_greater}
use Rattle.measure_laws.proofs.Ratios.{high_in, high_out, low_in, low_out, out_of}
use Rattle.measure_laws.proofs.RecallEnds.{choice_first, choice_neutral, choice_second, class_count, count_le_universe, every, is_neutral, neutral_count, over-max, recall_choice, true_count_classes}
use Rattle.measure_laws.proofs.RprecEnds.{count-is_among_first, count_picked, count_three, greedy_is, greedy_no_greater, greedy_second, in_first, total_bounds}

-- ---- a list's own documents
more_taken : (m : Mark) (c : Bool) → (picked_value false m && c) ≡ true → (picked_value true m && c) ≡ true
more_taken Relevant c h = h
more_taken Unjudged c h = absurd (cc)
more_taken Other c h = h

pub only_more : (marks : List Mark) (xs ys : List ℕ) → only_count false marks xs ys ≤ only_count true marks xs ys
only_more marks xs ys = count_by-weaker _ _ xs (every _ (λ d. more_taken (mark_at marks d) (not (is_in ys d))) xs)

-- ---- one completion has it, whose scores are m over d and n over d
ratio_case : (measure : MeasureName) (marks : List Mark) (a b : List ℕ) (truth : ℕ → Bool) → IsLeastCase measure marks a b truth → (m n d p q : ℕ) → 0 < d →
    score measure (length marks) truth a [] ≡ out_of m d → score measure (length marks) truth b [] ≡ out_of n d → m + q ≡ n + p → IsLeastDifference measure marks a b (pos p -ℤ pos q) d
ratio_case measure marks a b truth case m n d p q pd ex ey e =
    let x = score measure (length marks) truth a [] in
    let y = score measure (length marks) truth b [] in
    let low_there : (z : ℤ) (u : ℕ) → IsAtMost z u x y → IsAtMost z u (out_of m d) (out_of n d) =
    λ z u h. subst (λ (s : Fraction). IsAtMost z u s (out_of n d)) ex (subst (λ (s : Fraction). IsAtMost z u x s) ey h) in
    let low_back : (z : ℤ) (u : ℕ) → IsAtMost z u (out_of m d) (out_of n d) → IsAtMost z u x y =
    λ z u h. subst (λ (s : Fraction). IsAtMost z u x s) (sym ey) (subst (λ (s : Fraction). IsAtMost z u s (out_of n d)) (sym ex) h) in
    let high_there : (z : ℤ) (u : ℕ) → IsAtLeast z u x y → IsAtLeast z u (out_of m d) (out_of n d) =
    λ z u h. subst (λ (s : Fraction). IsAtLeast z u s (out_of n d)) ex (subst (λ (s : Fraction). IsAtLeast z u x s) ey h) in
    let high_back : (z : ℤ) (u : ℕ) → IsAtLeast z u (out_of m d) (out_of n d) → IsAtLeast z u x y =
    λ z u h. subst (λ (s : Fraction). IsAtLeast z u x s) (sym ey) (subst (λ (s : Fraction). IsAtLeast z u s (out_of n d)) (sym ex) h) in
    record {
      positive = pd;
      below = λ z u. (
        λ h. low_out z u m n d p q pd e (low_there z u (h truth [] [] case.completes)),
        λ h t ta tb c. at_most_no_greater z u x y _ _ (score-den measure _ _ _ _) (score-den measure _ _ _ _) (low_back z u (low_in z u m n d p q e h)) (case.least t ta tb c),
      );
      above = λ z u. (
        λ h. high_out z u m n d p q pd e (high_there z u (at_least_no_greater z u x y _ _ (score-den measure _ _ _ _) (score-den measure _ _ _ _) h.4 (case.least h.0 h.1 h.2 h.3))),
        λ h. (truth, [], [], case.completes, high_back z u (high_in z u m n d p q e h)),
      );
    }

-- ---- precision
pub precision_difference : (k : ℕ) (marks : List Mark) (a b : List ℕ) → 0 < k → IsRanking (length marks) a → IsRanking (length marks) b → IsLeastDifference (Precision k) marks a b (precision_least k marks a b) k
precision_difference k marks a b h ra rb =
    let truth = with_picked marks (only_second k a b) in
    ratio_case (Precision k) marks a b truth (precision_least_case k marks a b h ra rb) (true_among truth k a) (true_among truth k b) k (only_count false marks (take k a) (take k b)) (only_count true marks (take k b) (take k a)) h
    (over-pos (true_among truth k a) k h) (over-pos (true_among truth k b) k h)
    (let e = least_attained marks (take k a) (take k b) (IsDistinct-take k a ra.distinct) (IsDistinct-take k b rb.distinct) in omega (arith, e))

-- ---- recall
-- a leads where its own relevant documents are more than b's own that can be
pub leads_is : (k : ℕ) (marks : List Mark) (a b : List ℕ) (p q : ℕ) → IsRanking (length marks) a → IsRanking (length marks) b →
    p ≡ only_count false marks (take k a) (take k b) → q ≡ only_count true marks (take k b) (take k a) →
    let truth = with_picked marks (only_second k a b) in nat_lt q p ≡ nat_lt (true_among truth k b) (true_among truth k a)
leads_is k marks a b p q ra rb ep eq =
    let truth = with_picked marks (only_second k a b) in
    same_difference (true_among truth k a) (true_among truth k b) p q
    (omega (arith, ep, eq, least_attained marks (take k a) (take k b) (IsDistinct-take k a ra.distinct) (IsDistinct-take k b rb.distinct)))

relevant_by : (v : Bool) (r p q w none_q none_w all_p all_w none all first_own second_own : ℕ) →
    r ≡ p + q + w → none ≡ p + none_q + none_w → all ≡ all_p + q + all_w → all_p ≡ p + first_own → q ≡ none_q + second_own →
    (v ≡ true → w ≡ all_w) → (v ≡ false → w ≡ none_w) → r ≡ (if v then all - first_own else none + second_own)
relevant_by true r p q w none_q none_w all_p all_w none all first_own second_own er en ea ep eq t f = omega (arith, er, en, ea, ep, eq, t refl)
relevant_by false r p q w none_q none_w all_p all_w none all first_own second_own er en ea ep eq t f = omega (arith, er, en, ea, ep, eq, f refl)

neutral_where : (v u : Bool) (marks : List Mark) (n : ℕ) (xs ys : List ℕ) (w : ℕ) → w ≡ count_by (λ d. picked_value v (mark_at marks d) && is_neutral xs ys d) (range_with_len 0 n) → v ≡ u →
    w ≡ neutral_count (with_picked marks (λ _. u)) n xs ys
neutral_where v u marks n xs ys w e f = e ∙ ap (λ (t : Bool). count_by (λ d. picked_value t (mark_at marks d) && is_neutral xs ys d) (range_with_len 0 n)) f

-- what the counts say of a completion that makes b's own unjudged documents relevant, and neutral ones where a leads
pub record Chosen (v : Bool) (k : ℕ) (marks : List Mark) (a b : List ℕ) : Type 0 where
  pub lead : true_among (with_picked marks (recall_choice v (take k a) (take k b))) k a + only_count true marks (take k b) (take k a) ≡ true_among (with_picked marks (recall_choice v (take k a) (take k b))) k b + only_count false marks (take k a) (take k b)
  pub total : (first_own second_own : ℕ) → only_count true marks (take k a) (take k b) ≡ only_count false marks (take k a) (take k b) + first_own →
      only_count true marks (take k b) (take k a) ≡ only_count false marks (take k b) (take k a) + second_own →
      true_count (with_picked marks (recall_choice v (take k a) (take k b))) (length marks) ≡ (if v then possible_count marks - first_own else judged_count marks + second_own)

pub chosen_is : (v : Bool) (k : ℕ) (marks : List Mark) (a b : List ℕ) → IsRanking (length marks) a → IsRanking (length marks) b → Chosen v k marks a b
chosen_is v k marks a b ra rb =
    let n = length marks in
    let xs = take k a in
    let ys = take k b in
    let zs = range_with_len 0 n in
    let dx = IsDistinct-take k a ra.distinct in
    let dy = IsDistinct-take k b rb.distinct in
    let wx = prefix_within k n a ra in
    let wy = prefix_within k n b rb in
    let best = with_picked marks (recall_choice v xs ys) in
    let none = with_picked marks (λ _. false) in
    let every_one = with_picked marks (λ _. true) in
    let p : count_by (λ d. best d && not (is_in ys d)) xs ≡ only_count false marks xs ys =
    count_by-agree _ _ xs (weaker (λ d. is_in xs d ≡ true) _ (λ d e. choice_first v (is_in xs d) (is_in ys d) (mark_at marks d) e) xs (is_in_members xs)) in
    let q : count_by (λ d. best d && not (is_in xs d)) ys ≡ only_count true marks ys xs =
    count_by-agree _ _ ys (weaker (λ d. is_in ys d ≡ true) _ (λ d e. choice_second v (is_in xs d) (is_in ys d) (mark_at marks d) e) ys (is_in_members ys)) in
    let w : neutral_count best n xs ys ≡ count_by (λ d. picked_value v (mark_at marks d) && is_neutral xs ys d) zs =
    count_by-agree _ _ zs (every _ (λ d. choice_neutral v (is_in xs d) (is_in ys d) (mark_at marks d)) zs) in
    let in_best : true_count best n ≡ only_count false marks xs ys + only_count true marks ys xs + neutral_count best n xs ys = omega (arith, true_count_classes best n xs ys dx dy wx wy, p, q) in
    let in_none : judged_count marks ≡ only_count false marks xs ys + only_count false marks ys xs + neutral_count none n xs ys = true_count_classes none n xs ys dx dy wx wy in
    let in_all : possible_count marks ≡ only_count true marks xs ys + only_count true marks ys xs + neutral_count every_one n xs ys = true_count_classes every_one n xs ys dx dy wx wy in
    record {
      lead = omega (arith, difference_outside best xs ys dx dy, p, q);
      total = λ first_own second_own ef es.
          relevant_by v (true_count best n) (only_count false marks xs ys) (only_count true marks ys xs) (neutral_count best n xs ys) (only_count false marks ys xs) (neutral_count none n xs ys) (only_count true marks xs ys) (neutral_count every_one n xs ys)
          (judged_count marks) (possible_count marks) first_own second_own in_best in_none in_all ef es
          (λ e. neutral_where v true marks n xs ys (neutral_count best n xs ys) w e) (λ e. neutral_where v false marks n xs ys (neutral_count best n xs ys) w e);
    }

pub one_more : (r : ℕ) → 0 < max 1 r
one_more r = omega arith

-- what the closed form says, by the counts of a's own documents and of b's
recall_by : (v : Bool) (k : ℕ) (marks : List Mark) (a b : List ℕ) (r : ℕ) → nat_lt (only_count true marks (take k b) (take k a)) (only_count false marks (take k a) (take k b)) ≡ v →
    r ≡ (if v then possible_count marks - own_unjudged k marks a b else judged_count marks + own_unjudged k marks b a) → r ≡ recall_relevant k marks a b
recall_by v k marks a b r led e =
    let more = only_more marks (take k b) (take k a) in
    let whole : own_relevant k marks b a + own_unjudged k marks b a ≡ only_count true marks (take k b) (take k a) = omega (arith, more) in
    e ∙ ap (λ (t : Bool). if t then possible_count marks - own_unjudged k marks a b else judged_count marks + own_unjudged k marks b a) (sym led ∙ ap (λ (m : ℕ). nat_lt m (only_count false marks (take k a) (take k b))) (sym whole))

pub recall_difference : (k : ℕ) (marks : List Mark) (a b : List ℕ) → IsRanking (length marks) a → IsRanking (length marks) b → IsLeastDifference (Recall k) marks a b (precision_least k marks a b) (max 1 (recall_relevant k marks a b))
recall_difference k marks a b ra rb =
    let n = length marks in
    let truth = with_picked marks (recall_pick k marks a b) in
    let before = with_picked marks (only_second k a b) in
    let v = nat_lt (true_among before k b) (true_among before k a) in
    let chosen = chosen_is v k marks a b ra rb in
    let led = leads_is k marks a b _ _ ra rb refl refl in
    let own = only_more marks (take k a) (take k b) in
    let other = only_more marks (take k b) (take k a) in
    let total : true_count truth n ≡ recall_relevant k marks a b =
    recall_by v k marks a b (true_count truth n) led (chosen.total (own_unjudged k marks a b) (own_unjudged k marks b a) (omega (arith, own)) (omega (arith, other))) in
    let den : max 1 (true_count truth n) ≡ max 1 (recall_relevant k marks a b) = ap (max 1) total in
    let x : over (true_among truth k a) (true_count truth n) ≡ out_of (true_among truth k a) (max 1 (recall_relevant k marks a b)) =
    over-max (true_among truth k a) (true_count truth n) (count_le_universe truth n (take k a) (IsDistinct-take k a ra.distinct) (prefix_within k n a ra)) ∙ ap (out_of (true_among truth k a)) den in
    let y : over (true_among truth k b) (true_count truth n) ≡ out_of (true_among truth k b) (max 1 (recall_relevant k marks a b)) =
    over-max (true_among truth k b) (true_count truth n) (count_le_universe truth n (take k b) (IsDistinct-take k b rb.distinct) (prefix_within k n b rb)) ∙ ap (out_of (true_among truth k b)) den in
    ratio_case (Recall k) marks a b truth (recall_case k marks a b ra rb) (true_among truth k a) (true_among truth k b) (max 1 (recall_relevant k marks a b)) (only_count false marks (take k a) (take k b)) (only_count true marks (take k b) (take k a))
    (one_more (recall_relevant k marks a b)) x y chosen.lead

-- ---- R-precision
-- the unjudged documents of a's first r alone
pub open_size : (marks : List Mark) (a b : List ℕ) (r : ℕ) (relevant unjudged : ℕ) → IsRanking (length marks) a → relevant ≡ only_count false marks (take r a) (take r b) → relevant + unjudged ≡ only_count true marks (take r a) (take r b) →
    size_of (length marks) (open_in marks (only_second r b a)) ≡ unjudged
open_size marks a b r relevant unjudged ra er eu =
    let n = length marks in
    let zs = range_with_len 0 n in
    let e = only_second r b a in
    let dx = IsDistinct-take r a ra.distinct in
    let wx = prefix_within r n a ra in
    let all : count_by (λ d. open_in marks e d && true) zs ≡ size_of n (open_in marks e) = count_by-agree _ _ zs (every _ (λ d. and-true (open_in marks e d)) zs) in
    omega (
      arith,
      er,
      eu,
      all,
      count_picked marks (λ _. true) e zs,
      class_count (with_picked marks (λ _. false)) n (take r a) (take r b) dx wx,
      class_count (with_picked marks (λ _. true)) n (take r a) (take r b) dx wx,
    )

-- by how many relevant documents the greedy choice has the runs apart
pub greedy_lead : (marks : List Mark) (a b : List ℕ) (r : ℕ) → IsRanking (length marks) a → IsRanking (length marks) b → IsPossible marks r → let chosen = r - judged_count marks in
    true_among (greedy_truth marks a b r) r a + (own_relevant r marks b a + min chosen (own_unjudged r marks b a)) ≡
    true_among (greedy_truth marks a b r) r b + (own_relevant r marks a b + (chosen - (unjudged_count marks - own_unjudged r marks a b)))
greedy_lead marks a b r ra rb possible =
    let n = length marks in
    let zs = range_with_len 0 n in
    let best = greedy_truth marks a b r in
    let base = with_picked marks (λ _. false) in
    let first = only_second r b a in
    let second = only_second r a b in
    let both = neutral r a b in
    let dx = IsDistinct-take r a ra.distinct in
    let dy = IsDistinct-take r b rb.distinct in
    let wx = prefix_within r n a ra in
    let wy = prefix_within r n b rb in
    let chosen = r - judged_count marks in
    let own = own_relevant r marks a b in
    let other = own_relevant r marks b a in
    let more_own = only_more marks (take r a) (take r b) in
    let more_other = only_more marks (take r b) (take r a) in
    let size_first : size_of n (open_in marks first) ≡ own_unjudged r marks a b = open_size marks a b r own (own_unjudged r marks a b) ra refl (omega (arith, more_own)) in
    let size_second : size_of n (open_in marks second) ≡ own_unjudged r marks b a = open_size marks b a r other (own_unjudged r marks b a) rb refl (omega (arith, more_other)) in
    let open_all : unjudged_count marks ≡ size_of n (open_in marks first) + size_of n (open_in marks second) + size_of n (open_in marks both) =
    count_by-agree _ _ zs (every _ (λ d. and-true (is_unjudged (mark_at marks d))) zs) ∙ count_three (λ d. is_unjudged (mark_at marks d)) r a b zs in
    let picked_first : count_by (λ d. open_in marks first d && greedy_pick marks a b r d) zs ≡ min (chosen - size_of n (open_in marks second) - size_of n (open_in marks both)) (size_of n (open_in marks first)) =
    count_by-agree _ _ zs (every _ (λ d. in_first (is_unjudged (mark_at marks d)) (is_in (take r a) d) (is_in (take r b) d) _ _ _) zs)
    ∙ count-is_among_first (chosen - size_of n (open_in marks second) - size_of n (open_in marks both)) (open_in marks first) n in
    let picked_second : count_by (λ d. open_in marks second d && greedy_pick marks a b r d) zs ≡ min chosen (size_of n (open_in marks second)) =
    greedy_second marks a b r zs ∙ count-is_among_first chosen (open_in marks second) n in
    let first_is : count_by (λ d. best d && not (is_in (take r b) d)) (take r a) ≡ own + (chosen - (unjudged_count marks - own_unjudged r marks a b)) =
    omega (arith, sym (class_count best n (take r a) (take r b) dx wx), count_picked marks (greedy_pick marks a b r) first zs, class_count base n (take r a) (take r b) dx wx, picked_first, size_first, size_second, open_all, possible.0, possible.1) in
    let second_is : count_by (λ d. best d && not (is_in (take r a) d)) (take r b) ≡ other + min chosen (own_unjudged r marks b a) =
    omega (arith, sym (class_count best n (take r b) (take r a) dy wy), count_picked marks (greedy_pick marks a b r) second zs, class_count base n (take r b) (take r a) dy wy, picked_second, size_second) in
    omega (arith, difference_outside best (take r a) (take r b) dx dy, first_is, second_is)

pub among_few : (truth : ℕ → Bool) (r : ℕ) (a : List ℕ) → true_among truth r a ≤ r
among_few truth r a = omega (arith, count_by-le-length truth (take r a), length-take {A = ℕ} r a)

-- the greedy choice of so many relevant documents, as a fraction
record GreedyParts (marks : List Mark) (a b : List ℕ) (r : ℕ) : Type 0 where
  pub first : score RPrecision (length marks) (greedy_truth marks a b r) a [] ≡ out_of (true_among (greedy_truth marks a b r) r a) (max 1 r)
  pub second : score RPrecision (length marks) (greedy_truth marks a b r) b [] ≡ out_of (true_among (greedy_truth marks a b r) r b) (max 1 r)

greedy_parts : (marks : List Mark) (a b : List ℕ) (r : ℕ) → IsPossible marks r → GreedyParts marks a b r
greedy_parts marks a b r possible =
    let best = greedy_truth marks a b r in
    let total = (greedy_is marks a b r possible.0 possible.1).total in
    record {
      first = ap (λ (s : ℕ). over (true_among best s a) s) total ∙ over-max (true_among best r a) r (among_few best r a);
      second = ap (λ (s : ℕ). over (true_among best s b) s) total ∙ over-max (true_among best r b) r (among_few best r b);
    }

rprec_low_at : (marks : List Mark) (a b : List ℕ) → IsRanking (length marks) a → IsRanking (length marks) b → (z : ℤ) (u r : ℕ) → IsPossible marks r → InEvery RPrecision marks a b (IsAtMost z u) → (z *ℤ pos (max 1 r)) ≤ℤ (pos u *ℤ rprec_lead marks a b r)
rprec_low_at marks a b ra rb z u r possible h =
    let best = greedy_truth marks a b r in
    let parts = greedy_parts marks a b r possible in
    let here = h best [] [] (with_picked-Completes marks (greedy_pick marks a b r)) in
    low_out z u (true_among best r a) (true_among best r b) (max 1 r) _ _ (one_more r) (greedy_lead marks a b r ra rb possible)
    (subst (λ (s : Fraction). IsAtMost z u s (out_of (true_among best r b) (max 1 r))) parts.first (subst (λ (s : Fraction). IsAtMost z u (score RPrecision (length marks) best a []) s) parts.second here))

-- a completion against the greedy choice of as many
rprec_against : (marks : List Mark) (a b : List ℕ) → IsRanking (length marks) a → IsRanking (length marks) b → (truth : ℕ → Bool) → Completes marks truth → let r = true_count truth (length marks) in
    IsNoGreater (out_of (true_among (greedy_truth marks a b r) r a) (max 1 r)) (out_of (true_among (greedy_truth marks a b r) r b) (max 1 r)) (over (true_among truth r a) r) (over (true_among truth r b) r)
rprec_against marks a b ra rb truth c =
    let r = true_count truth (length marks) in
    let best = greedy_truth marks a b r in
    let bounds = total_bounds marks truth c in
    subst (λ (s : Fraction). IsNoGreater s (out_of (true_among best r b) (max 1 r)) (over (true_among truth r a) r) (over (true_among truth r b) r)) (over-max (true_among best r a) r (among_few best r a))
    (subst (λ (s : Fraction). IsNoGreater (over (true_among best r a) r) s (over (true_among truth r a) r) (over (true_among truth r b) r)) (over-max (true_among best r b) r (among_few best r b))
    (greedy_no_greater marks a b ra rb truth c r refl (greedy_is marks a b r bounds.0 bounds.1)))

rprec_low_in : (marks : List Mark) (a b : List ℕ) → IsRanking (length marks) a → IsRanking (length marks) b → (z : ℤ) (u : ℕ) → ((r : ℕ) → IsPossible marks r → (z *ℤ pos (max 1 r)) ≤ℤ (pos u *ℤ rprec_lead marks a b r)) → InEvery RPrecision marks a b (IsAtMost z u)
rprec_low_in marks a b ra rb z u h truth ta tb c =
    let r = true_count truth (length marks) in
    let best = greedy_truth marks a b r in
    let bounds = total_bounds marks truth c in
    at_most_no_greater z u (out_of (true_among best r a) (max 1 r)) (out_of (true_among best r b) (max 1 r)) (over (true_among truth r a) r) (over (true_among truth r b) r) (one_more r) (one_more r)
    (low_in z u (true_among best r a) (true_among best r b) (max 1 r) _ _ (greedy_lead marks a b r ra rb bounds) (h r bounds)) (rprec_against marks a b ra rb truth c)

-- the candidates with their differences at most some number
abbrev RprecAbove : List Mark → List ℕ → List ℕ → ℤ → ℕ → Type 0
RprecAbove marks a b z u = (r : ℕ) × IsPossible marks r × ((pos u *ℤ rprec_lead marks a b r) ≤ℤ (z *ℤ pos (max 1 r)))

rprec_high_out : (marks : List Mark) (a b : List ℕ) → IsRanking (length marks) a → IsRanking (length marks) b → (z : ℤ) (u : ℕ) → InSome RPrecision marks a b (IsAtLeast z u) → RprecAbove marks a b z u
rprec_high_out marks a b ra rb z u (truth, ta, tb, c, h) =
    let r = true_count truth (length marks) in
    let best = greedy_truth marks a b r in
    let bounds = total_bounds marks truth c in (
      r,
      bounds,
      high_out z u (true_among best r a) (true_among best r b) (max 1 r) _ _ (one_more r) (greedy_lead marks a b r ra rb bounds)
          (at_least_no_greater z u (out_of (true_among best r a) (max 1 r)) (out_of (true_among best r b) (max 1 r)) (over (true_among truth r a) r) (over (true_among truth r b) r) (over-den (true_among truth r a) r) (over-den (true_among truth r b) r) h (rprec_against marks a b ra rb truth c)),
    )

rprec_high_in : (marks : List Mark) (a b : List ℕ) → IsRanking (length marks) a → IsRanking (length marks) b → (z : ℤ) (u : ℕ) → RprecAbove marks a b z u → InSome RPrecision marks a b (IsAtLeast z u)
rprec_high_in marks a b ra rb z u (r, possible, h) =
    let best = greedy_truth marks a b r in
    let parts = greedy_parts marks a b r possible in
    let here = high_in z u (true_among best r a) (true_among best r b) (max 1 r) _ _ (greedy_lead marks a b r ra rb possible) h in (
      best,
      [],
      [],
      with_picked-Completes marks (greedy_pick marks a b r),
      subst (λ (s : Fraction). IsAtLeast z u (score RPrecision (length marks) best a []) s) (sym parts.second) (subst (λ (s : Fraction). IsAtLeast z u s (out_of (true_among best r b) (max 1 r))) (sym parts.first) here),
    )

pub rprec_differences : (marks : List Mark) (a b : List ℕ) → IsRanking (length marks) a → IsRanking (length marks) b → IsSmallestOf RPrecision marks a b (IsPossible marks) (rprec_lead marks a b) (max 1)
rprec_differences marks a b ra rb = record {
  positive = λ r possible. one_more r;
  below = λ z u. (λ h r possible. rprec_low_at marks a b ra rb z u r possible h, rprec_low_in marks a b ra rb z u);
  above = λ z u. (rprec_high_out marks a b ra rb z u, rprec_high_in marks a b ra rb z u);
}
