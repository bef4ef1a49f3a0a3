-- R-precision beyond both rankings: along three stretches the difference of the greedy choices falls evenly, so the ends of two of them are enough.
use Rattle.std.proofs.Common.{◌≡◌, ℕ, suc, ◌+◌, ◌-◌, ◌*◌, ◌<◌, ◌≤◌, min, max, Bool, true, false, not, ◌&&◌, ◌⊎◌, inl, inr, nat_lt, List, length, take, length-take, ℤ, pos, ◌*ℤ◌, ◌≤ℤ◌, arith, refl, ap, ◌∙◌, sym, subst}
use Rattle.std.specs.List.{range_with_len}
use Rattle.std.proofs.Math.Nat.{mul-le-mul_right, mul-pos}
use Rattle.std.proofs.Math.Bool.{and-true}
use Rattle.std.proofs.lemmas.Bool.{cases_lt, le-ltb}
use Rattle.std.proofs.lemmas.Bool.Decides.{nat_tests}
use Rattle.std.proofs.lemmas.List.{take_all}
use Rattle.std.proofs.lemmas.List.Sums.{count_by-le-length}
use Rattle.small_lemmas.proofs.Tests.{same_difference}
use Rattle.desk_model.specs.Mark.{is_unjudged, mark_at}
use Rattle.desk_model.specs.Classes.{only_count}
use Rattle.desk_model.specs.Completion.{with_picked}
use Rattle.desk_model.specs.Fraction.{Fraction, IsAtMost, IsAtLeast, over}
use Rattle.desk_model.specs.Ranking.{IsRanking, is_in}
use Rattle.desk_model.specs.Score.{true_among}
use Rattle.desk_model.specs.declared.types.Mark.{Mark}
use Rattle.desk_model.specs.declared.types.MeasureName.TheVariants.{RPrecision}
use Rattle.desk_model.proofs.Counts.{count_by-agree}
use Rattle.measure_laws.specs.Classes.{judged_count, open_in, size_of}
use Rattle.measure_laws.specs.Differences.{Scores, is_smaller}
use Rattle.measure_laws.specs.LeastDifference.{IsPossible, IsSmallestOf, own_relevant, own_unjudged, rprec_lead, unjudged_count}
use Rattle.measure_laws.specs.Prefixes.{neutral, only_second}
use Rattle.measure_laws.specs.RprecCase.{greedy_scores, greedy_truth}
use Rattle.measure_laws.specs.RprecStretches.{AreStretches, IsBeyond, IsCandidate, IsEven, others_used, second_used}
use Rattle.measure_laws.proofs.LeastDifferences.{among_few, greedy_lead, one_more, only_more, open_size, rprec_differences}
use Rattle.measure_laws.proofs.LeastEnds.{at_least_no_greater, at_most_no_greater}
use Rattle.measure_laws.proofs.Picks.{NoGreater, NoGreater-refl, not_smaller, smaller_no_greater}
use Rattle.measure_laws.proofs.Ratios.{high_in, high_out, low_in, low_out, out_of}
use Rattle.measure_laws.proofs.RecallEnds.{every, over-max}
use Rattle.measure_laws.proofs.RprecEnds.{count_three, greedy_positive}

-- ---- one greedy choice against another
-- by how many relevant documents a greedy choice has the runs apart
abbrev pub IsApart : List Mark → List ℕ → List ℕ → ℕ → ℕ → ℕ → Type 0
IsApart marks a b r first second = true_among (greedy_truth marks a b r) r a + second ≡ true_among (greedy_truth marks a b r) r b + first

pub scaled_test : (m n k : ℕ) → 0 < k → nat_lt (m * k) (n * k) ≡ nat_lt m n
scaled_test m n k h = by_test (nat_lt m n) refl
  where
    by_test : (b : Bool) → nat_lt m n ≡ b → nat_lt (m * k) (n * k) ≡ b
    by_test true e =
        let less : suc m ≤ n = grind (arith, nat_tests) in
        let more = mul-le-mul_right k less in grind (arith, nat_tests)
    by_test false e =
        let less : n ≤ m = grind (arith, nat_tests) in
        let more = mul-le-mul_right k less in grind (arith, nat_tests)

-- the test of four scores with two denominators, in gains
pub test_step : (m n x y r s first second first' second' : ℕ) → 0 < r → 0 < s → m + second ≡ n + first → x + second' ≡ y + first' →
    nat_lt ((m * r) * (s * s) + (y * s) * (r * r)) ((x * s) * (r * r) + (n * r) * (s * s)) ≡ nat_lt (first * s + second' * r) (first' * r + second * s)
test_step m n x y r s first second first' second' pr ps e f =
    let left : (m * r) * (s * s) + (y * s) * (r * r) ≡ (m * s + y * r) * (r * s) = omega arith in
    let right : (x * s) * (r * r) + (n * r) * (s * s) ≡ (x * r + n * s) * (r * s) = omega arith in
    ap (λ k. nat_lt k ((x * s) * (r * r) + (n * r) * (s * s))) left ∙ ap (λ k. nat_lt ((m * s + y * r) * (r * s)) k) right ∙ scaled_test (m * s + y * r) (x * r + n * s) (r * s) (mul-pos pr ps)
    ∙ same_difference (first' * r + second * s) (first * s + second' * r) (x * r + n * s) (m * s + y * r) (omega (arith, ap (λ k. k * s) e, ap (λ k. k * r) f))

pub greedy_smaller : (marks : List Mark) (a b : List ℕ) (r s first second first' second' : ℕ) → IsApart marks a b r first second → IsApart marks a b s first' second' →
    is_smaller (greedy_scores marks a b r) (greedy_scores marks a b s) ≡ nat_lt (first * max 1 s + second' * max 1 r) (first' * max 1 r + second * max 1 s)
greedy_smaller marks a b r s first second first' second' h k =
    let here = greedy_truth marks a b r in
    let there = greedy_truth marks a b s in
    rw (over-max (true_among here r a) r (among_few here r a), over-max (true_among here r b) r (among_few here r b), over-max (true_among there s a) s (among_few there s a), over-max (true_among there s b) s (among_few there s b))
    (test_step (true_among here r a) (true_among here r b) (true_among there s a) (true_among there s b) (max 1 r) (max 1 s) first second first' second' (omega arith) (omega arith) h k)

-- ---- sizes
-- the sizes of the three classes together
pub class_sizes : (marks : List Mark) (a b : List ℕ) (r : ℕ) → unjudged_count marks ≡
    size_of (length marks) (open_in marks (only_second r b a)) + size_of (length marks) (open_in marks (only_second r a b)) + size_of (length marks) (open_in marks (neutral r a b))
class_sizes marks a b r =
    let zs = range_with_len 0 (length marks) in count_by-agree _ _ zs (every _ (λ d. and-true (is_unjudged (mark_at marks d))) zs) ∙ count_three (λ d. is_unjudged (mark_at marks d)) r a b zs

-- the own unjudged documents of both are among all, and a run has no more own ones than documents there
record AreSizes (marks : List Mark) (a b : List ℕ) (r : ℕ) : Type 0 where
  pub both : own_unjudged r marks a b + own_unjudged r marks b a ≤ unjudged_count marks
  pub short : own_relevant r marks a b + own_unjudged r marks a b ≤ r

sizes_are : (marks : List Mark) (a b : List ℕ) (r : ℕ) → IsRanking (length marks) a → IsRanking (length marks) b → AreSizes marks a b r
sizes_are marks a b r ra rb =
    let more = only_more marks (take r a) (take r b) in
    let other = only_more marks (take r b) (take r a) in
    record {
      both = omega (
        arith,
        class_sizes marks a b r,
        open_size marks a b r (own_relevant r marks a b) (own_unjudged r marks a b) ra refl (omega (arith, more)),
        open_size marks b a r (own_relevant r marks b a) (own_unjudged r marks b a) rb refl (omega (arith, other)),
      );
      short = omega (arith, more, count_by-le-length (λ d. with_picked marks (λ _. true) d && not (is_in (take r b) d)) (take r a), length-take {A = ℕ} r a);
    }

-- ---- beyond both rankings
-- a prefix beyond the length of its list
pub same_take : (xs : List ℕ) (r s : ℕ) → r ≤ s → (r < s → length xs ≤ r) → take s xs ≡ take r xs
same_take xs r s le f = elim (cases_lt r s) [
  | inl less ↦ let short = f less in take_all s xs (omega arith) ∙ sym (take_all r xs short)
  | inr more ↦ let e : s ≡ r = omega arith in ap (λ (k : ℕ). take k xs) e
]

-- how many relevant documents apart the runs are at a later number, by their own documents at an earlier one
apart_later : (marks : List Mark) (a b : List ℕ) (r s first second : ℕ) → IsRanking (length marks) a → IsRanking (length marks) b → IsBeyond marks a b r → r ≤ s → s ≤ judged_count marks + unjudged_count marks →
    first ≡ own_relevant r marks a b + (s - judged_count marks - (unjudged_count marks - own_unjudged r marks a b)) → second ≡ own_relevant r marks b a + min (s - judged_count marks) (own_unjudged r marks b a) → IsApart marks a b s first second
apart_later marks a b r s first second ra rb h le hi e1 e2 =
    let ea : take s a ≡ take r a = same_take a r s le (λ l. h.first (omega arith)) in
    let eb : take s b ≡ take r b = same_take b r s le (λ l. h.second (omega arith)) in
    let same : (taken : Bool) → only_count taken marks (take s a) (take s b) ≡ only_count taken marks (take r a) (take r b) = λ taken. ap (λ (xs : List ℕ). only_count taken marks xs (take s b)) ea ∙ ap (λ (ys : List ℕ). only_count taken marks (take r a) ys) eb in
    let turned : (taken : Bool) → only_count taken marks (take s b) (take s a) ≡ only_count taken marks (take r b) (take r a) = λ taken. ap (λ (ys : List ℕ). only_count taken marks ys (take s a)) eb ∙ ap (λ (xs : List ℕ). only_count taken marks (take r b) xs) ea in
    let own : own_unjudged s marks a b ≡ own_unjudged r marks a b = ap (λ m. m - only_count false marks (take s a) (take s b)) (same true) ∙ ap (λ m. only_count true marks (take r a) (take r b) - m) (same false) in
    let other : own_unjudged s marks b a ≡ own_unjudged r marks b a = ap (λ m. m - only_count false marks (take s b) (take s a)) (turned true) ∙ ap (λ m. only_count true marks (take r b) (take r a) - m) (turned false) in
    let possible : IsPossible marks s = (omega (arith, h.possible.0, le), hi) in
    moved (true_among (greedy_truth marks a b s) s a) (true_among (greedy_truth marks a b s) s b) _ _ _ _ _ _ _ _ (unjudged_count marks) (s - judged_count marks) first second (greedy_lead marks a b s ra rb possible) (same false) own (turned false) other e1 e2
  where
    moved : (x y p pu q qu p' pu' q' qu' u c f g : ℕ) → x + (q + min c qu) ≡ y + (p + (c - (u - pu))) → p ≡ p' → pu ≡ pu' → q ≡ q' → qu ≡ qu' → f ≡ p' + (c - (u - pu')) → g ≡ q' + min c qu' → x + g ≡ y + f
    moved x y p pu q qu p' pu' q' qu' u c f g e e1 e2 e3 e4 ef eg = rw (ef, eg, ← e1, ← e2, ← e3, ← e4) e

-- ---- stretches
-- the test of two choices of a stretch along which both counts grow evenly
stretch_test : (r f g up down i e : ℕ) → 0 < e →
    nat_lt ((f + up * (i + e)) * (r + i) + (g + down * i) * (r + (i + e))) ((f + up * i) * (r + (i + e)) + (g + down * (i + e)) * (r + i)) ≡ nat_lt (up * r + g) (f + down * r)
stretch_test r f g up down i e h =
    same_difference ((f + down * r) * e) ((up * r + g) * e) ((f + up * i) * (r + (i + e)) + (g + down * (i + e)) * (r + i)) ((f + up * (i + e)) * (r + i) + (g + down * i) * (r + (i + e))) (omega arith)
    ∙ scaled_test (up * r + g) (f + down * r) e h

-- numbers from one on, along which both counts grow evenly
record IsStretch (marks : List Mark) (a b : List ℕ) (r n up down f g : ℕ) : Type 0 where
  pub positive : 0 < n → 0 < r
  pub apart : (i : ℕ) → i ≤ n → IsApart marks a b (r + i) (f + up * i) (g + down * i)

stretch_falls : (marks : List Mark) (a b : List ℕ) (r n up down f g : ℕ) → IsStretch marks a b r n up down f g → (m k : ℕ) → m < k → k ≤ n →
    is_smaller (greedy_scores marks a b (r + k)) (greedy_scores marks a b (r + m)) ≡ nat_lt (up * r + g) (f + down * r)
stretch_falls marks a b r n up down f g h m k lt le =
    let more : 0 < r = h.positive (omega arith) in
    let e = k - m in
    greedy_smaller marks a b (r + k) (r + m) (f + up * k) (g + down * k) (f + up * m) (g + down * m) (h.apart k le) (h.apart m (omega arith)) ∙ read k (max 1 (r + m)) (max 1 (r + k)) e (omega arith) (omega (arith, more)) (omega (arith, more)) ∙ stretch_test r f g up down m e (omega arith)
  where
    read : (k s t e : ℕ) → k ≡ m + e → s ≡ r + m → t ≡ r + (m + e) → nat_lt ((f + up * k) * s + (g + down * m) * t) ((f + up * m) * t + (g + down * k) * s) ≡
        nat_lt ((f + up * (m + e)) * (r + m) + (g + down * m) * (r + (m + e))) ((f + up * m) * (r + (m + e)) + (g + down * (m + e)) * (r + m))
    read k s t e ek es et = rw (ek, es, et) refl

even_is : (marks : List Mark) (a b : List ℕ) (start end up down f g : ℕ) → IsStretch marks a b start (end - start) up down f g → IsEven marks a b start end (nat_lt (up * start + g) (f + down * start))
even_is marks a b start end up down f g h m k lo lt hi =
    let scores = greedy_scores marks a b in
    let falls = nat_lt (up * start + g) (f + down * start) in
    let em : start + (m - start) ≡ m = omega arith in
    let ek : start + (k - start) ≡ k = omega arith in
    subst (λ (x : ℕ). is_smaller (scores x) (scores m) ≡ falls) ek (subst (λ (x : ℕ). is_smaller (scores (start + (k - start))) (scores x) ≡ falls) em (stretch_falls marks a b start (end - start) up down f g h (m - start) (k - start) (omega arith) (omega arith)))

stretch_later : (marks : List Mark) (a b : List ℕ) (r start end up down f g : ℕ) → IsRanking (length marks) a → IsRanking (length marks) b → IsBeyond marks a b r → r ≤ start → start ≤ end → end ≤ judged_count marks + unjudged_count marks →
    ((i : ℕ) → start + i ≤ end → f + up * i ≡ own_relevant r marks a b + (start + i - judged_count marks - (unjudged_count marks - own_unjudged r marks a b))) →
    ((i : ℕ) → start + i ≤ end → g + down * i ≡ own_relevant r marks b a + min (start + i - judged_count marks) (own_unjudged r marks b a)) → IsStretch marks a b start (end - start) up down f g
stretch_later marks a b r start end up down f g ra rb h le order hi first second = record {
  positive = λ some. let here : 0 < r = h.positive (omega arith) in omega (arith, here, le);
  apart = λ i l. apart_later marks a b r (start + i) (f + up * i) (g + down * i) ra rb h (omega arith) (omega arith) (first i (omega arith)) (second i (omega arith));
}

pub stretches_are : (marks : List Mark) (a b : List ℕ) (r : ℕ) → IsRanking (length marks) a → IsRanking (length marks) b → IsBeyond marks a b r → AreStretches marks a b r
stretches_are marks a b r ra rb h =
    let sizes = sizes_are marks a b r ra rb in
    let both = sizes.both in
    let short = sizes.short in
    let low = h.possible.0 in
    let high = h.possible.1 in
    let used = second_used marks a b r in
    let left = others_used marks a b r in
    let all = judged_count marks + unjudged_count marks in
    let first : ℕ → ℕ = λ s. own_relevant r marks a b + (s - judged_count marks - (unjudged_count marks - own_unjudged r marks a b)) in
    let second : ℕ → ℕ = λ s. own_relevant r marks b a + min (s - judged_count marks) (own_unjudged r marks b a) in
    let order : used ≤ left = omega (arith, both) in
    let last : left ≤ all = omega (arith, both, high) in
    let from : r ≤ used = omega arith in
    record {
      order = order;
      last = last;
      first = (_, even_is marks a b r used 0 1 (first r) (second r) (stretch_later marks a b r r used 0 1 (first r) (second r) ra rb h (omega arith) from (omega (arith, order, last)) (λ i l. omega (arith, both, low, l)) (λ i l. omega (arith, both, low, l))));
      second = (_, even_is marks a b used left 0 0 (first used) (second used) (stretch_later marks a b r used left 0 0 (first used) (second used) ra rb h from order last (λ i l. omega (arith, both, low, l)) (λ i l. omega (arith, both, low, l))));
      third = λ m k lo lt hi.
          even_is marks a b left all 1 0 (first left) (second left) (stretch_later marks a b r left all 1 0 (first left) (second left) ra rb h (omega (arith, from, order)) last (omega arith) (λ i l. omega (arith, both, low, l)) (λ i l. omega (arith, both, low, l))) m k lo lt hi
          ∙ le-ltb (1 * left + second left) (first left + 0 * left) (omega (arith, both, short, low, high));
    }

-- ---- the ends of the stretches are enough
-- a whole number that is at most, or at least, unit times the difference at a number of relevant documents
abbrev IsUnder : List Mark → List ℕ → List ℕ → ℤ → ℕ → ℕ → Type 0
IsUnder marks a b z u s = (z *ℤ pos (max 1 s)) ≤ℤ (pos u *ℤ rprec_lead marks a b s)

abbrev IsOver : List Mark → List ℕ → List ℕ → ℤ → ℕ → ℕ → Type 0
IsOver marks a b z u s = (pos u *ℤ rprec_lead marks a b s) ≤ℤ (z *ℤ pos (max 1 s))

-- the scores of a greedy choice out of at least 1
score_is : (marks : List Mark) (a b : List ℕ) (s : ℕ) (ranking : List ℕ) → over (true_among (greedy_truth marks a b s) s ranking) s ≡ out_of (true_among (greedy_truth marks a b s) s ranking) (max 1 s)
score_is marks a b s ranking = over-max (true_among (greedy_truth marks a b s) s ranking) s (among_few (greedy_truth marks a b s) s ranking)

under_later : (marks : List Mark) (a b : List ℕ) (z : ℤ) (u s t : ℕ) → IsRanking (length marks) a → IsRanking (length marks) b → IsPossible marks s → IsPossible marks t → NoGreater (greedy_scores marks a b s) (greedy_scores marks a b t) → IsUnder marks a b z u s → IsUnder marks a b z u t
under_later marks a b z u s t ra rb ps pt less h =
    let x = greedy_scores marks a b s in
    let y = greedy_scores marks a b t in
    let m = true_among (greedy_truth marks a b s) s a in
    let n = true_among (greedy_truth marks a b s) s b in
    let p = true_among (greedy_truth marks a b t) t a in
    let q = true_among (greedy_truth marks a b t) t b in
    let here = low_in z u m n (max 1 s) _ _ (greedy_lead marks a b s ra rb ps) h in
    let read : IsAtMost z u x.first x.second = subst (λ (f : Fraction). IsAtMost z u f x.second) (sym (score_is marks a b s a)) (subst (λ (f : Fraction). IsAtMost z u (out_of m (max 1 s)) f) (sym (score_is marks a b s b)) here) in
    let there = at_most_no_greater z u x.first x.second y.first y.second (greedy_positive marks a b s).first (greedy_positive marks a b s).second read less in
    low_out z u p q (max 1 t) _ _ (one_more t) (greedy_lead marks a b t ra rb pt)
    (subst (λ (f : Fraction). IsAtMost z u f (out_of q (max 1 t))) (score_is marks a b t a) (subst (λ (f : Fraction). IsAtMost z u y.first f) (score_is marks a b t b) there))

over_earlier : (marks : List Mark) (a b : List ℕ) (z : ℤ) (u s t : ℕ) → IsRanking (length marks) a → IsRanking (length marks) b → IsPossible marks s → IsPossible marks t → NoGreater (greedy_scores marks a b s) (greedy_scores marks a b t) → IsOver marks a b z u t → IsOver marks a b z u s
over_earlier marks a b z u s t ra rb ps pt less h =
    let x = greedy_scores marks a b s in
    let y = greedy_scores marks a b t in
    let m = true_among (greedy_truth marks a b s) s a in
    let n = true_among (greedy_truth marks a b s) s b in
    let p = true_among (greedy_truth marks a b t) t a in
    let q = true_among (greedy_truth marks a b t) t b in
    let there = high_in z u p q (max 1 t) _ _ (greedy_lead marks a b t ra rb pt) h in
    let read : IsAtLeast z u y.first y.second = subst (λ (f : Fraction). IsAtLeast z u f y.second) (sym (score_is marks a b t a)) (subst (λ (f : Fraction). IsAtLeast z u (out_of p (max 1 t)) f) (sym (score_is marks a b t b)) there) in
    let here = at_least_no_greater z u x.first x.second y.first y.second (greedy_positive marks a b t).first (greedy_positive marks a b t).second read less in
    high_out z u m n (max 1 s) _ _ (one_more s) (greedy_lead marks a b s ra rb ps)
    (subst (λ (f : Fraction). IsAtLeast z u f (out_of n (max 1 s))) (score_is marks a b s a) (subst (λ (f : Fraction). IsAtLeast z u x.first f) (score_is marks a b s b) here))

-- one of both ends of a stretch is no greater than each number between them
even_ends : (marks : List Mark) (a b : List ℕ) (start end : ℕ) (falls : Bool) → IsEven marks a b start end falls → (x : ℕ) → start ≤ x → x ≤ end →
    NoGreater (greedy_scores marks a b start) (greedy_scores marks a b x) ⊎ NoGreater (greedy_scores marks a b end) (greedy_scores marks a b x)
even_ends marks a b start end true even x lo hi = elim (cases_lt x end) [
  | inl less ↦ inr (smaller_no_greater (greedy_scores marks a b end) (greedy_scores marks a b x) (even x end lo less (omega arith)))
  | inr more ↦ let same : end ≡ x = omega arith in inr (subst (λ (y : ℕ). NoGreater (greedy_scores marks a b end) (greedy_scores marks a b y)) same (NoGreater-refl (greedy_scores marks a b end)))
]
even_ends marks a b start end false even x lo hi = elim (cases_lt start x) [
  | inl less ↦ inl (not_smaller (greedy_scores marks a b start) (greedy_scores marks a b x) (even start x (omega arith) less hi))
  | inr more ↦ let same : start ≡ x = omega arith in inl (subst (λ (y : ℕ). NoGreater (greedy_scores marks a b start) (greedy_scores marks a b y)) same (NoGreater-refl (greedy_scores marks a b start)))
]

-- a candidate that is no greater than a number
record HasCandidate (marks : List Mark) (a b : List ℕ) (r x : ℕ) : Type 0 where
  pub number : ℕ
  pub candidate : IsCandidate marks a b r number
  pub no_greater : NoGreater (greedy_scores marks a b number) (greedy_scores marks a b x)

either_end : (marks : List Mark) (a b : List ℕ) (r start end x : ℕ) → IsCandidate marks a b r start → IsCandidate marks a b r end →
    NoGreater (greedy_scores marks a b start) (greedy_scores marks a b x) ⊎ NoGreater (greedy_scores marks a b end) (greedy_scores marks a b x) → HasCandidate marks a b r x
either_end marks a b r start end x cs ce (inl h) = record { number = start; candidate = cs; no_greater = h }
either_end marks a b r start end x cs ce (inr h) = record { number = end; candidate = ce; no_greater = h }

candidate_for : (marks : List Mark) (a b : List ℕ) (r x : ℕ) → IsPossible marks r → AreStretches marks a b r → IsPossible marks x → HasCandidate marks a b r x
candidate_for marks a b r x possible h px =
    let used = second_used marks a b r in
    let left = others_used marks a b r in
    elim (cases_lt r x) [
      | inl later ↦ elim (cases_lt used x) [
        | inl later' ↦ elim (cases_lt left x) [
          | inl last ↦ record {
            number = left;
            candidate = inr (inr refl);
            no_greater = not_smaller (greedy_scores marks a b left) (greedy_scores marks a b x) (h.third left x (omega arith) last px.1);
          }
          | inr within ↦ either_end marks a b r used left x (inr (inl refl)) (inr (inr refl)) (even_ends marks a b used left h.second.0 h.second.1 x (omega arith) within)
        ]
        | inr within ↦ either_end marks a b r r used x (inl (possible.0, omega arith)) (inr (inl refl)) (even_ends marks a b r used h.first.0 h.first.1 x (omega arith) within)
      ]
      | inr early ↦ record { number = x; candidate = inl (px.0, early); no_greater = NoGreater-refl (greedy_scores marks a b x) }
    ]

candidate_possible : (marks : List Mark) (a b : List ℕ) (r s : ℕ) → IsPossible marks r → AreStretches marks a b r → IsCandidate marks a b r s → IsPossible marks s
candidate_possible marks a b r s possible h (inl c) = (c.0, omega (arith, c.1, possible.1))
candidate_possible marks a b r s possible h (inr (inl e)) = (omega (arith, e, possible.0), omega (arith, e, h.order, h.last))
candidate_possible marks a b r s possible h (inr (inr e)) = (omega (arith, e, possible.0), omega (arith, e, h.last))

pub candidates_are_enough : (marks : List Mark) (a b : List ℕ) (r : ℕ) → IsRanking (length marks) a → IsRanking (length marks) b → IsBeyond marks a b r → IsSmallestOf RPrecision marks a b (IsCandidate marks a b r) (rprec_lead marks a b) (max 1)
candidates_are_enough marks a b r ra rb beyond =
    let whole = rprec_differences marks a b ra rb in
    let stretches = stretches_are marks a b r ra rb beyond in
    let possible : (s : ℕ) → IsCandidate marks a b r s → IsPossible marks s = λ s. candidate_possible marks a b r s beyond.possible stretches in
    let one : (x : ℕ) → IsPossible marks x → HasCandidate marks a b r x = λ x. candidate_for marks a b r x beyond.possible stretches in
    record {
      positive = λ s c. one_more s;
      below = λ z u. (
        λ h s c. (whole.below z u).0 h s (possible s c),
        λ h. (whole.below z u).1 (λ x px. let c = one x px in under_later marks a b z u c.number x ra rb (possible c.number c.candidate) px c.no_greater (h c.number c.candidate)),
      );
      above = λ z u. (
        λ h. let found = (whole.above z u).0 h in
            let c = one found.0 found.1 in (c.number, c.candidate, over_earlier marks a b z u c.number found.0 ra rb (possible c.number c.candidate) found.1 c.no_greater found.2),
        λ h. (whole.above z u).1 (h.0, possible h.0 h.1, h.2),
      );
    }
