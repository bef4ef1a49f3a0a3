-- Floors and ceilings that are the ends of a topic.
use Rattle.std.proofs.Common.{◌≡◌, ℕ, ◌+◌, ◌-◌, ◌^◌, ◌<◌, ◌≤◌, max, Bool, true, false, nat_lt, List, length, take, ℤ, pos, ◌*ℤ◌, ◌-ℤ◌, arith, refl, ap, ◌∙◌, subst}
use Rattle.std.specs.Prelude.{if◌then◌else◌}
use Rattle.std.specs.List.{range_with_len}
use Rattle.std.proofs.lemmas.Bool.Decides.{nat_tests}
use Rattle.std.proofs.lemmas.List.FromFn.{length-range_with_len}
use Rattle.std.proofs.lemmas.List.Sums.{count_by-le-length}
use Rattle.desk_model.specs.Classes.{only_count, precision_least}
use Rattle.desk_model.specs.Completion.{with_picked}
use Rattle.desk_model.specs.Extremes.{InEvery, IsGreatest, IsSmallest}
use Rattle.desk_model.specs.Floors.{IsFloor, IsCeiling}
use Rattle.desk_model.specs.Fraction.{over, IsAtMost, IsAtLeast}
use Rattle.desk_model.specs.Ranking.{IsRanking}
use Rattle.desk_model.specs.Score.{true_count}
use Rattle.desk_model.specs.declared.types.Mark.{Mark}
use Rattle.desk_model.specs.declared.types.MeasureName.{MeasureName}
use Rattle.desk_model.specs.declared.types.MeasureName.TheVariants.{Recall}
use Rattle.desk_model.proofs.Counts.{IsDistinct-take}
use Rattle.desk_model.proofs.PrecisionEnds.{over-pos, prefix_within}
use Rattle.measure_laws.specs.Classes.{judged_count}
use Rattle.measure_laws.specs.LeastDifference.{IsLeastDifference, own_relevant, own_unjudged, possible_count, recall_relevant}
use Rattle.measure_laws.proofs.LeastDifferences.{one_more, only_more, recall_difference}
use Rattle.measure_laws.proofs.Ratios.{high_in, high_out, out_of}
use Rattle.measure_laws.proofs.RecallEnds.{over-max, true_count_classes}
use Rattle.topic_ends.specs.declared.counts.RelevantCounts.{RelevantCounts}
use Rattle.topic_ends.proofs.Whole.{ceiling_whole}

-- the floor of a least difference
pub least_is : (m : MeasureName) (marks : List Mark) (a b : List ℕ) (num : ℤ) (den u : ℕ) (z : ℤ) → IsLeastDifference m marks a b num den → IsFloor (pos u *ℤ num) (pos den) z → IsGreatest (λ w. InEvery m marks a b (IsAtMost w u)) z
least_is m marks a b num den u z d floor = record { so = (d.below z u).1 floor.so; others = λ w h. floor.others w ((d.below w u).0 h) }

-- ---- the ceiling of the difference of two counts
ceiling_out : (u m n d : ℕ) (z : ℤ) → 0 < d → IsCeiling (pos u *ℤ (pos m -ℤ pos n)) (pos d) z → IsSmallest (λ w. IsAtLeast w u (out_of m d) (out_of n d)) z
ceiling_out u m n d z h ceiling =
    let even : m + n ≡ n + m = omega arith in
    record { so = high_in z u m n d m n even ceiling.so; others = λ w k. ceiling.others w (high_out w u m n d m n h even k) }

-- out of at least as many
pub ceiling_over : (u m n r : ℕ) (z : ℤ) → m ≤ r → n ≤ r → IsCeiling (pos u *ℤ (pos m -ℤ pos n)) (pos (max 1 r)) z → IsSmallest (λ w. IsAtLeast w u (over m r) (over n r)) z
ceiling_over u m n r z h k ceiling = rw (over-max m r h, over-max n r k) (ceiling_out u m n (max 1 r) z (one_more r) ceiling)

-- the same, as the code reads it
pub ceiling_is : (u m n r p q w : ℕ) (x z : ℤ) → p ≡ m → q ≡ n → w ≡ r → m ≤ r → n ≤ r → x ≡ z → IsCeiling (pos u *ℤ (pos p -ℤ pos q)) (pos (max 1 w)) z → IsSmallest (λ v. IsAtLeast v u (over m r) (over n r)) x
ceiling_is u m n r p q w x z em en er h k e ceiling =
    rw e (ceiling_over u m n r z h k (subst (λ (s : ℕ). IsCeiling (pos u *ℤ (pos m -ℤ pos n)) (pos (max 1 s)) z) er (subst (λ (s : ℕ). IsCeiling (pos u *ℤ (pos m -ℤ pos s)) (pos (max 1 w)) z) en (subst (λ (s : ℕ). IsCeiling (pos u *ℤ (pos s -ℤ pos q)) (pos (max 1 w)) z) em ceiling))))

-- out of k, in units of one over k
pub whole_upper : (k m n p q : ℕ) (z : ℤ) → 0 < k → z ≡ pos p -ℤ pos q → p ≡ m → q ≡ n → IsSmallest (λ w. IsAtLeast w k (over m k) (over n k)) z
whole_upper k m n p q z h e em en =
    let same : z ≡ pos m -ℤ pos n = e ∙ ap (λ s. pos s -ℤ pos q) em ∙ ap (λ s. pos m -ℤ pos s) en in
    let ceiling : IsCeiling (pos k *ℤ (pos m -ℤ pos n)) (pos k) z = rw same (ceiling_whole (pos m -ℤ pos n) k h) in
    rw (over-pos m k h, over-pos n k h) (ceiling_out k m n k z h ceiling)

-- ---- recall
-- the counts of the documents that a ranking has among its first k, and another not
pub record CountsFirst (k : ℕ) (marks : List Mark) (a b : List ℕ) (counts : RelevantCounts) : Type 0 where
  pub relevant : counts.relevant ≡ only_count false marks (take k a) (take k b)
  pub possible : counts.possible ≡ only_count true marks (take k a) (take k b)

whole_by : (t : Bool) (p q r u v j s whole : ℕ) → r ≡ q + v → nat_lt (q + v) p ≡ t → (r < p → whole ≡ s - u) → (p ≤ r → whole ≡ j + v) → whole ≡ (if t then s - u else j + v)
whole_by true p q r u v j s whole e f h k = h (let l : q + v < p = grind (arith, nat_tests, f) in omega arith)
whole_by false p q r u v j s whole e f h k = k (let l : p ≤ q + v = grind (arith, nat_tests, f) in omega arith)

pub recall_low : (k : ℕ) (marks : List Mark) (a b : List ℕ) (first second all : RelevantCounts) (whole : ℕ) (z : ℤ) → IsRanking (length marks) a → IsRanking (length marks) b → CountsFirst k marks a b first → CountsFirst k marks b a second →
    all.relevant ≡ judged_count marks → all.possible ≡ possible_count marks → (second.possible < first.relevant → whole ≡ all.possible - (first.possible - first.relevant)) → (first.relevant ≤ second.possible → whole ≡ all.relevant + (second.possible - second.relevant)) →
    IsFloor (pos (10 ^ 18) *ℤ (pos first.relevant -ℤ pos second.possible)) (pos (max 1 whole)) z → IsGreatest (λ w. InEvery (Recall k) marks a b (IsAtMost w (10 ^ 18))) z
recall_low k marks a b first second all whole z ra rb own other ej es led trails floor =
    let more = only_more marks (take k b) (take k a) in
    let unjudged : first.possible - first.relevant ≡ own_unjudged k marks a b = omega (arith, own.relevant, own.possible) in
    let its : second.possible - second.relevant ≡ own_unjudged k marks b a = omega (arith, other.relevant, other.possible) in
    let r : second.possible ≡ own_relevant k marks b a + own_unjudged k marks b a = omega (arith, other.relevant, other.possible, more) in
    let whole_is : whole ≡ recall_relevant k marks a b =
    whole_by (nat_lt (own_relevant k marks b a + own_unjudged k marks b a) (own_relevant k marks a b)) (own_relevant k marks a b) (own_relevant k marks b a) second.possible (own_unjudged k marks a b) (own_unjudged k marks b a) (judged_count marks) (possible_count marks) whole r refl
    (λ h. omega (arith, led (omega (arith, h, own.relevant)), es, unjudged)) (λ h. omega (arith, trails (omega (arith, h, own.relevant)), ej, its)) in
    let num : pos first.relevant -ℤ pos second.possible ≡ precision_least k marks a b = ap (λ n. pos n -ℤ pos second.possible) own.relevant ∙ ap (λ n. pos (own_relevant k marks a b) -ℤ pos n) other.possible in
    let read : IsFloor (pos (10 ^ 18) *ℤ precision_least k marks a b) (pos (max 1 (recall_relevant k marks a b))) z =
    subst (λ (n : ℕ). IsFloor (pos (10 ^ 18) *ℤ precision_least k marks a b) (pos (max 1 n)) z) whole_is (subst (λ (x : ℤ). IsFloor (pos (10 ^ 18) *ℤ x) (pos (max 1 whole)) z) num floor) in
    least_is (Recall k) marks a b (precision_least k marks a b) (max 1 (recall_relevant k marks a b)) (10 ^ 18) z (recall_difference k marks a b ra rb) read

-- no more documents are relevant than there are
pub count_few : (truth : ℕ → Bool) (n : ℕ) → true_count truth n ≤ n
count_few truth n = omega (arith, count_by-le-length truth (range_with_len 0 n), length-range_with_len 0 n)

-- nor does a ranking have more unjudged documents of its own than there can be relevant ones
pub own_few : (k : ℕ) (marks : List Mark) (a b : List ℕ) (own all : ℕ) → IsRanking (length marks) a → IsRanking (length marks) b → own ≡ only_count true marks (take k a) (take k b) → all ≡ possible_count marks → own ≤ all
own_few k marks a b own all ra rb eo ea =
    omega (arith, eo, ea, true_count_classes (with_picked marks (λ _. true)) (length marks) (take k a) (take k b) (IsDistinct-take k a ra.distinct) (IsDistinct-take k b rb.distinct) (prefix_within k (length marks) a ra) (prefix_within k (length marks) b rb))
