-- The least and the greatest difference under precision, in counts of documents.
use Rattle.std.proofs.Common.{◌≡◌, ℕ, zero, suc, ◌+◌, ◌*◌, ◌<◌, ◌≤◌, Bool, true, false, not, ◌&&◌, ◌||◌, nat_eq, List, [], ◌∷◌, take, length, count_by, ℤ, pos, arith, refl, ap, ◌∙◌}
use Rattle.std.specs.List.{IsDistinct, AllByRecursion}
use Rattle.std.proofs.Math.Nat.{mul-le-mul_right}
use Rattle.std.proofs.lemmas.Int.{ints}
use Rattle.std.proofs.lemmas.List.Elements.{recursion_from_All, All-take}
use borrow.Author.Differences.{up, down}
use Rattle.std.proofs.Math.Bool.{or-true}
use Rattle.std.proofs.lemmas.Bool.{eq-eqb}
use Rattle.desk_model.specs.Mark.{mark_at}
use Rattle.desk_model.specs.Completion.{Completes, picked_value, with_picked}
use Rattle.desk_model.specs.Classes.{only_count, precision_least, precision_most, precision_ends, prefix_count}
use Rattle.desk_model.specs.Ranking.{IsRanking, is_in}
use Rattle.desk_model.specs.Fraction.{over, IsAtMost, IsAtLeast}
use Rattle.desk_model.specs.Extremes.{AreExtremes, AreBounds}
use Rattle.desk_model.specs.declared.types.Mark.{Mark}
use Rattle.desk_model.specs.declared.types.Mark.TheVariants.{Unjudged, Relevant, Other}
use Rattle.desk_model.specs.declared.types.MeasureName.TheVariants.{Precision}
use Rattle.desk_model.proofs.Counts.{count_by-split, count_by-swap, count_by-weaker, count_by-agree, IsDistinct-take}
use Rattle.desk_model.proofs.Fractions.{at_most_in, at_least_in}
use Rattle.desk_model.proofs.Completions.{with_picked-Completes, allowed_least, allowed_most}
use Rattle.desk_model.proofs.Exact.{exact_extremes, at_most_least}
use Rattle.desk_model.proofs.Topics.{over-den}

-- the difference of two counts of true documents is that of the counts outside the other list
pub difference_outside : (p : ℕ → Bool) (xs ys : List ℕ) → IsDistinct nat_eq xs → IsDistinct nat_eq ys →
    count_by p xs + count_by (λ d. p d && not (is_in xs d)) ys ≡ count_by p ys + count_by (λ d. p d && not (is_in ys d)) xs
difference_outside p xs ys h k = omega (arith, count_by-split p (is_in ys) xs, count_by-split p (is_in xs) ys, count_by-swap p xs ys h k)

pub and_weaker : (b c e : Bool) → (b ≡ true → c ≡ true) → (b && e) ≡ true → (c && e) ≡ true
and_weaker true c e h k = ap (λ v. v && e) (h refl) ∙ k
and_weaker false c e h k = absurd (cc)

-- in every completion a list of documents has at least the relevant ones, and at most those that are not other
pub outside_least : (marks : List Mark) (truth : ℕ → Bool) (xs ys : List ℕ) → AllByRecursion (λ d. d < length marks) xs → Completes marks truth →
    only_count false marks xs ys ≤ count_by (λ d. truth d && not (is_in ys d)) xs
outside_least marks truth xs ys within c = count_by-weaker _ _ xs (each xs within)
  where
    each : (zs : List ℕ) → AllByRecursion (λ d. d < length marks) zs → AllByRecursion (λ d. (picked_value false (mark_at marks d) && not (is_in ys d)) ≡ true → (truth d && not (is_in ys d)) ≡ true) zs
    each [] h = tt
    each (z ∷ zs) h = (and_weaker (picked_value false (mark_at marks z)) (truth z) (not (is_in ys z)) (allowed_least (mark_at marks z) (truth z) (c z h.0)), each zs h.1)

pub outside_most : (marks : List Mark) (truth : ℕ → Bool) (xs ys : List ℕ) → AllByRecursion (λ d. d < length marks) xs → Completes marks truth →
    count_by (λ d. truth d && not (is_in ys d)) xs ≤ only_count true marks xs ys
outside_most marks truth xs ys within c = count_by-weaker _ _ xs (each xs within)
  where
    each : (zs : List ℕ) → AllByRecursion (λ d. d < length marks) zs → AllByRecursion (λ d. (truth d && not (is_in ys d)) ≡ true → (picked_value true (mark_at marks d) && not (is_in ys d)) ≡ true) zs
    each [] h = tt
    each (z ∷ zs) h = (and_weaker (truth z) (picked_value true (mark_at marks z)) (not (is_in ys z)) (allowed_most (mark_at marks z) (truth z) (c z h.0)), each zs h.1)

-- the unjudged documents of one list alone
abbrev pub in_second_only : List ℕ → List ℕ → ℕ → Bool
in_second_only xs ys d = is_in ys d && not (is_in xs d)

-- a bound of the difference in every completion
pub least_bound : (marks : List Mark) (truth : ℕ → Bool) (xs ys : List ℕ) → IsDistinct nat_eq xs → IsDistinct nat_eq ys →
    AllByRecursion (λ d. d < length marks) xs → AllByRecursion (λ d. d < length marks) ys → Completes marks truth →
    only_count false marks xs ys + count_by truth ys ≤ count_by truth xs + only_count true marks ys xs
least_bound marks truth xs ys dx dy wx wy c =
    omega (arith, difference_outside truth xs ys dx dy, outside_least marks truth xs ys wx c, outside_most marks truth ys xs wy c)

pub weaker : (P Q : ℕ → Type 0) → ((d : ℕ) → P d → Q d) → (xs : List ℕ) → AllByRecursion P xs → AllByRecursion Q xs
weaker P Q f [] h = tt
weaker P Q f (x ∷ xs) h = (f x h.0, weaker P Q f xs h.1)

-- each document of a list is in it
pub is_in_members : (xs : List ℕ) → AllByRecursion (λ d. is_in xs d ≡ true) xs
is_in_members [] = tt
is_in_members (x ∷ xs) =
    (ap (λ b. b || is_in xs x) (eq-eqb x x refl), weaker (λ d. is_in xs d ≡ true) (λ d. (nat_eq x d || is_in xs d) ≡ true) (λ d h. ap (λ b. nat_eq x d || b) h ∙ or-true (nat_eq x d)) xs (is_in_members xs))

at_first : (b e : Bool) (m : Mark) → e ≡ true → (picked_value (b && not e) m && not b) ≡ (picked_value false m && not b)
at_first true true m h = ap (λ v. v && false) refl
at_first false true m h = refl
at_first b false m h = absurd (cc)

at_second : (b e : Bool) (m : Mark) → b ≡ true → (picked_value (b && not e) m && not e) ≡ (picked_value true m && not e)
at_second true true Unjudged h = refl
at_second true true Relevant h = refl
at_second true true Other h = refl
at_second true false m h = refl
at_second false e m h = absurd (cc)

-- that bound is attained where the unjudged documents of the second list alone are picked
pub least_attained : (marks : List Mark) (xs ys : List ℕ) → IsDistinct nat_eq xs → IsDistinct nat_eq ys →
    let truth = with_picked marks (in_second_only xs ys) in only_count false marks xs ys + count_by truth ys ≡ count_by truth xs + only_count true marks ys xs
least_attained marks xs ys dx dy =
    let truth = with_picked marks (in_second_only xs ys) in
    let first : count_by (λ d. truth d && not (is_in ys d)) xs ≡ only_count false marks xs ys =
    count_by-agree _ _ xs (weaker (λ d. is_in xs d ≡ true) (λ d. (truth d && not (is_in ys d)) ≡ (picked_value false (mark_at marks d) && not (is_in ys d))) (λ d h. at_first (is_in ys d) (is_in xs d) (mark_at marks d) h) xs (is_in_members xs)) in
    let second : count_by (λ d. truth d && not (is_in xs d)) ys ≡ only_count true marks ys xs =
    count_by-agree _ _ ys (weaker (λ d. is_in ys d ≡ true) (λ d. (truth d && not (is_in xs d)) ≡ (picked_value true (mark_at marks d) && not (is_in xs d))) (λ d h. at_second (is_in ys d) (is_in xs d) (mark_at marks d) h) ys (is_in_members ys)) in
    omega (arith, difference_outside truth xs ys dx dy, first, second)

pub over-pos : (n k : ℕ) → 0 < k → over n k ≡ record { num = n; den = k }
over-pos n zero h = absurd (omega arith)
over-pos n (suc k) h = refl

-- a whole number against the difference of two counts out of k
pub count_at_most : (z : ℤ) (k m n : ℕ) → 0 < k → up z + n ≤ m + down z → IsAtMost z k (over m k) (over n k)
count_at_most z k m n h le =
    rw (over-pos m k h, over-pos n k h) (at_most_in z k (record { num = m; den = k }) (record { num = n; den = k }) (omega (arith, mul-le-mul_right (k * k) le)))

pub count_at_least : (z : ℤ) (k m n : ℕ) → 0 < k → m + down z ≤ up z + n → IsAtLeast z k (over m k) (over n k)
count_at_least z k m n h le =
    rw (over-pos m k h, over-pos n k h) (at_least_in z k (record { num = m; den = k }) (record { num = n; den = k }) (omega (arith, mul-le-mul_right (k * k) le)))

pub prefix_within : (k n : ℕ) (a : List ℕ) → IsRanking n a → AllByRecursion (λ d. d < n) (take k a)
prefix_within k n a r = recursion_from_All (λ d. d < n) (take k a) (All-take (λ d. d < n) k a r.within)

pub precision_extremes : (k : ℕ) (marks : List Mark) (a b : List ℕ) → 0 < k → IsRanking (length marks) a → IsRanking (length marks) b →
    AreExtremes (Precision k) k marks a b (precision_ends k marks a b)
precision_extremes k marks a b h ra rb =
    let xs = take k a in
    let ys = take k b in
    let dx = IsDistinct-take k a ra.distinct in
    let dy = IsDistinct-take k b rb.distinct in
    let wx = prefix_within k (length marks) a ra in
    let wy = prefix_within k (length marks) b rb in
    exact_extremes (Precision k) k marks a b (precision_least k marks a b) (precision_most k marks a b)
    (λ truth _ _ c. count_at_most (precision_least k marks a b) k (count_by truth xs) (count_by truth ys) h (omega (arith, ints, least_bound marks truth xs ys dx dy wx wy c)))
    (with_picked marks (in_second_only xs ys), [], [], with_picked-Completes marks (in_second_only xs ys), count_at_least (precision_least k marks a b) k _ _ h (omega (arith, ints, least_attained marks xs ys dx dy)))
    (λ truth _ _ c. count_at_least (precision_most k marks a b) k (count_by truth xs) (count_by truth ys) h (omega (arith, ints, least_bound marks truth ys xs dy dx wy wx c)))
    (with_picked marks (in_second_only ys xs), [], [], with_picked-Completes marks (in_second_only ys xs), count_at_most (precision_most k marks a b) k _ _ h (omega (arith, ints, least_attained marks ys xs dy dx)))

-- ---- the bounds of one run
prefix_least : (marks : List Mark) (truth : ℕ → Bool) (xs : List ℕ) → AllByRecursion (λ d. d < length marks) xs → Completes marks truth → count_by (with_picked marks (λ _. false)) xs ≤ count_by truth xs
prefix_least marks truth xs within c =
    count_by-weaker _ _ xs (weaker (λ d. d < length marks) (λ d. with_picked marks (λ _. false) d ≡ true → truth d ≡ true) (λ d h. allowed_least (mark_at marks d) (truth d) (c d h)) xs within)

prefix_most : (marks : List Mark) (truth : ℕ → Bool) (xs : List ℕ) → AllByRecursion (λ d. d < length marks) xs → Completes marks truth → count_by truth xs ≤ count_by (with_picked marks (λ _. true)) xs
prefix_most marks truth xs within c =
    count_by-weaker _ _ xs (weaker (λ d. d < length marks) (λ d. truth d ≡ true → with_picked marks (λ _. true) d ≡ true) (λ d h. allowed_most (mark_at marks d) (truth d) (c d h)) xs within)

pub score_at_most : (z : ℤ) (k m : ℕ) → 0 < k → up z ≤ m + down z → IsAtMost z k (over m k) (over 0 1)
score_at_most z k m h le =
    rw (over-pos m k h) (at_most_in z k (record { num = m; den = k }) (record { num = 0; den = 1 }) (omega (arith, mul-le-mul_right k le)))

pub score_at_least : (z : ℤ) (k m : ℕ) → 0 < k → m + down z ≤ up z → IsAtLeast z k (over m k) (over 0 1)
score_at_least z k m h le =
    rw (over-pos m k h) (at_least_in z k (record { num = m; den = k }) (record { num = 0; den = 1 }) (omega (arith, mul-le-mul_right k le)))

pub precision_bounds : (k : ℕ) (marks : List Mark) (a : List ℕ) → 0 < k → IsRanking (length marks) a →
    AreBounds (Precision k) k marks a (pos (prefix_count false k marks a)) (pos (prefix_count true k marks a))
precision_bounds k marks a h r =
    let low = prefix_count false k marks a in
    let high = prefix_count true k marks a in
    let w = prefix_within k (length marks) a r in
    record {
      low = record {
        so = λ truth _ c. score_at_most (pos low) k (count_by truth (take k a)) h (omega (arith, ints, prefix_least marks truth (take k a) w c));
        others = λ w f. at_most_least w (pos low) k (over low k) (over 0 1) (over-den low k) (over-den 0 1) (f (with_picked marks (λ _. false)) [] (with_picked-Completes marks (λ _. false)))
            (score_at_least (pos low) k low h (omega (arith, ints)));
      };
      high = record {
        so = λ truth _ c. score_at_least (pos high) k (count_by truth (take k a)) h (omega (arith, ints, prefix_most marks truth (take k a) w c));
        others = λ w f. at_most_least (pos high) w k (over high k) (over 0 1) (over-den high k) (over-den 0 1) (score_at_most (pos high) k high h (omega (arith, ints)))
            (f (with_picked marks (λ _. true)) [] (with_picked-Completes marks (λ _. true)));
      };
    }
