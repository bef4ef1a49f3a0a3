-- The least difference under recall, in counts of three classes of documents: only in the first list, only in the second, and the rest.
use Rattle.std.proofs.Common.{◌≡◌, ℕ, zero, suc, ◌+◌, ◌*◌, ◌<◌, ◌≤◌, ◌-◌, max, Bool, true, false, not, ◌&&◌, ◌||◌, nat_eq, List, [], ◌∷◌, take, length, count_by, arith, refl, ap, ◌∙◌, inl, inr, subst}
use Rattle.std.specs.List.{IsDistinct, AllByRecursion, range_with_len}
use Rattle.std.proofs.Math.Nat.{mul-le-mul_left, mul-le-mul_right, mul-le-mul}
use Rattle.std.proofs.lemmas.Bool.{cases_lt, eq-eqb}
use Rattle.std.proofs.Math.Bool.{or-true}
use Rattle.small_lemmas.proofs.Tests.{apart_below}
use Rattle.desk_model.specs.Mark.{mark_at}
use Rattle.desk_model.specs.Completion.{Completes, picked_value, with_picked}
use Rattle.desk_model.specs.Ranking.{IsRanking, is_in}
use Rattle.desk_model.specs.Fraction.{over}
use Rattle.desk_model.specs.Score.{true_count}
use Rattle.desk_model.specs.Classes.{only_count}
use Rattle.desk_model.proofs.Counts.{one_if, count_by-cons, count_by-swap, count_by-weaker, count_by-agree, IsDistinct-take}
use Rattle.desk_model.proofs.Completions.{allowed_least, allowed_most, with_picked-Completes}
use Rattle.desk_model.proofs.PrecisionEnds.{weaker, prefix_within, is_in_members, difference_outside, outside_least, outside_most, and_weaker}
use Rattle.measure_laws.specs.Differences.{IsNoGreater, IsLeastCase}
use Rattle.desk_model.specs.declared.types.Mark.{Mark}
use Rattle.desk_model.specs.declared.types.MeasureName.TheVariants.{Recall}

-- ---- numbers: p only in the first, q only in the second, v in neither class; primed the chosen ones
chosen_led : (p q v p' q' e : ℕ) → p' ≤ p → q ≤ q' → q' ≤ p' →
    p' * (p + q + v) + q * (p' + q' + (v + e)) ≤ p * (p' + q' + (v + e)) + q' * (p + q + v)
chosen_led p q v p' q' e h k l =
    let below : q ≤ p = omega arith in
    omega (arith, mul-le-mul h k, mul-le-mul_right v h, mul-le-mul_right v k, mul-le-mul_right e below)

chosen_trails : (p q v' p' q' e : ℕ) → p' ≤ p → q ≤ q' → p' ≤ q' →
    p' * (p + q + (v' + e)) + q * (p' + q' + v') ≤ p * (p' + q' + v') + q' * (p + q + (v' + e))
chosen_trails p q v' p' q' e h k l =
    omega (arith, mul-le-mul h k, mul-le-mul_right v' h, mul-le-mul_right v' k, mul-le-mul_right e l)

-- the same, where a number of relevant documents that is 0 is taken as 1
with_one : (p q r p' q' r' : ℕ) → p' ≤ p → q ≤ q' → p + q ≤ r → p' + q' ≤ r' → p' * r + q * r' ≤ p * r' + q' * r → p' * max 1 r + q * max 1 r' ≤ p * max 1 r' + q' * max 1 r
with_one p q zero p' q' r' h k l m le =
    let none_p : p ≡ 0 = omega arith in
    let none_q : q ≡ 0 = omega arith in
    let none_p' : p' ≡ 0 = omega arith in
    rw (none_p, none_q, none_p') (omega arith)
with_one p q (suc r) p' q' zero h k l m le =
    let none_p' : p' ≡ 0 = omega arith in
    let none_q' : q' ≡ 0 = omega arith in
    let none_q : q ≡ 0 = omega arith in
    rw (none_p', none_q', none_q) (omega arith)
with_one p q (suc r) p' q' (suc r') h k l m le =
    let one_r : max 1 (suc r) ≡ suc r = omega arith in
    let one_r' : max 1 (suc r') ≡ suc r' = omega arith in
    rw (one_r, one_r') le

-- a score out of a number of relevant documents that bounds it
pub over-max : (m r : ℕ) → m ≤ r → over m r ≡ record { num = m; den = max 1 r }
over-max m zero h = let none : m ≡ 0 = omega arith in rw none refl
over-max m (suc r) h = let one_r : max 1 (suc r) ≡ suc r = omega arith in rw one_r refl

-- ---- the classes in the whole universe
range_apart : (x start n : ℕ) → x < start → AllByRecursion (λ y. nat_eq x y ≡ false) (range_with_len start n)
range_apart x start zero h = tt
range_apart x start (suc n) h = (apart_below x start h, range_apart x (start + 1) n (omega arith))

pub IsDistinct-range : (start n : ℕ) → IsDistinct nat_eq (range_with_len start n)
unfolding IsDistinct
IsDistinct-range start zero = tt
IsDistinct-range start (suc n) = (range_apart start (start + 1) n (omega arith), IsDistinct-range (start + 1) n)

pub in_range : (start n d : ℕ) → start ≤ d → d < start + n → is_in (range_with_len start n) d ≡ true
in_range start zero d h k = absurd (omega arith)
in_range start (suc n) d h k = elim (cases_lt start d) [
  | inl later ↦ ap (λ b. nat_eq start d || b) (in_range (start + 1) n d (omega arith) (omega arith)) ∙ or-true (nat_eq start d)
  | inr here ↦ let same : start ≡ d = omega arith in ap (λ b. b || is_in (range_with_len (start + 1) n) d) (subst (λ (x : ℕ). nat_eq start x ≡ true) same (eq-eqb start start refl))
]

and_turn : (t o i : Bool) → (t && (i && not o)) ≡ ((t && not o) && i)
and_turn true true true = refl
and_turn true true false = refl
and_turn true false true = refl
and_turn true false false = refl
and_turn false o i = refl

and_known : (t o b : Bool) → b ≡ true → ((t && not o) && b) ≡ (t && not o)
and_known true true true h = refl
and_known true false true h = refl
and_known false o true h = refl
and_known t o false h = absurd (cc)

pub every : (P : ℕ → Type 0) → ((d : ℕ) → P d) → (xs : List ℕ) → AllByRecursion P xs
every P f [] = tt
every P f (x ∷ xs) = (f x, every P f xs)

-- the true documents of one list alone, counted in the universe
pub class_count : (p : ℕ → Bool) (n : ℕ) (xs ys : List ℕ) → IsDistinct nat_eq xs → AllByRecursion (λ d. d < n) xs →
    count_by (λ d. p d && (is_in xs d && not (is_in ys d))) (range_with_len 0 n) ≡ count_by (λ d. p d && not (is_in ys d)) xs
class_count p n xs ys dx wx =
    count_by-agree (λ d. p d && (is_in xs d && not (is_in ys d))) (λ d. (p d && not (is_in ys d)) && is_in xs d) (range_with_len 0 n)
    (every _ (λ d. and_turn (p d) (is_in ys d) (is_in xs d)) (range_with_len 0 n))
    ∙ count_by-swap (λ d. p d && not (is_in ys d)) (range_with_len 0 n) xs (IsDistinct-range 0 n) dx
    ∙ count_by-agree (λ d. (p d && not (is_in ys d)) && is_in (range_with_len 0 n) d) (λ d. p d && not (is_in ys d)) xs
    (weaker (λ d. d < n) _ (λ d h. and_known (p d) (is_in ys d) (is_in (range_with_len 0 n) d) (in_range 0 n d (omega arith) (omega (arith, h)))) xs wx)

-- in neither class
abbrev pub is_neutral : List ℕ → List ℕ → ℕ → Bool
is_neutral xs ys d = not (is_in ys d && not (is_in xs d)) && not (is_in xs d && not (is_in ys d))

abbrev pub neutral_count : (ℕ → Bool) → ℕ → List ℕ → List ℕ → ℕ
neutral_count p n xs ys = count_by (λ d. p d && is_neutral xs ys d) (range_with_len 0 n)

pub three : (t i j : Bool) → one_if t ≡ one_if (t && (i && not j)) + one_if (t && (j && not i)) + one_if (t && (not (j && not i) && not (i && not j)))
three true true true = refl
three true true false = refl
three true false true = refl
three true false false = refl
three false i j = refl

count_three : (p : ℕ → Bool) (xs ys zs : List ℕ) → count_by p zs ≡ count_by (λ d. p d && (is_in xs d && not (is_in ys d))) zs + count_by (λ d. p d && (is_in ys d && not (is_in xs d))) zs + count_by (λ d. p d && is_neutral xs ys d) zs
count_three p xs ys [] = refl
count_three p xs ys (z ∷ zs) =
    omega (
      arith,
      count_by-cons p z zs,
      count_by-cons (λ d. p d && (is_in xs d && not (is_in ys d))) z zs,
      count_by-cons (λ d. p d && (is_in ys d && not (is_in xs d))) z zs,
      count_by-cons (λ d. p d && is_neutral xs ys d) z zs,
      three (p z) (is_in xs z) (is_in ys z),
      count_three p xs ys zs,
    )

-- the number of true documents, by classes
pub true_count_classes : (p : ℕ → Bool) (n : ℕ) (xs ys : List ℕ) → IsDistinct nat_eq xs → IsDistinct nat_eq ys → AllByRecursion (λ d. d < n) xs → AllByRecursion (λ d. d < n) ys →
    true_count p n ≡ count_by (λ d. p d && not (is_in ys d)) xs + count_by (λ d. p d && not (is_in xs d)) ys + neutral_count p n xs ys
true_count_classes p n xs ys dx dy wx wy =
    omega (arith, count_three p xs ys (range_with_len 0 n), class_count p n xs ys dx wx, class_count p n ys xs dy wy)

-- ---- the least case
abbrev pub recall_choice : Bool → List ℕ → List ℕ → ℕ → Bool
recall_choice v xs ys d = (is_in ys d && not (is_in xs d)) || (v && is_neutral xs ys d)

-- the value that a chosen completion gives where the two lists differ, and elsewhere
and_false' : (b c : Bool) → (b && false) ≡ (c && false)
and_false' true true = refl
and_false' true false = refl
and_false' false true = refl
and_false' false false = refl

pub choice_first : (v i j : Bool) (m : Mark) → i ≡ true → (picked_value ((j && not i) || (v && (not (j && not i) && not (i && not j)))) m && not j) ≡ (picked_value false m && not j)
choice_first v true true m h = and_false' (picked_value ((true && not true) || (v && (not (true && not true) && not (true && not true)))) m) (picked_value false m)
choice_first true true false m h = refl
choice_first false true false m h = refl
choice_first v false j m h = absurd (cc)

pub choice_second : (v i j : Bool) (m : Mark) → j ≡ true → (picked_value ((j && not i) || (v && (not (j && not i) && not (i && not j)))) m && not i) ≡ (picked_value true m && not i)
choice_second v true true m h = and_false' (picked_value ((true && not true) || (v && (not (true && not true) && not (true && not true)))) m) (picked_value true m)
choice_second v false true m h = refl
choice_second v i false m h = absurd (cc)

pub choice_neutral : (v i j : Bool) (m : Mark) → (picked_value ((j && not i) || (v && (not (j && not i) && not (i && not j)))) m && (not (j && not i) && not (i && not j))) ≡ (picked_value v m && (not (j && not i) && not (i && not j)))
choice_neutral true true true m = refl
choice_neutral false true true m = refl
choice_neutral v true false m = and_false' (picked_value ((false && not true) || (v && (not (true && not false) && not (false && not true)))) m) (picked_value v m)
choice_neutral v false true m = and_false' (picked_value ((true && not false) || (v && (not (false && not true) && not (true && not false)))) m) (picked_value v m)
choice_neutral true false false m = refl
choice_neutral false false false m = refl

-- ---- bounds of a class in every completion
pub class_least : (marks : List Mark) (truth e : ℕ → Bool) (zs : List ℕ) → AllByRecursion (λ d. d < length marks) zs → Completes marks truth →
    count_by (λ d. picked_value false (mark_at marks d) && e d) zs ≤ count_by (λ d. truth d && e d) zs
class_least marks truth e zs within c =
    count_by-weaker _ _ zs (weaker (λ d. d < length marks) _ (λ d h. and_weaker (picked_value false (mark_at marks d)) (truth d) (e d) (allowed_least (mark_at marks d) (truth d) (c d h))) zs within)

pub class_most : (marks : List Mark) (truth e : ℕ → Bool) (zs : List ℕ) → AllByRecursion (λ d. d < length marks) zs → Completes marks truth →
    count_by (λ d. truth d && e d) zs ≤ count_by (λ d. picked_value true (mark_at marks d) && e d) zs
class_most marks truth e zs within c =
    count_by-weaker _ _ zs (weaker (λ d. d < length marks) _ (λ d h. and_weaker (truth d) (picked_value true (mark_at marks d)) (e d) (allowed_most (mark_at marks d) (truth d) (c d h))) zs within)

range_within : (start n : ℕ) → AllByRecursion (λ d. d < start + n) (range_with_len start n)
range_within start zero = tt
range_within start (suc n) = (omega arith, weaker (λ d. d < start + 1 + n) (λ d. d < start + suc n) (λ d h. omega (arith, h)) (range_with_len (start + 1) n) (range_within (start + 1) n))

pub range_below : (n : ℕ) → AllByRecursion (λ d. d < n) (range_with_len 0 n)
range_below n = weaker (λ d. d < 0 + n) (λ d. d < n) (λ d h. omega (arith, h)) (range_with_len 0 n) (range_within 0 n)

and_first : (b c : Bool) → (b && c) ≡ true → b ≡ true
and_first true c h = refl
and_first false c h = absurd (cc)

and_true_is : (b c : Bool) → c ≡ true → (b && c) ≡ b
and_true_is true true h = refl
and_true_is false true h = refl
and_true_is b false h = absurd (cc)

-- a list of different documents has no more true ones than the universe
pub count_le_universe : (p : ℕ → Bool) (n : ℕ) (xs : List ℕ) → IsDistinct nat_eq xs → AllByRecursion (λ d. d < n) xs → count_by p xs ≤ true_count p n
count_le_universe p n xs dx wx =
    let inside : count_by (λ d. p d && is_in (range_with_len 0 n) d) xs ≡ count_by p xs =
    count_by-agree (λ d. p d && is_in (range_with_len 0 n) d) p xs (weaker (λ d. d < n) _ (λ d h. and_true_is (p d) (is_in (range_with_len 0 n) d) (in_range 0 n d (omega arith) (omega (arith, h)))) xs wx) in
    let swapped : count_by (λ d. p d && is_in (range_with_len 0 n) d) xs ≡ count_by (λ d. p d && is_in xs d) (range_with_len 0 n) =
    count_by-swap p xs (range_with_len 0 n) dx (IsDistinct-range 0 n) in
    let fewer : count_by (λ d. p d && is_in xs d) (range_with_len 0 n) ≤ count_by p (range_with_len 0 n) =
    count_by-weaker (λ d. p d && is_in xs d) p (range_with_len 0 n) (every _ (λ d. and_first (p d) (is_in xs d)) (range_with_len 0 n)) in
    omega (arith, inside, swapped, fewer)

-- the inequality of the three classes, for either choice of the neutral ones
chosen : (v : Bool) (p q w p' q' w' : ℕ) → p' ≤ p → q ≤ q' → (v ≡ true → (q' ≤ p') × (w ≤ w')) → (v ≡ false → (p' ≤ q') × (w' ≤ w)) →
    p' * (p + q + w) + q * (p' + q' + w') ≤ p * (p' + q' + w') + q' * (p + q + w)
chosen true p q w p' q' w' h k t f =
    let known = t refl in
    let split : w + (w' - w) ≡ w' = omega (arith, known.1) in
    subst (λ (n : ℕ). p' * (p + q + w) + q * (p' + q' + n) ≤ p * (p' + q' + n) + q' * (p + q + w)) split (chosen_led p q w p' q' (w' - w) h k known.0)
chosen false p q w p' q' w' h k t f =
    let known = f refl in
    let split : w' + (w - w') ≡ w = omega (arith, known.1) in
    subst (λ (n : ℕ). p' * (p + q + n) + q * (p' + q' + w') ≤ p * (p' + q' + w') + q' * (p + q + n)) split (chosen_trails p q w' p' q' (w - w') h k known.0)

-- from classes to the counts of the two lists
from_classes : (a b p q a' b' p' q' m m' : ℕ) → a + q ≡ b + p → a' + q' ≡ b' + p' → p' * m + q * m' ≤ p * m' + q' * m → a' * m + b * m' ≤ a * m' + b' * m
from_classes a b p q a' b' p' q' m m' e e' le =
    omega (arith, ap (λ s. s * m') e, ap (λ s. s * m) e', le)

pub no_greater_of : (a b r a' b' r' : ℕ) → a ≤ r → b ≤ r → a' ≤ r' → b' ≤ r' → a' * max 1 r + b * max 1 r' ≤ a * max 1 r' + b' * max 1 r → IsNoGreater (over a' r') (over b' r') (over a r) (over b r)
no_greater_of a b r a' b' r' h k h' k' le =
    rw (over-max a' r' h', over-max b' r' k', over-max a r h, over-max b r k) (omega (arith, mul-le-mul_left (max 1 r * max 1 r') le))

neutral_more : (v : Bool) (marks : List Mark) (n : ℕ) (xs ys : List ℕ) (w w' : ℕ) → v ≡ true → w' ≡ count_by (λ d. picked_value v (mark_at marks d) && is_neutral xs ys d) (range_with_len 0 n) →
    w ≤ count_by (λ d. picked_value true (mark_at marks d) && is_neutral xs ys d) (range_with_len 0 n) → w ≤ w'
neutral_more true marks n xs ys w w' e f le = omega (arith, f, le)
neutral_more false marks n xs ys w w' e f le = absurd (cc)

neutral_fewer : (v : Bool) (marks : List Mark) (n : ℕ) (xs ys : List ℕ) (w w' : ℕ) → v ≡ false → w' ≡ count_by (λ d. picked_value v (mark_at marks d) && is_neutral xs ys d) (range_with_len 0 n) →
    count_by (λ d. picked_value false (mark_at marks d) && is_neutral xs ys d) (range_with_len 0 n) ≤ w → w' ≤ w
neutral_fewer false marks n xs ys w w' e f le = omega (arith, f, le)
neutral_fewer true marks n xs ys w w' e f le = absurd (cc)

-- the chosen completion has the least difference
pub recall_least_case : (k : ℕ) (marks : List Mark) (a b : List ℕ) → IsRanking (length marks) a → IsRanking (length marks) b → (v : Bool) →
    (v ≡ true → only_count true marks (take k b) (take k a) ≤ only_count false marks (take k a) (take k b)) →
    (v ≡ false → only_count false marks (take k a) (take k b) ≤ only_count true marks (take k b) (take k a)) →
    IsLeastCase (Recall k) marks a b (with_picked marks (recall_choice v (take k a) (take k b)))
recall_least_case k marks a b ra rb v led trails =
    let n = length marks in
    let xs = take k a in
    let ys = take k b in
    let dx = IsDistinct-take k a ra.distinct in
    let dy = IsDistinct-take k b rb.distinct in
    let wx = prefix_within k n a ra in
    let wy = prefix_within k n b rb in
    let best = with_picked marks (recall_choice v xs ys) in
    let p' : count_by (λ d. best d && not (is_in ys d)) xs ≡ only_count false marks xs ys =
    count_by-agree _ _ xs (weaker (λ d. is_in xs d ≡ true) _ (λ d h. choice_first v (is_in xs d) (is_in ys d) (mark_at marks d) h) xs (is_in_members xs)) in
    let q' : count_by (λ d. best d && not (is_in xs d)) ys ≡ only_count true marks ys xs =
    count_by-agree _ _ ys (weaker (λ d. is_in ys d ≡ true) _ (λ d h. choice_second v (is_in xs d) (is_in ys d) (mark_at marks d) h) ys (is_in_members ys)) in
    let w' : neutral_count best n xs ys ≡ count_by (λ d. picked_value v (mark_at marks d) && is_neutral xs ys d) (range_with_len 0 n) =
    count_by-agree _ _ (range_with_len 0 n) (every _ (λ d. choice_neutral v (is_in xs d) (is_in ys d) (mark_at marks d)) (range_with_len 0 n)) in
    record {
      completes = with_picked-Completes marks (recall_choice v xs ys);
      least = λ truth _ _ c.
          let p = count_by (λ d. truth d && not (is_in ys d)) xs in
          let q = count_by (λ d. truth d && not (is_in xs d)) ys in
          let w = neutral_count truth n xs ys in
          let r : true_count truth n ≡ p + q + w = true_count_classes truth n xs ys dx dy wx wy in
          let r' : true_count best n ≡ only_count false marks xs ys + only_count true marks ys xs + neutral_count best n xs ys = omega (arith, true_count_classes best n xs ys dx dy wx wy, p', q') in
          let low = outside_least marks truth xs ys wx c in
          let high = outside_most marks truth ys xs wy c in
          let neutral_low = class_least marks truth (is_neutral xs ys) (range_with_len 0 n) (range_below n) c in
          let neutral_high = class_most marks truth (is_neutral xs ys) (range_with_len 0 n) (range_below n) c in
          let inequality = chosen v p q w (only_count false marks xs ys) (only_count true marks ys xs) (neutral_count best n xs ys) low high
          (λ e. (led e, neutral_more v marks n xs ys w (neutral_count best n xs ys) e w' neutral_high))
          (λ e. (trails e, neutral_fewer v marks n xs ys w (neutral_count best n xs ys) e w' neutral_low)) in
          let with_ones = with_one p q (true_count truth n) (only_count false marks xs ys) (only_count true marks ys xs) (true_count best n) low high (omega (arith, r)) (omega (arith, r')) (rw (r, r') inequality) in
          no_greater_of (count_by truth xs) (count_by truth ys) (true_count truth n) (count_by best xs) (count_by best ys) (true_count best n)
          (count_le_universe truth n xs dx wx) (count_le_universe truth n ys dy wy) (count_le_universe best n xs dx wx) (count_le_universe best n ys dy wy)
          (from_classes (count_by truth xs) (count_by truth ys) p q (count_by best xs) (count_by best ys) (only_count false marks xs ys) (only_count true marks ys xs) (max 1 (true_count truth n)) (max 1 (true_count best n))
          (difference_outside truth xs ys dx dy) (omega (arith, difference_outside best xs ys dx dy, p', q')) with_ones);
    }
