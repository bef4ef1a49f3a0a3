-- The first bytes of names decide how they compare.
use Rattle.std.proofs.Common.{◌≡◌, ◌≢◌, ℕ, zero, suc, ◌+◌, ◌*◌, ◌-◌, ◌^◌, ◌<◌, ◌≤◌, List, [], ◌∷◌, drop, get_or, refl, ap, sym, ◌∙◌, subst, add-one, arith}
use Rattle.std.specs.declared.cmp.Ordering.{Ordering}
use Rattle.std.specs.declared.cmp.Ordering.TheVariants.{Less, Equal, Greater}
use Rattle.std.specs.List.{range_with_len, sum_by}
use Rattle.std.specs.Ordering.{nat_cmp, ordering_then, ordering_reverse, MatchOrdering}
use Rattle.std.proofs.Math.Nat.{pow-suc}
use Rattle.std.specs.Cmp.{ranks}
use Rattle.std.proofs.lemmas.Cmp.{nat_list_cmp_total}
use Rattle.desk_model.specs.Name.{name_cmp}
use Rattle.topic_universe.specs.Start.{IsStart}

-- the number that the next n bytes spell after a number, the first the greatest
abbrev pub spelt : ℕ → ℕ → List ℕ → ℕ
spelt zero before bytes = before
spelt (suc n) before [] = spelt n (before * 256) []
spelt (suc n) before (byte ∷ bytes) = spelt n (before * 256 + byte) bytes

-- ---- what is spelt grows with the number before
grows : (n a b : ℕ) (ys : List ℕ) → a ≤ b → spelt n a [] ≤ spelt n b ys
grows zero a b ys le = le
grows (suc n) a b [] le = grows n (a * 256) (b * 256) [] (omega (arith, le))
grows (suc n) a b (y ∷ ys) le = grows n (a * 256) (b * 256 + y) ys (omega (arith, le))

abbrev Bytes : List ℕ → Type 0
Bytes xs = (k : ℕ) → get_or xs k 0 < 256

rises : (n a b : ℕ) (xs ys : List ℕ) → Bytes xs → a < b → spelt n a xs < spelt n b ys
rises zero a b xs ys small lt = lt
rises (suc n) a b [] [] small lt = rises n (a * 256) (b * 256) [] [] small (omega (arith, lt))
rises (suc n) a b [] (y ∷ ys) small lt = rises n (a * 256) (b * 256 + y) [] ys small (omega (arith, lt))
rises (suc n) a b (x ∷ xs) [] small lt =
    let first : x < 256 = small 0 in
    rises n (a * 256 + x) (b * 256) xs [] (λ k. small (suc k)) (omega (arith, lt, first))
rises (suc n) a b (x ∷ xs) (y ∷ ys) small lt =
    let first : x < 256 = small 0 in
    rises n (a * 256 + x) (b * 256 + y) xs ys (λ k. small (suc k)) (omega (arith, lt, first))

-- ---- the smaller number is that of the smaller name
pub spells_less : (n a : ℕ) (xs ys : List ℕ) → Bytes xs → Bytes ys → spelt n a xs < spelt n a ys → name_cmp xs ys ≡ Less
spells_less zero a xs ys p q lt = absurd (omega (arith, lt))
spells_less (suc n) a [] [] p q lt = absurd (omega (arith, lt))
spells_less (suc n) a [] (y ∷ ys) p q lt = refl
spells_less (suc n) a (x ∷ xs) [] p q lt = let le = grows n (a * 256) (a * 256 + x) xs (omega arith) in absurd (omega (arith, le, lt))
spells_less (suc n) a (x ∷ xs) (y ∷ ys) p q lt = by (spells_less n (a * 256 + x) xs ys (λ k. p (suc k)) (λ k. q (suc k))) (nat_cmp x y) refl (ranks x y)
  where
    by : (spelt n (a * 256 + x) xs < spelt n (a * 256 + x) ys → name_cmp xs ys ≡ Less) → (r : Ordering) → nat_cmp x y ≡ r → MatchOrdering r (x < y) (x ≡ y) (y < x) → ordering_then (nat_cmp x y) (name_cmp xs ys) ≡ Less
    by rest Less e l = ap (λ r. ordering_then r (name_cmp xs ys)) e
    by rest Equal e l =
        let level : x ≡ y = l in
        let less : spelt n (a * 256 + x) xs < spelt n (a * 256 + x) ys = subst (λ z. spelt n (a * 256 + x) xs < spelt n (a * 256 + z) ys) (sym level) lt in
        ap (λ r. ordering_then r (name_cmp xs ys)) e ∙ rest less
    by rest Greater e l =
        let over : y < x = l in
        let more = rises n (a * 256 + y) (a * 256 + x) ys xs (λ k. q (suc k)) (omega (arith, over)) in
        absurd (omega (arith, more, lt))

-- ---- one more byte
pub spelt_step : (n a : ℕ) (xs : List ℕ) (i : ℕ) → spelt (suc n) a (drop i xs) ≡ spelt n (a * 256 + get_or xs i 0) (drop (suc i) xs)
spelt_step n a [] zero = ap (λ b. spelt n b []) (let none : a * 256 ≡ a * 256 + 0 = omega arith in none)
spelt_step n a [] (suc i) = ap (λ b. spelt n b []) (let none : a * 256 ≡ a * 256 + 0 = omega arith in none)
spelt_step n a (x ∷ xs) zero = refl
spelt_step n a (x ∷ xs) (suc i) = spelt_step n a xs i

-- ---- the digits of a start are the first bytes
pub spelt_is : (xs : List ℕ) → spelt 16 0 xs ≡ sum_by (λ k. get_or xs k 0 * 256 ^ (15 - k)) (range_with_len 0 16)
spelt_is xs =
    let s0 = spelt_step 15 0 xs 0 in
    let s1 = spelt_step 14 (0 * 256 + get_or xs 0 0) xs 1 in
    let s2 = spelt_step 13 ((0 * 256 + get_or xs 0 0) * 256 + get_or xs 1 0) xs 2 in
    let s3 = spelt_step 12 (((0 * 256 + get_or xs 0 0) * 256 + get_or xs 1 0) * 256 + get_or xs 2 0) xs 3 in
    let s4 = spelt_step 11 ((((0 * 256 + get_or xs 0 0) * 256 + get_or xs 1 0) * 256 + get_or xs 2 0) * 256 + get_or xs 3 0) xs 4 in
    let s5 = spelt_step 10 (((((0 * 256 + get_or xs 0 0) * 256 + get_or xs 1 0) * 256 + get_or xs 2 0) * 256 + get_or xs 3 0) * 256 + get_or xs 4 0) xs 5 in
    let s6 = spelt_step 9 ((((((0 * 256 + get_or xs 0 0) * 256 + get_or xs 1 0) * 256 + get_or xs 2 0) * 256 + get_or xs 3 0) * 256 + get_or xs 4 0) * 256 + get_or xs 5 0) xs 6 in
    let s7 = spelt_step 8 (((((((0 * 256 + get_or xs 0 0) * 256 + get_or xs 1 0) * 256 + get_or xs 2 0) * 256 + get_or xs 3 0) * 256 + get_or xs 4 0) * 256 + get_or xs 5 0) * 256 + get_or xs 6 0) xs 7 in
    let s8 = spelt_step 7 ((((((((0 * 256 + get_or xs 0 0) * 256 + get_or xs 1 0) * 256 + get_or xs 2 0) * 256 + get_or xs 3 0) * 256 + get_or xs 4 0) * 256 + get_or xs 5 0) * 256 + get_or xs 6 0) * 256 + get_or xs 7 0) xs 8 in
    let s9 = spelt_step 6 (((((((((0 * 256 + get_or xs 0 0) * 256 + get_or xs 1 0) * 256 + get_or xs 2 0) * 256 + get_or xs 3 0) * 256 + get_or xs 4 0) * 256 + get_or xs 5 0) * 256 + get_or xs 6 0) * 256 + get_or xs 7 0) * 256 + get_or xs 8 0) xs 9 in
    let s10 = spelt_step 5 ((((((((((0 * 256 + get_or xs 0 0) * 256 + get_or xs 1 0) * 256 + get_or xs 2 0) * 256 + get_or xs 3 0) * 256 + get_or xs 4 0) * 256 + get_or xs 5 0) * 256 + get_or xs 6 0) * 256 + get_or xs 7 0) * 256 + get_or xs 8 0) * 256 + get_or xs 9 0) xs 10 in
    let s11 = spelt_step 4 (((((((((((0 * 256 + get_or xs 0 0) * 256 + get_or xs 1 0) * 256 + get_or xs 2 0) * 256 + get_or xs 3 0) * 256 + get_or xs 4 0) * 256 + get_or xs 5 0) * 256 + get_or xs 6 0) * 256 + get_or xs 7 0) * 256 + get_or xs 8 0) * 256 + get_or xs 9 0) * 256 + get_or xs 10 0) xs 11 in
    let s12 = spelt_step 3 ((((((((((((0 * 256 + get_or xs 0 0) * 256 + get_or xs 1 0) * 256 + get_or xs 2 0) * 256 + get_or xs 3 0) * 256 + get_or xs 4 0) * 256 + get_or xs 5 0) * 256 + get_or xs 6 0) * 256 + get_or xs 7 0) * 256 + get_or xs 8 0) * 256 + get_or xs 9 0) * 256 + get_or xs 10 0) * 256 + get_or xs 11 0) xs 12 in
    let s13 = spelt_step 2 (((((((((((((0 * 256 + get_or xs 0 0) * 256 + get_or xs 1 0) * 256 + get_or xs 2 0) * 256 + get_or xs 3 0) * 256 + get_or xs 4 0) * 256 + get_or xs 5 0) * 256 + get_or xs 6 0) * 256 + get_or xs 7 0) * 256 + get_or xs 8 0) * 256 + get_or xs 9 0) * 256 + get_or xs 10 0) * 256 + get_or xs 11 0) * 256 + get_or xs 12 0) xs 13 in
    let s14 = spelt_step 1 ((((((((((((((0 * 256 + get_or xs 0 0) * 256 + get_or xs 1 0) * 256 + get_or xs 2 0) * 256 + get_or xs 3 0) * 256 + get_or xs 4 0) * 256 + get_or xs 5 0) * 256 + get_or xs 6 0) * 256 + get_or xs 7 0) * 256 + get_or xs 8 0) * 256 + get_or xs 9 0) * 256 + get_or xs 10 0) * 256 + get_or xs 11 0) * 256 + get_or xs 12 0) * 256 + get_or xs 13 0) xs 14 in
    let s15 = spelt_step 0 (((((((((((((((0 * 256 + get_or xs 0 0) * 256 + get_or xs 1 0) * 256 + get_or xs 2 0) * 256 + get_or xs 3 0) * 256 + get_or xs 4 0) * 256 + get_or xs 5 0) * 256 + get_or xs 6 0) * 256 + get_or xs 7 0) * 256 + get_or xs 8 0) * 256 + get_or xs 9 0) * 256 + get_or xs 10 0) * 256 + get_or xs 11 0) * 256 + get_or xs 12 0) * 256 + get_or xs 13 0) * 256 + get_or xs 14 0) xs 15 in
    omega (arith, s0, s1, s2, s3, s4, s5, s6, s7, s8, s9, s10, s11, s12, s13, s14, s15)

spells : (name : List ℕ) (start : ℕ) → IsStart name start → start ≡ spelt 16 0 name
spells name start h = h.digits ∙ sym (spelt_is name)

-- starts that differ compare as the names do
pub starts_decide : (x y : List ℕ) (s t : ℕ) → IsStart x s → IsStart y t → (r : Ordering) → nat_cmp s t ≡ r → r ≢ Equal → r ≡ name_cmp x y
starts_decide x y s t p q r is other = by r is (subst (λ r. MatchOrdering r (s < t) (s ≡ t) (t < s)) is (ranks s t)) other
  where
    by : (r : Ordering) → nat_cmp s t ≡ r → MatchOrdering r (s < t) (s ≡ t) (t < s) → r ≢ Equal → r ≡ name_cmp x y
    by Less e l other =
        let lt : s < t = l in
        let below : spelt 16 0 x < spelt 16 0 y = subst (λ u. u < spelt 16 0 y) (spells x s p) (subst (λ u. s < u) (spells y t q) lt) in
        sym (spells_less 16 0 x y p.bytes q.bytes below)
    by Equal e l other = absurd (other refl)
    by Greater e l other =
        let lt : t < s = l in
        let below : spelt 16 0 y < spelt 16 0 x = subst (λ u. u < spelt 16 0 x) (spells y t q) (subst (λ u. t < u) (spells x s p) lt) in
        sym (nat_list_cmp_total.antisymm x y ∙ ap ordering_reverse (spells_less 16 0 y x q.bytes p.bytes below))

power_up : (i k : ℕ) → 256 ^ i ≤ 256 ^ (i + k)
power_up i zero = let e : 256 ^ (i + zero) ≡ 256 ^ i = ap (λ j. 256 ^ j) (let none : i + zero ≡ i = omega arith in none) in omega (arith, e)
power_up i (suc k) =
    let before = power_up i k in
    let e : 256 ^ (i + suc k) ≡ 256 ^ (i + k) * 256 = ap (λ j. 256 ^ j) (let one : i + suc k ≡ suc (i + k) = omega arith in one) ∙ pow-suc 256 (i + k) in
    omega (arith, before, e)

pub start_more : (i s b : ℕ) → s < 256 ^ i → b < 256 → s * 256 + b < 256 ^ (i + 1)
start_more i s b low small =
    let e : 256 ^ (i + 1) ≡ 256 ^ i * 256 = ap (λ j. 256 ^ j) (add-one i) ∙ pow-suc 256 i in
    omega (arith, low, small, e)

pub start_fits : (i s : ℕ) → i ≤ 16 → s < 256 ^ i → s < 2 ^ 128
start_fits i s le low =
    let rest : i + (16 - i) ≡ 16 = omega (arith, le) in
    let up : 256 ^ i ≤ 256 ^ 16 = subst (λ j. 256 ^ i ≤ 256 ^ j) rest (power_up i (16 - i)) in
    let top : 256 ^ 16 ≡ 2 ^ 128 = refl in
    omega (arith, low, up, top)
