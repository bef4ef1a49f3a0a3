-- The decimals of a persistence.
use Rattle.std.proofs.Common.{◌≡◌, ◌≢◌, ℕ, zero, suc, ◌+◌, ◌-◌, ◌*◌, ◌/◌, ◌%◌, ◌^◌, ◌<◌, ◌≤◌, List, [], ◌∷◌, ◌++◌, drop, length, get_or, refl, ap, ap₂, sym, subst, ◌∙◌, arith, append-nil, append_assoc, length-append, add-one}
use Rattle.std.specs.Prelude.{true, false, Bool, decimal, replicate, ◌&&◌, Option, Some, None, IfSome, IfNone, MatchOption, take, codes, ℤ, pos, neg_ℤ, cond, int_le, nat_le, nat_lt, ◌==◌}
use Rattle.std.specs.Str.{all_ascii_digits, bytes_eq}
use Rattle.std.specs.Char.{is_ascii_digit}
use Rattle.std.proofs.lemmas.Bool.{and_parts, and_from, ne_eqb, lt-ltb, leb-true, le-leb}
use Rattle.std.proofs.lemmas.List.{replicate_more, length-replicate, take-append-drop}
use Rattle.std.proofs.lemmas.Bool.Decides.{nat_tests}
use Rattle.std.proofs.lemmas.Nat.{pow-add}
use Rattle.std.proofs.lemmas.Fmt.{decimal_digit, decimal_step, digits_decimal, digits_value-decimal, decimal_injective}
use Rattle.std.proofs.lemmas.Slice.Eq.{bytes_eq-Decides}
use Rattle.std.proofs.Math.Nat.{pow-suc, mul_assoc, add-mul, mul-one, one-le-pow, pow-le-pow_right, mul-le-mul_right, mul-lt-mul_of_pos_right}
use Rattle.std.proofs.Math.Seq.{take-append_seam}
use Rattle.std.specs.Borrow.{Bor}
use Rattle.desk_model.specs.declared.types.MeasureName.{MeasureName}
use Rattle.desk_model.specs.declared.types.MeasureName.TheVariants.{Precision, Recall, RPrecision, Reciprocal, Biased, AveragePrecision}
use Rattle.desk_text.specs.Numbers.{read_on, is_plain, plain_of, is_digits, whole_of}
use Rattle.desk_text.proofs.Digits.{plain_is_decimal, plain_of-decimal, own}
use Rattle.desk_model.specs.MeasureText.{IsDepth, IsMeasure, IsPersistence, IsTextOf}

pub pow_ten : (d : ℕ) → 10 ^ (suc d) ≡ 10 * 10 ^ d
pow_ten d = let e = pow-suc 10 d in omega arith

pub pow_small : (d : ℕ) → d ≤ 6 → (1 ≤ 10 ^ d) × (10 ^ d ≤ 1000000)
pow_small d h = (one-le-pow d 10 (omega arith), let up : 10 ^ d ≤ 10 ^ 6 = pow-le-pow_right {n = 10} (omega arith) h in up)

step : (n c p r : ℕ) → (10 * n + c) * p + r ≡ n * (p * 10) + (c * p + r)
step n c p r = omega (arith, add-mul (10 * n) c p, mul_assoc 10 n p, mul_assoc n p 10)

-- a number before more digits
read_on-prefix : (n : ℕ) (ds : List ℕ) → read_on n ds ≡ n * 10 ^ length ds + read_on 0 ds
read_on-prefix n [] = omega (arith, mul-one n)
read_on-prefix n (c ∷ cs) =
    let z : 10 * 0 + (c - 48) ≡ c - 48 = omega arith in
    read_on-prefix (10 * n + (c - 48)) cs
    ∙ step n (c - 48) (10 ^ length cs) (read_on 0 cs)
    ∙ ap₂ (λ p r. n * p + r) (sym (pow-suc 10 (length cs))) (sym (ap (λ k. read_on k cs) z ∙ read_on-prefix (c - 48) cs))

digit_bound : (c : ℕ) → is_ascii_digit c ≡ true → (48 ≤ c) × (c ≤ 57)
digit_bound c h = grind arith

-- digits say less than the power of ten of their number
pub below_power : (ds : List ℕ) → all_ascii_digits ds ≡ true → read_on 0 ds < 10 ^ length ds
below_power [] h = omega arith
below_power (c ∷ cs) h =
    let parts = and_parts (is_ascii_digit c) (all_ascii_digits cs) h in
    let digit = digit_bound c parts.0 in
    let rest : read_on 0 cs < 10 ^ length cs = below_power cs parts.1 in
    let z : 10 * 0 + (c - 48) ≡ c - 48 = omega arith in
    let value : read_on (10 * 0 + (c - 48)) cs ≡ (c - 48) * 10 ^ length cs + read_on 0 cs = ap (λ k. read_on k cs) z ∙ read_on-prefix (c - 48) cs in
    let nine : (c - 48) * 10 ^ length cs ≤ 9 * 10 ^ length cs = mul-le-mul_right (10 ^ length cs) (omega arith) in
    omega (arith, pow_ten (length cs))

-- one more zero
one_zero : (n : ℕ) → 0 < n → 10 * n < 2 ^ 64 → decimal (10 * n) ≡ decimal n ++ 48 ∷ []
one_zero n some small =
    let whole : (10 * n) / 10 ≡ n = omega arith in
    let rest : 48 + (10 * n) % 10 ≡ 48 = omega arith in
    decimal_step (10 * n) (omega arith) small ∙ (λ i. decimal (whole i) ++ (rest i ∷ []))

times_ten : (n z : ℕ) → n * 10 ^ suc z ≡ 10 * (n * 10 ^ z)
times_ten n z = omega (arith, ap (λ p. n * p) (pow-suc 10 z), mul_assoc n (10 ^ z) 10)

-- zeros after a number
pub zeros_after : (n z : ℕ) → 0 < n → n * 10 ^ z < 2 ^ 64 → decimal (n * 10 ^ z) ≡ decimal n ++ replicate z 48
zeros_after n zero some small = ap decimal (mul-one n) ∙ sym (append-nil (decimal n))
zeros_after n (suc z) some small =
    let less : n * 10 ^ z < 2 ^ 64 = omega (arith, times_ten n z) in
    let there : 0 < n * 10 ^ z = omega (arith, mul-le-mul_right {m = 1} {n = n} (10 ^ z) (omega arith), one-le-pow z 10 (omega arith)) in
    ap decimal (times_ten n z) ∙ one_zero (n * 10 ^ z) there (omega (arith, times_ten n z))
    ∙ ap (λ ds. ds ++ 48 ∷ []) (zeros_after n z some less)
    ∙ append_assoc (decimal n) (replicate z 48) (48 ∷ [])
    ∙ ap (λ ds. decimal n ++ ds) (replicate_more z 48 ∙ ap (λ k. replicate k 48) (add-one z))

pub record OneAndDecimals (d n : ℕ) : Type 0 where
  pub decimals : List ℕ
  pub are : decimal n ≡ 49 ∷ decimals
  pub number : length decimals ≡ d

-- what is written of a power of ten and a number below it
pub one_and_decimals : (d t : ℕ) → t < 10 ^ d → d ≤ 6 → OneAndDecimals d (10 ^ d + t)
one_and_decimals zero t below few =
    let is : 10 ^ 0 + t ≡ 1 = omega arith in
    record { decimals = []; are = ap decimal is ∙ decimal_digit 1 (omega arith); number = refl }
one_and_decimals (suc d) t below few =
    let small = pow_small d (omega arith) in
    let ten = pow_ten d in
    let up = one_and_decimals d (t / 10) (omega arith) (omega arith) in
    let n : ℕ = 10 ^ suc d + t in
    let leading : n / 10 ≡ 10 ^ d + t / 10 = omega arith in
    record {
      decimals = up.decimals ++ (48 + n % 10) ∷ [];
      are = decimal_step n (omega arith) (omega arith) ∙ ap (λ m. decimal m ++ (48 + n % 10) ∷ []) leading ∙ ap (λ ds. ds ++ (48 + n % 10) ∷ []) up.are;
      number = omega (arith, length-append up.decimals ((48 + n % 10) ∷ []), up.number);
    }

-- the number of decimals that are all digits
pub from_digits : (ds : List ℕ) → all_ascii_digits ds ≡ true → length ds ≤ 6 → decimal (10 ^ length ds + read_on 0 ds) ≡ 49 ∷ ds
from_digits ds h few =
    let small = pow_small (length ds) few in
    let less = below_power ds h in
    let value : read_on 1 ds ≡ 10 ^ length ds + read_on 0 ds = omega (arith, read_on-prefix 1 ds) in
    let there : is_plain (49 ∷ ds) ≡ true = and_from _ _ (and_from (all_ascii_digits ds) (nat_lt 0 (length (49 ∷ ds))) h (lt-ltb 0 (length (49 ∷ ds)) (omega arith))) refl in
    sym (ap decimal value) ∙ plain_is_decimal (49 ∷ ds) there (omega arith)

-- and back
pub to_digits : (ds : List ℕ) (t : ℕ) → t < 10 ^ length ds → length ds ≤ 6 → decimal (10 ^ length ds + t) ≡ 49 ∷ ds → (all_ascii_digits ds ≡ true) × (read_on 0 ds ≡ t)
to_digits ds t less few e =
    let small = pow_small (length ds) few in
    let all : all_ascii_digits (49 ∷ ds) ≡ true = subst (λ xs. all_ascii_digits xs ≡ true) e (digits_decimal own (10 ^ length ds + t) (omega arith)) in
    let is : read_on 1 ds ≡ 10 ^ length ds + t = ap (read_on 0) (sym e) ∙ digits_value-decimal own (10 ^ length ds + t) (omega arith) in
    (all, omega (arith, read_on-prefix 1 ds))

-- a zero at the end of the decimals goes to the zeros after them
pub zero_taken : (d t k : ℕ) → t % 10 ≡ 0 → 10 ^ suc d + t < 2 ^ 64 → decimal (10 ^ suc d + t) ++ replicate k 48 ≡ decimal (10 ^ d + t / 10) ++ replicate (suc k) 48
zero_taken d t k round small =
    let n : ℕ = 10 ^ d + t / 10 in
    let ten : 10 ^ suc d + t ≡ 10 * n = omega (arith, pow_ten d) in
    let some : 0 < n = omega (arith, one-le-pow d 10 (omega arith)) in
    ap (λ m. decimal m ++ replicate k 48) ten ∙ ap (λ ds. ds ++ replicate k 48) (one_zero n some (omega arith)) ∙ append_assoc (decimal n) (48 ∷ []) (replicate k 48)

-- what stands after the digit 1
pub after_one : (ds ns zs es : List ℕ) → ns ≡ 49 ∷ es → 49 ∷ ds ≡ ns ++ zs → ds ≡ drop 1 ns ++ zs
after_one ds ns zs es is e = ap (drop 1) (e ∙ ap (λ xs. xs ++ zs) is) ∙ ap (λ xs. drop 1 xs ++ zs) (sym is)

pub plain_some : (most n : ℕ) (t : List ℕ) → most < 2 ^ 64 → plain_of most t ≡ Some n → (t ≡ decimal n) × (n ≤ most)
plain_some most n t small e = by_test (is_plain t && nat_le (read_on 0 t) most) refl
  where
    by_test : (b : Bool) → (is_plain t && nat_le (read_on 0 t) most) ≡ b → (t ≡ decimal n) × (n ≤ most)
    by_test true h =
        let p = and_parts (is_plain t) (nat_le (read_on 0 t) most) h in
        let le : read_on 0 t ≤ most = leb-true (read_on 0 t) most p.1 in
        let found : Some (read_on 0 t) ≡ Some n = ap (λ b. cond b (Some (read_on 0 t)) None) (sym h) ∙ e in
        let same : read_on 0 t ≡ n = cc in
        (sym (plain_is_decimal t p.0 (omega arith)) ∙ ap decimal same, omega arith)
    by_test false h = let no : None ≡ Some n = ap (λ b. cond b (Some (read_on 0 t)) None) (sym h) ∙ e in cc

pub plain_none : (most n : ℕ) (t : List ℕ) → most < 2 ^ 64 → plain_of most t ≡ None → n ≤ most → t ≢ decimal n
plain_none most n t small e le is = let no : None ≡ Some n = sym e ∙ plain_of-decimal most n t small le is in cc

-- more than one place where the number is more than 1
pub some_place : (d t : ℕ) → 1 < t → t < 10 ^ d → 0 < d
some_place zero t more less = absurd (omega arith)
some_place (suc d) t more less = omega arith

pub empty_first : (ds : List ℕ) → length ds ≡ 0 → get_or ds 0 0 ≢ 43
empty_first [] h e = absurd (omega arith)
empty_first (c ∷ cs) h e = absurd (omega arith)

pub not_plus : (ds : List ℕ) → all_ascii_digits ds ≡ true → get_or ds 0 0 ≢ 43
not_plus [] h e = absurd (omega arith)
not_plus (c ∷ cs) h e = let digit = digit_bound c (and_parts (is_ascii_digit c) (all_ascii_digits cs) h).0 in omega arith

-- digits with no sign are read as their number
pub whole_is : (ds : List ℕ) (t : ℕ) → all_ascii_digits ds ≡ true → read_on 0 ds ≡ t → 0 < t → t ≤ 999999 → whole_of (pos 1) (pos 999999) ds ≡ Some (pos t)
whole_is [] t h is some few = absurd (omega arith)
whole_is (c ∷ cs) t h is some few =
    let digit = digit_bound c (and_parts (is_ascii_digit c) (all_ascii_digits cs) h).0 in
    let plus : (c == 43) ≡ false = grind (arith, nat_tests) in
    let minus : (c == 45) ≡ false = grind (arith, nat_tests) in
    let long : nat_lt 0 (length (c ∷ cs)) ≡ true = lt-ltb 0 (length (c ∷ cs)) (omega arith) in
    rw (plus, minus, h, long, is, le-leb 1 t some, le-leb t 999999 few) refl

negative : (n : ℕ) → int_le (pos 1) (neg_ℤ (pos n)) ≡ false
negative zero = refl
negative (suc n) = refl

nothing : (b : Bool) (x : Option ℤ) → cond (b && false) x None ≡ None
nothing true x = refl
nothing false x = refl

pub record IsRead (ds : List ℕ) (z : ℤ) : Type 0 where
  pub number : ℕ
  pub is : z ≡ pos number
  pub digits : all_ascii_digits ds ≡ true
  pub value : read_on 0 ds ≡ number
  pub some : 0 < number

-- and only they are
pub whole_some : (ds : List ℕ) (z : ℤ) → whole_of (pos 1) (pos 999999) ds ≡ Some z → get_or ds 0 0 ≢ 43 → IsRead ds z
whole_some [] z e no_plus = cc
whole_some (c ∷ cs) z e no_plus = by_minus (c == 45) refl
  where
    plus : (c == 43) ≡ false
    plus = ne_eqb c 43 no_plus

    in_range : (ds : List ℕ) (z : ℤ) → cond (is_digits ds && (int_le (pos 1) (pos (read_on 0 ds)) && int_le (pos (read_on 0 ds)) (pos 999999))) (Some (pos (read_on 0 ds))) None ≡ Some z → IsRead ds z
    in_range ds z e = by_test (is_digits ds && (nat_le 1 (read_on 0 ds) && nat_le (read_on 0 ds) 999999)) refl
      where
        by_test : (b : Bool) → (is_digits ds && (nat_le 1 (read_on 0 ds) && nat_le (read_on 0 ds) 999999)) ≡ b → IsRead ds z
        by_test true h =
            let p = and_parts (is_digits ds) (nat_le 1 (read_on 0 ds) && nat_le (read_on 0 ds) 999999) h in
            let q = and_parts (all_ascii_digits ds) (nat_lt 0 (length ds)) p.0 in
            let r = and_parts (nat_le 1 (read_on 0 ds)) (nat_le (read_on 0 ds) 999999) p.1 in
            let found : Some (pos (read_on 0 ds)) ≡ Some z = ap (λ b. cond b (Some (pos (read_on 0 ds))) None) (sym h) ∙ e in
            record { number = read_on 0 ds; is = cc; digits = q.0; value = refl; some = leb-true 1 (read_on 0 ds) r.0 }
        by_test false h = let no : None ≡ Some z = ap (λ b. cond b (Some (pos (read_on 0 ds))) None) (sym h) ∙ e in cc

    by_minus : (b : Bool) → (c == 45) ≡ b → IsRead (c ∷ cs) z
    by_minus true h =
        let no : whole_of (pos 1) (pos 999999) (c ∷ cs) ≡ None = rw (plus, h, negative (read_on 0 cs)) (nothing (is_digits cs) (Some (neg_ℤ (pos (read_on 0 cs))))) in
        cc
    by_minus false h = in_range (c ∷ cs) z (rw (plus, h) refl ∙ e)

pub record AreDecimals (top : ℕ) (ds : List ℕ) : Type 0 where
  pub some : 0 < top
  pub below_one : top < 10 ^ length ds
  pub few : length ds ≤ 6
  pub written : decimal (10 ^ length ds + top) ≡ 49 ∷ ds

-- decimals with zeros after them are decimals
pub with_zeros : (top bottom zeros : ℕ) (ds : List ℕ) (p : IsPersistence top bottom) → ds ≡ drop 1 (decimal (bottom + top)) ++ replicate zeros 48
    → length (drop 1 (decimal (bottom + top))) + zeros ≤ 6 → AreDecimals (top * 10 ^ zeros) ds × (length ds ≡ p.decimals + zeros)
with_zeros top bottom zeros ds p is few =
    let d = p.decimals in
    let n : ℕ = 10 ^ d + top in
    let power : bottom + top ≡ n = omega (arith, p.power) in
    let less : top < 10 ^ d = omega (arith, p.power, p.below_one) in
    let one = one_and_decimals d top less p.few in
    let leading : drop 1 (decimal (bottom + top)) ≡ one.decimals = ap (λ m. drop 1 (decimal m)) power ∙ ap (drop 1) one.are in
    let long : length (drop 1 (decimal (bottom + top))) ≡ d = ap length leading ∙ one.number in
    let whole : ds ≡ one.decimals ++ replicate zeros 48 = is ∙ ap (λ xs. xs ++ replicate zeros 48) leading in
    let size : length ds ≡ d + zeros = omega (arith, ap length whole ∙ length-append one.decimals (replicate zeros 48), length-replicate {A = ℕ} zeros 48, one.number) in
    let shift : 10 ^ (d + zeros) ≡ 10 ^ d * 10 ^ zeros = pow-add 10 d zeros in
    let scale : (10 ^ d + top) * 10 ^ zeros ≡ 10 ^ d * 10 ^ zeros + top * 10 ^ zeros = add-mul (10 ^ d) top (10 ^ zeros) in
    let at : 10 ^ length ds ≡ 10 ^ (d + zeros) = ap (λ k. 10 ^ k) size in
    let below : top * 10 ^ zeros < 10 ^ d * 10 ^ zeros = mul-lt-mul_of_pos_right less (one-le-pow zeros 10 (omega arith)) in
    let small = pow_small (d + zeros) (omega arith) in
    let there : 1 * 10 ^ zeros ≤ top * 10 ^ zeros = mul-le-mul_right (10 ^ zeros) p.positive in
    let unit = one-le-pow zeros 10 (omega arith) in
    let sum : 10 ^ length ds + top * 10 ^ zeros ≡ n * 10 ^ zeros = omega arith in (
      record {
        some = omega arith;
        below_one = omega arith;
        few = omega arith;
        written = ap decimal sum ∙ zeros_after n zeros (omega (arith, p.positive)) (omega arith) ∙ ap (λ xs. xs ++ replicate zeros 48) one.are ∙ ap (λ xs. 49 ∷ xs) (sym whole);
      },
      size,
    )

-- two numbers with zeros after them are equal only where the numbers are
same_scale : (t u y z : ℕ) → t % 10 ≢ 0 → u % 10 ≢ 0 → t * 10 ^ y ≡ u * 10 ^ z → (t ≡ u) × (y ≡ z)
same_scale t u zero zero h k e = (omega (arith, mul-one t, mul-one u), refl)
same_scale t u zero (suc z) h k e = absurd (omega (arith, mul-one t, times_ten u z))
same_scale t u (suc y) zero h k e = absurd (omega (arith, mul-one u, times_ten t y))
same_scale t u (suc y) (suc z) h k e = let p = same_scale t u y z h k (omega (arith, times_ten t y, times_ten u z)) in (p.0, omega arith)

same_decimals : (t u : ℕ) (ds : List ℕ) → AreDecimals t ds → AreDecimals u ds → t ≡ u
same_decimals t u ds a b =
    let small = pow_small (length ds) a.few in
    let same = decimal_injective (10 ^ length ds + t) (10 ^ length ds + u) (omega (arith, a.below_one)) (omega (arith, b.below_one)) (a.written ∙ sym b.written) in
    omega arith

-- the decimals in a text of a persistence
pub decimals_in : (ds pd zeros : List ℕ) → codes "rbp_0." ++ ds ≡ (codes "rbp_0." ++ pd) ++ zeros → ds ≡ pd ++ zeros
decimals_in ds pd zeros e = ap (drop 6) e

same_persistence : (t b u c : ℕ) (text : List ℕ) → IsPersistence t b → IsPersistence u c → IsTextOf (Biased t b) text → IsTextOf (Biased u c) text → Biased t b ≡ Biased u c
same_persistence t b u c text p q (y, e, few) (z, f, less) =
    let ds = drop 6 text in
    let one = with_zeros t b y ds p (ap (drop 6) e) few in
    let two = with_zeros u c z ds q (ap (drop 6) f) less in
    let same = same_scale t u y z p.shortest q.shortest (same_decimals (t * 10 ^ y) (u * 10 ^ z) ds one.0 two.0) in
    let places : p.decimals ≡ q.decimals = omega (arith, same.1, one.1, two.1) in
    ap₂ Biased same.0 (p.power ∙ ap (λ d. 10 ^ d) places ∙ sym q.power)

-- the second letter of a measure's text
letter : MeasureName → ℕ
letter (Precision k) = 95
letter (Recall k) = 101
letter RPrecision = 112
letter Reciprocal = 101
letter (Biased top bottom) = 98
letter AveragePrecision = 97

second : (m : MeasureName) (text : List ℕ) → IsTextOf m text → get_or text 1 0 ≡ letter m
unfolding letter
second (Precision k) text e = ap (λ t. get_or t 1 0) e
second (Recall k) text e = ap (λ t. get_or t 1 0) e
second RPrecision text e = ap (λ t. get_or t 1 0) e
second Reciprocal text e = ap (λ t. get_or t 1 0) e
second (Biased top bottom) text (more, e, few) = ap (λ t. get_or t 1 0) e
second AveragePrecision text e = ap (λ t. get_or t 1 0) e

fourth : (k : ℕ) (text : List ℕ) → text ≡ codes "recall_" ++ decimal k → text ≡ codes "recip_rank" → ⊥
fourth k text e f =
    let one : get_or text 3 0 ≡ 97 = ap (λ t. get_or t 3 0) e in
    let two : get_or text 3 0 ≡ 105 = ap (λ t. get_or t 3 0) f in
    omega arith

pub unique : (text : List ℕ) (a b : MeasureName) → IsMeasure a → IsMeasure b → IsTextOf a text → IsTextOf b text → a ≡ b
unfolding letter
unique text (Precision j) (Precision k) mj mk tj tk = ap Precision (decimal_injective j k (omega arith) (omega arith) (ap (drop 2) (sym tj ∙ tk)))
unique text (Recall j) (Recall k) mj mk tj tk = ap Recall (decimal_injective j k (omega arith) (omega arith) (ap (drop 7) (sym tj ∙ tk)))
unique text RPrecision RPrecision ma mb ta tb = refl
unique text Reciprocal Reciprocal ma mb ta tb = refl
unique text AveragePrecision AveragePrecision ma mb ta tb = refl
unique text (Biased t b) (Biased u c) ma mb ta tb = same_persistence t b u c text ma mb ta tb
unique text (Recall k) Reciprocal ma mb ta tb = absurd (fourth k text ta tb)
unique text Reciprocal (Recall k) ma mb ta tb = absurd (fourth k text tb ta)
unique text a b ma mb ta tb = let p = second a text ta in let q = second b text tb in absurd (omega arith)

-- a text of no measure is none of each kind
pub no_measure : (text : List ℕ) → text ≢ codes "Rprec" → text ≢ codes "recip_rank" → text ≢ codes "map" → ((k : ℕ) → IsDepth k → text ≢ codes "P_" ++ decimal k) → ((k : ℕ) → IsDepth k → text ≢ codes "recall_" ++ decimal k)
    → ((top bottom : ℕ) → IsPersistence top bottom → IsTextOf (Biased top bottom) text → ⊥) → (m : MeasureName) → IsMeasure m → IsTextOf m text → ⊥
no_measure text a b v p r c (Precision k) m t = p k m t
no_measure text a b v p r c (Recall k) m t = r k m t
no_measure text a b v p r c RPrecision m t = a t
no_measure text a b v p r c Reciprocal m t = b t
no_measure text a b v p r c AveragePrecision m t = v t
no_measure text a b v p r c (Biased top bottom) m t = c top bottom m t

-- what a prefix taken off says
pub split_some : (r : Option (Bor (List ℕ))) (text prefix : List ℕ)
    → MatchOption r (bytes_eq (take (length prefix) text) prefix ≡ false) (λ x. (bytes_eq (take (length prefix) text) prefix ≡ true) × (x.now ≡ drop (length prefix) text) × (length x.now + length prefix ≡ length text))
    → IfSome r (λ rest. text ≡ prefix ++ rest.now)
split_some None text prefix h = tt
split_some (Some x) text prefix h =
    sym (take-append-drop (length prefix) text) ∙ ap₂ (λ a b. a ++ b) ((bytes_eq-Decides (take (length prefix) text) prefix).0 h.0) (sym h.1)

pub split_none : (r : Option (Bor (List ℕ))) (text prefix : List ℕ)
    → MatchOption r (bytes_eq (take (length prefix) text) prefix ≡ false) (λ x. (bytes_eq (take (length prefix) text) prefix ≡ true) × (x.now ≡ drop (length prefix) text) × (length x.now + length prefix ≡ length text))
    → IfNone r ((rest : List ℕ) → text ≢ prefix ++ rest)
split_none None text prefix h = λ rest e.
    let same : bytes_eq (take (length prefix) text) prefix ≡ true = (bytes_eq-Decides (take (length prefix) text) prefix).1 (ap (take (length prefix)) e ∙ take-append_seam prefix rest) in
    cc
split_none (Some x) text prefix h = tt
