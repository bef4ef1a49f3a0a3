-- Numbers that are read digit by digit.
use Rattle.std.proofs.Common.{◌≡◌, ◌≢◌, ℕ, zero, suc, ◌+◌, ◌-◌, ◌*◌, ◌^◌, ◌%◌, ◌<◌, ◌≤◌, List, [], ◌∷◌, ◌++◌, length, get_or, drop, replicate, refl, sym, ap, subst, inl, inr, zero-add, ℤ, pos, ◌-ℤ◌, ◌∙◌, arith, add-one, drop-cons}
use Rattle.std.specs.Char.{digit_value}
use Rattle.std.specs.Str.Parse.{digits_value, digits_value_after, AllDigits}
use Rattle.std.proofs.lemmas.Str.{digit_value_digit}
use Rattle.std.proofs.lemmas.Str.Parse.{digit_at, digit_from_value}
use Rattle.std.proofs.lemmas.Nat.{mod-mul-add}
use Rattle.std.proofs.lemmas.Bool.{cases_lt}
use Rattle.std.proofs.lemmas.Int.{ints}
use Rattle.std.proofs.Math.Nat.{pow-succ', mul_assoc, zero-mul, mul-le-mul_left, pow-le-pow_right}
use Rattle.std.proofs.Math.Pow.{pow-add}
use Rattle.desk_text.specs.Significand.{AreSignificant, EndsInDigit, AreTrimmed, HasLastZeros, IsLongNumber, IsSignificand}

-- the digits that are left, at one of them
pub digits_left : (n : ℕ) (ds : List ℕ) (i : ℕ) → AllDigits 10 ds → i < length ds → digits_value_after 10 n (drop i ds) ≡ digits_value_after 10 (n * 10 + (get_or ds i 0 - 48)) (drop (i + 1) ds)
digits_left n ds i all within =
    let d = digit_value_digit (get_or ds i 0) (digit_at ds i all within) in
    rw (add-one, drop-cons ds i 0) (ap (λ v. digits_value_after 10 (n * 10 + v) (drop (suc i) ds)) (omega arith))

-- more digits make no smaller number
pub digits_value_after-ge : (n : ℕ) (ds : List ℕ) → n ≤ digits_value_after 10 n ds
digits_value_after-ge n [] = omega arith
digits_value_after-ge n (c ∷ ds) = omega (arith, digits_value_after-ge (n * 10 + digit_value c) ds)

-- more digits make no greater number than as many nines
pub digits_value_after-lt : (b n : ℕ) (ds : List ℕ) → AllDigits 10 ds → n < b → digits_value_after 10 n ds < b * 10 ^ length ds
digits_value_after-lt b n [] all lt = omega arith
digits_value_after-lt b n (c ∷ ds) all lt =
    let more = digits_value_after-lt (b * 10) (n * 10 + digit_value c) ds all.1 (omega (arith, all.0)) in
    let p = ap (λ x. b * x) (pow-succ' 10 (length ds)) in
    omega (arith, more, p)

-- 9 digits behind 9
pub few_digits : (n : ℕ) (ds : List ℕ) → AllDigits 10 ds → n < 10 ^ 9 → length ds ≤ 9 → digits_value_after 10 n ds < 10 ^ 18
few_digits n ds all lt few =
    omega (arith, digits_value_after-lt (10 ^ 9) n ds all lt, mul-le-mul_left (10 ^ 9) (pow-le-pow_right {n = 10} (omega arith) few))

-- digits behind digits
pub digits_value_after-append : (n : ℕ) (xs ys : List ℕ) → digits_value_after 10 n (xs ++ ys) ≡ digits_value_after 10 (digits_value_after 10 n xs) ys
digits_value_after-append n [] ys = refl
digits_value_after-append n (c ∷ xs) ys = digits_value_after-append (n * 10 + digit_value c) xs ys

pub AllDigits-prefix : (xs ys : List ℕ) → AllDigits 10 (xs ++ ys) → AllDigits 10 xs
AllDigits-prefix [] ys h = tt
AllDigits-prefix (c ∷ xs) ys h = (h.0, AllDigits-prefix xs ys h.1)

-- digits that are kept are digits
pub kept_digits : (digits kept : List ℕ) → AreSignificant digits kept → AllDigits 10 digits → AllDigits 10 kept
kept_digits digits kept h all = AllDigits-prefix kept (replicate (length digits - length kept) 48) (subst (AllDigits 10) h.zeros all)

-- zeros at the end multiply by ten
zeros_behind : (n k : ℕ) → digits_value_after 10 n (replicate k 48) ≡ n * 10 ^ k
zeros_behind n zero = omega arith
zeros_behind n (suc k) =
    zeros_behind (n * 10 + 0) k ∙ (let p = ap (λ x. n * x) (pow-succ' 10 k) in omega (arith, p))

-- a number ends in its last digit
last_digit : (n : ℕ) (ds : List ℕ) → AllDigits 10 ds → 0 < length ds → EndsInDigit ds → digits_value_after 10 n ds % 10 ≢ 0
last_digit n [] all some end e = absurd (omega arith)
last_digit n (c ∷ []) all some end e =
    let d = digit_value_digit c (digit_from_value c all.0) in
    let r : (n * 10 + digit_value c) % 10 ≡ digit_value c = mod-mul-add n 10 (digit_value c) all.0 in
    end some (omega (arith, d, r, e))
last_digit n (c ∷ (d ∷ ds)) all some end e =
    let p : suc (length ds) - 1 ≡ length ds = omega arith in
    let q : suc (suc (length ds)) - 1 ≡ suc (length ds) = omega arith in
    last_digit (n * 10 + digit_value c) (d ∷ ds) all.1 (omega arith) (λ _ bad. end (omega arith) (rw q (rw p at bad))) e

-- what stands before zeros
kept_value : (n : ℕ) (digits kept : List ℕ) → AreSignificant digits kept → digits_value_after 10 n digits ≡ digits_value_after 10 n kept * 10 ^ (length digits - length kept)
kept_value n digits kept h =
    ap (digits_value_after 10 n) h.zeros ∙ digits_value_after-append n kept (replicate (length digits - length kept) 48)
    ∙ zeros_behind (digits_value_after 10 n kept) (length digits - length kept)

empty : (xs : List ℕ) → length xs ≤ 0 → xs ≡ []
empty [] h = refl
empty (x ∷ xs) h = absurd (omega arith)

-- what the digits that are kept make
pub kept_number : (whole fraction kept_whole kept_fraction : List ℕ) → AreTrimmed whole fraction kept_whole kept_fraction →
    digits_value 10 (whole ++ fraction) ≡ digits_value 10 (kept_whole ++ kept_fraction) * 10 ^ (length whole - length kept_whole + (length fraction - length kept_fraction))
kept_number whole fraction kept_whole kept_fraction h =
    let k = length whole - length kept_whole in
    let j = length fraction - length kept_fraction in
    let before = digits_value 10 kept_whole in
    let value : digits_value 10 (whole ++ fraction) ≡ digits_value_after 10 (digits_value 10 whole) kept_fraction * 10 ^ j =
    digits_value_after-append 0 whole fraction ∙ kept_value (digits_value 10 whole) fraction kept_fraction h.fraction_kept in
    let kept : digits_value 10 (kept_whole ++ kept_fraction) ≡ digits_value_after 10 before kept_fraction = digits_value_after-append 0 kept_whole kept_fraction in
    elim (cases_lt 0 (length kept_fraction)) [
      | inl some ↦
          let same = h.whole_stays some in
          let none : k ≡ 0 = let l = ap length same in omega arith in
          rw (kept, none, zero-add) (rw same value)
      | inr none ↦
          let nil = empty kept_fraction none in
          let prefix = kept_value 0 whole kept_whole h.whole_kept in
          let all : digits_value_after 10 (digits_value 10 whole) kept_fraction ≡ digits_value 10 whole = ap (digits_value_after 10 (digits_value 10 whole)) nil in
          let rest : digits_value_after 10 before kept_fraction ≡ before = ap (digits_value_after 10 before) nil in
          value ∙ ap (λ v. v * 10 ^ j) (all ∙ prefix) ∙ mul_assoc before (10 ^ k) (10 ^ j) ∙ ap (λ p. before * p) (sym (pow-add 10 k j)) ∙ ap (λ v. v * 10 ^ (k + j)) (sym rest ∙ sym kept)
    ]

-- the last digit that is kept is not 0
pub kept_end : (whole fraction kept_whole kept_fraction : List ℕ) → AllDigits 10 whole → AllDigits 10 fraction → AreTrimmed whole fraction kept_whole kept_fraction →
    0 < digits_value 10 (kept_whole ++ kept_fraction) → digits_value 10 (kept_whole ++ kept_fraction) % 10 ≢ 0
kept_end whole fraction kept_whole kept_fraction all_whole all_fraction h some e =
    let before = digits_value 10 kept_whole in
    let kept : digits_value 10 (kept_whole ++ kept_fraction) ≡ digits_value_after 10 before kept_fraction = digits_value_after-append 0 kept_whole kept_fraction in
    let e' : digits_value_after 10 before kept_fraction % 10 ≡ 0 = ap (λ v. v % 10) (sym kept) ∙ e in
    let all_kept = kept_digits whole kept_whole h.whole_kept all_whole in
    elim (cases_lt 0 (length kept_fraction)) [
      | inl digits ↦ last_digit before kept_fraction (kept_digits fraction kept_fraction h.fraction_kept all_fraction) digits h.fraction_end e'
      | inr none ↦
          let nil = empty kept_fraction none in
          let rest : digits_value_after 10 before kept_fraction ≡ before = ap (digits_value_after 10 before) nil in
          elim (cases_lt 0 (length kept_whole)) [
            | inl digits ↦ last_digit 0 kept_whole all_kept digits (h.whole_end (omega arith)) (ap (λ v. v % 10) (sym rest) ∙ e')
            | inr empty_whole ↦
                let zero_is : before ≡ 0 = ap (digits_value 10) (empty kept_whole empty_whole) in
                omega (arith, kept, rest, zero_is, some)
          ]
    ]

-- what is read of the kept digits
pub kept_read : (kept_whole kept_fraction : List ℕ) (n digits : ℕ) → n ≡ digits_value_after 10 0 kept_whole → digits ≡ digits_value_after 10 n kept_fraction → digits ≡ digits_value 10 (kept_whole ++ kept_fraction)
kept_read kept_whole kept_fraction n digits prefix all =
    all ∙ ap (λ v. digits_value_after 10 v kept_fraction) prefix ∙ sym (digits_value_after-append 0 kept_whole kept_fraction)

-- the zeros at the end of a number whose kept digits are not all 0
pub kept_zeros : (whole fraction kept_whole kept_fraction : List ℕ) → AllDigits 10 whole → AllDigits 10 fraction → AreTrimmed whole fraction kept_whole kept_fraction → (digits : ℕ) → digits ≡ digits_value 10 (kept_whole ++ kept_fraction) → 0 < digits →
    HasLastZeros (digits_value 10 (whole ++ fraction)) digits (length whole - length kept_whole + (length fraction - length kept_fraction))
kept_zeros whole fraction kept_whole kept_fraction all_whole all_fraction h digits is some =
    record {
      value = rw is (kept_number whole fraction kept_whole kept_fraction h);
      last = rw is (kept_end whole fraction kept_whole kept_fraction all_whole all_fraction h (omega arith));
    }

-- more than 30 kept digits
pub kept_long : (whole fraction kept_whole kept_fraction : List ℕ) → AllDigits 10 whole → AllDigits 10 fraction → AreTrimmed whole fraction kept_whole kept_fraction → (n : ℕ) → n ≡ digits_value_after 10 0 kept_whole → 10 ^ 30 ≤ digits_value_after 10 n kept_fraction → IsLongNumber (digits_value 10 (whole ++ fraction))
kept_long whole fraction kept_whole kept_fraction all_whole all_fraction h n prefix long =
    let digits = digits_value_after 10 n kept_fraction in
    (digits, (_, (kept_zeros whole fraction kept_whole kept_fraction all_whole all_fraction h digits (kept_read kept_whole kept_fraction n digits prefix refl) (omega arith), long)))

-- the kept digits and their place
pub kept_significand : (whole fraction kept_whole kept_fraction : List ℕ) → AllDigits 10 whole → AllDigits 10 fraction → AreTrimmed whole fraction kept_whole kept_fraction → (n digits : ℕ) (place : ℤ) → n ≡ digits_value_after 10 0 kept_whole → digits ≡ digits_value_after 10 n kept_fraction →
    place ≡ pos (length whole - length kept_whole) -ℤ pos (length kept_fraction) → IsSignificand whole fraction digits place
kept_significand whole fraction kept_whole kept_fraction all_whole all_fraction h n digits place prefix all is =
    let read = kept_read kept_whole kept_fraction n digits prefix all in
    elim (cases_lt 0 digits) [
      | inl some ↦ inr (
        length whole - length kept_whole + (length fraction - length kept_fraction),
        (kept_zeros whole fraction kept_whole kept_fraction all_whole all_fraction h digits read some, let w = h.fraction_kept.within in omega (arith, ints, w, is)),
      )
      | inr none ↦
          let nil : digits ≡ 0 = omega arith in
          let number = kept_number whole fraction kept_whole kept_fraction h in
          let zero_is : digits_value 10 (kept_whole ++ kept_fraction) ≡ 0 = sym read ∙ nil in
          inl (nil, number ∙ ap (λ v. v * 10 ^ (length whole - length kept_whole + (length fraction - length kept_fraction))) zero_is ∙ zero-mul (10 ^ (length whole - length kept_whole + (length fraction - length kept_fraction))))
    ]
