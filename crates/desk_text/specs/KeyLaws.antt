-- Keys are in the order of their values, and a value gives its key back.
use Rattle.std.specs.Prelude.{◌≡◌, ℕ, zero, suc, ◌+◌, ◌*◌, ◌/◌, ◌%◌, ◌^◌, ◌<◌, ◌≤◌, ℤ, pos, negsuc, neg_ℤ, ◌⊎◌}
use Rattle.std.specs.Int.RustNames.{unsigned_abs}
use Rattle.std.proofs.Common.{refl, ap, subst, ◌∙◌, arith, inl, inr, lit<}
use Rattle.std.proofs.lemmas.Bool.{cases_lt, lt-ltb, le-ltb}
use Rattle.std.proofs.Math.Nat.{mul-le-mul_left, mul-le-mul_right, mul-div_cancel, mul-lt-mul_of_pos_right, pow-le-pow_right, one-le-pow, pow-suc, lt_of_mul-lt-mul_right, div-add-mod, mod-add-div', mod-lt, zero-mod, zero-div, zero-mul}
use Rattle.desk_text.specs.declared.score.Score.TheInside.{Inside}
use Rattle.desk_text.specs.Key.{first_place, size_value, last_power, value_size, with_sign, value_of_key, key_of_value, IsKey, IsSize}

-- digits at a higher place are worth more
pub higher : (unit a b p q : ℕ) → a < 10 * unit → unit ≤ b → p < q → a * 10 ^ p < b * 10 ^ q
higher unit a b p q small large below =
    let step = mul-lt-mul_of_pos_right small (one-le-pow p 10 (omega arith)) in
    let power : 10 ^ p * 10 ≤ 10 ^ q = subst (λ x. x ≤ 10 ^ q) (pow-suc 10 p) (pow-le-pow_right (omega arith) below) in
    omega (arith, step, mul-le-mul_left unit power, mul-le-mul_right (10 ^ q) large)

-- of two numbers the smaller has the smaller quotient, or the same one and the smaller rest
quotient_order : (w a b : ℕ) → 0 < w → a < b → (a / w < b / w) ⊎ ((a / w ≡ b / w) × (a % w < b % w))
quotient_order w a b some below =
    elim (cases_lt (a / w) (b / w)) [
      | inl apart ↦ inl apart
      | inr same ↦
          let da = div-add-mod a w in
          let db = div-add-mod b w in
          let rest = mod-lt b some in
          let e : a / w ≡ b / w = elim (cases_lt (b / w) (a / w)) [
            | inl over ↦ let step = mul-le-mul_left w over in absurd (omega (arith, da, db, rest, step))
            | inr under ↦ omega arith
          ] in
          inr (e, (let f = ap (λ q. w * q) e in omega (arith, da, db, f)))
    ]

-- a smaller size has a smaller value
pub size_value-lt : (unit a b : ℕ) → 0 < unit → IsSize unit a → IsSize unit b → a < b → size_value unit a < size_value unit b
size_value-lt unit a b some ha hb below =
    let w = 10 * unit in
    let first = hb.first (omega arith) in
    lt_of_mul-lt-mul_right unit (rw (ha.whole, hb.whole) (
    elim (quotient_order w a b (omega arith) below) [
      | inl apart ↦ higher unit (a % w) (b % w) (a / w) (b / w) (mod-lt a (omega arith)) first apart
      | inr same ↦ rw same.0 (mul-lt-mul_of_pos_right same.1 (one-le-pow (b / w) 10 (omega arith)))
    ]))

-- one less than the number of digits
pub last_power_is : (fuel power value : ℕ) → power ≤ fuel → 10 ^ power ≤ value → value < 10 ^ suc power → last_power fuel value ≡ power
unfolding last_power
last_power_is zero power value enough low high = omega arith
last_power_is (suc fuel) zero value enough low high = rw (lt-ltb value 10 high) refl
last_power_is (suc fuel) (suc power) value enough low high =
    let first = pow-suc 10 power in
    let next = pow-suc 10 (suc power) in
    let many : 10 ≤ value = let one = one-le-pow power 10 (omega arith) in omega (arith, first, one, low) in
    let at_least : 10 ^ power ≤ value / 10 = omega (arith, first, low) in
    let below : value / 10 < 10 ^ suc power = omega (arith, next, high) in
    let fits : power ≤ fuel = omega (arith, enough) in
    rw (le-ltb value 10 many) (ap suc (last_power_is fuel power (value / 10) fits at_least below))

below_power : (n : ℕ) → n < 10 ^ n
below_power zero = lit< tt
below_power (suc n) = let h = below_power n in omega (arith, pow-suc 10 n)

-- nothing stands for nothing
pub zero_size : (unit : ℕ) → 0 < unit → (size_value unit 0 ≡ 0) × IsSize unit 0
unfolding size_value
zero_size unit some =
    let rest = zero-mod (10 * unit) in
    let none : (0 % (10 * unit)) * 10 ^ (0 / (10 * unit)) / unit ≡ 0 = rw (rest, zero-mul (10 ^ (0 / (10 * unit)))) (zero-div unit) in
    (none, record { first = λ h. absurd (omega arith); whole = rw (rest, zero-mul (10 ^ (0 / (10 * unit)))) (rw (zero-div unit) (zero-mul unit)) })

-- the digits and the place of a value other than 0
value_size-positive : (unit value digits place : ℕ) → 0 < unit → unit ≤ digits → digits < 10 * unit → value * unit ≡ digits * 10 ^ place → value_size unit value ≡ digits + place * (10 * unit)
unfolding value_size
value_size-positive unit value digits place some large small whole =
    let one = one-le-pow place 10 (omega arith) in
    let low : 10 ^ place ≤ value = elim (cases_lt value (10 ^ place)) [
      | inl under ↦ absurd (omega (arith, mul-lt-mul_of_pos_right under some, mul-le-mul_right (10 ^ place) large))
      | inr over ↦ over
    ] in
    let high : value < 10 ^ suc place = lt_of_mul-lt-mul_right unit (omega (arith, mul-lt-mul_of_pos_right small one, ap (λ x. x * unit) (pow-suc 10 place))) in
    let enough : place ≤ value = let far = below_power place in omega arith in
    rw (last_power_is value place value enough low high, whole, mul-div_cancel digits one) refl

value_size-zero : (unit : ℕ) → value_size unit 0 ≡ 0
unfolding value_size last_power
value_size-zero unit = rw (zero-mul unit, zero-mul (10 * unit)) refl

-- a size is that of its value
pub value_size-size_value : (unit size : ℕ) → 0 < unit → IsSize unit size → value_size unit (size_value unit size) ≡ size
value_size-size_value unit zero some h = rw (zero_size unit some).0 (value_size-zero unit)
value_size-size_value unit (suc n) some h =
    let w = 10 * unit in
    value_size-positive unit (size_value unit (suc n)) (suc n % w) (suc n / w) some (h.first (omega arith)) (mod-lt (suc n) (omega arith)) h.whole
    ∙ mod-add-div' (suc n) w

-- a sign is kept both ways
with_sign-negative : (back : ℕ → ℕ) (value n : ℕ) → 0 < value → back value ≡ suc n → with_sign back (neg_ℤ (pos value)) ≡ negsuc n
with_sign-negative back zero n some e = absurd (omega arith)
with_sign-negative back (suc k) n some e = ap (λ x. neg_ℤ (pos x)) e

with_sign-with_sign : (there back : ℕ → ℕ) (z : ℤ) → back (there (unsigned_abs z)) ≡ unsigned_abs z → (0 < unsigned_abs z → 0 < there (unsigned_abs z)) → with_sign back (with_sign there z) ≡ z
with_sign-with_sign there back (pos n) e some = ap pos e
with_sign-with_sign there back (negsuc n) e some = with_sign-negative back (there (suc n)) n (some (omega arith)) e

-- the unit of a key
pub first_place_some : 0 < first_place
unfolding first_place
first_place_some = lit< tt

-- a key is that of its value
pub key_of_value-value_of_key : (s : Inside) → IsKey s.key → record { key = key_of_value (value_of_key s.key) } ≡ s
key_of_value-value_of_key s h =
    let zero_is = zero_size first_place first_place_some in
    ap (λ k. record { key = k }) (with_sign-with_sign (size_value first_place) (value_size first_place) s.key
    (value_size-size_value first_place (unsigned_abs s.key) first_place_some h)
    (λ some. omega (arith, size_value-lt first_place 0 (unsigned_abs s.key) first_place_some zero_is.1 h some)))
