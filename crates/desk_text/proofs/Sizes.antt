-- The size that is made of digits and a power.
use Rattle.std.proofs.Common.{◌≡◌, ℕ, zero, suc, ◌+◌, ◌-◌, ◌*◌, ◌/◌, ◌%◌, ◌^◌, ◌<◌, ◌≤◌, Bool, true, false, refl, sym, ap, ◌∙◌, arith}
use Rattle.std.specs.Int.RustNames.{unsigned_abs}
use Rattle.std.proofs.lemmas.Nat.{mod-mul-add, div-mul-add}
use Rattle.std.proofs.Math.Nat.{mul-div_cancel, mul_assoc}
use Rattle.std.proofs.Math.Pow.{pow-add}
use Rattle.desk_text.specs.Text.{signed}
use Rattle.desk_text.specs.Key.{first_place, size_value, value_of_key, IsSize}
use Rattle.desk_text.specs.KeyLaws.{first_place_some, zero_size}

-- zeros go from the power to the digits
pub zeros_moved : (digits factor places power : ℕ) → factor ≡ 10 ^ places → places ≤ power → digits * factor * 10 ^ (power - places) ≡ digits * 10 ^ power
zeros_moved digits factor places power is le =
    let rest = power - places in
    let whole : places + rest ≡ power = omega arith in
    mul_assoc digits factor (10 ^ rest) ∙ ap (λ x. digits * x) (ap (λ f. f * 10 ^ rest) is ∙ sym (pow-add 10 places rest) ∙ ap (λ p. 10 ^ p) whole)

sized : (unit power digits value : ℕ) → 0 < unit → unit ≤ digits → digits < 10 * unit → digits * 10 ^ power ≡ value * unit →
    IsSize unit (power * (10 * unit) + digits) × (size_value unit (power * (10 * unit) + digits) ≡ value)
unfolding size_value
sized unit power digits value some large small same =
    let rest = mod-mul-add power (10 * unit) digits small in
    let quotient = div-mul-add power (10 * unit) digits small in
    let is : (power * (10 * unit) + digits) % (10 * unit) * 10 ^ ((power * (10 * unit) + digits) / (10 * unit)) / unit ≡ value =
    rw (rest, quotient, same) (mul-div_cancel value some) in
    (record { first = λ _. rw rest large; whole = rw (is, rest, quotient) (sym same) }, is)

-- 30 digits and their power make the size of the value
pub size_of_aligned : (power digits start place : ℕ) → 10 ^ 29 ≤ digits → digits < 10 ^ 30 → digits * 10 ^ power ≡ start * 10 ^ (place + 29) →
    IsSize first_place (power * 10 ^ 30 + digits) × (size_value first_place (power * 10 ^ 30 + digits) ≡ start * 10 ^ place)
unfolding first_place
size_of_aligned power digits start place large small same =
    sized (10 ^ 29) power digits (start * 10 ^ place) first_place_some large small (same ∙ ap (λ x. start * x) (pow-add 10 place 29) ∙ sym (mul_assoc start (10 ^ place) (10 ^ 29)))

-- a key with a sign
pub value_of_signed : (is_negative : Bool) (size : ℕ) → value_of_key (signed is_negative size) ≡ signed is_negative (size_value first_place size)
value_of_signed false size = refl
value_of_signed true zero = let none = (zero_size first_place first_place_some).0 in rw none refl
value_of_signed true (suc n) = refl

pub unsigned_abs-signed : (is_negative : Bool) (size : ℕ) → unsigned_abs (signed is_negative size) ≡ size
unsigned_abs-signed false size = refl
unsigned_abs-signed true zero = refl
unsigned_abs-signed true (suc n) = refl
