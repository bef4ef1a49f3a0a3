-- How a score is kept: its first 30 digits and the place of the first one, in one number.
use Rattle.std.specs.Prelude.{◌≡◌, ℕ, zero, suc, ◌+◌, ◌*◌, ◌/◌, ◌%◌, ◌^◌, ◌<◌, ◌≤◌, ℤ, pos, negsuc, neg_ℤ, if◌then◌else◌, nat_lt}
use Rattle.std.specs.Int.RustNames.{unsigned_abs}

-- a function of the size, with the sign kept
abbrev pub with_sign : (ℕ → ℕ) → ℤ → ℤ
with_sign size (pos n) = pos (size n)
with_sign size (negsuc n) = neg_ℤ (pos (size (suc n)))

-- one at the first of 30 digits
unfoldable pub first_place : ℕ
first_place = 10 ^ 29

-- the value that a size stands for: digits below 10 * unit, and above them a power of ten
unfoldable pub size_value : ℕ → ℕ → ℕ
size_value unit size = (size % (10 * unit)) * 10 ^ (size / (10 * unit)) / unit

-- one less than the number of digits of a value, which is at most the fuel
unfoldable pub last_power : ℕ → ℕ → ℕ
last_power zero value = 0
last_power (suc fuel) value = if nat_lt value 10 then 0 else suc (last_power fuel (value / 10))

-- the size that stands for a value
unfoldable pub value_size : ℕ → ℕ → ℕ
value_size unit value =
    let power = last_power value value in value * unit / 10 ^ power + power * (10 * unit)

-- a size other than 0 has 30 digits whose first is not 0, and stands for a whole number
pub record IsSize (unit size : ℕ) : Type 0 where
  pub first : 0 < size → unit ≤ size % (10 * unit)
  pub whole : size_value unit size * unit ≡ (size % (10 * unit)) * 10 ^ (size / (10 * unit))

abbrev pub value_of_key : ℤ → ℤ
value_of_key key = with_sign (size_value first_place) key

abbrev pub key_of_value : ℤ → ℤ
key_of_value value = with_sign (value_size first_place) value

abbrev pub IsKey : ℤ → Type 0
IsKey key = IsSize first_place (unsigned_abs key)
