-- A number and the zeros at its end.
use Rattle.std.specs.Prelude.{◌≡◌, ◌≢◌, ℕ, ◌-◌, ◌*◌, ◌%◌, ◌^◌, ◌<◌, ◌≤◌, ℤ, pos, ◌+ℤ◌, List, ◌++◌, length, slice_index, replicate, ◌⊎◌}
use Rattle.std.specs.Str.Parse.{digits_value}

-- the number is the digits and then zeros, and the last of the digits is not 0
pub record HasLastZeros (number digits zeros : ℕ) : Type 0 where
  pub value : number ≡ digits * 10 ^ zeros
  pub last : digits % 10 ≢ 0

-- without the zeros at its end the number has more than 30 digits
abbrev pub IsLongNumber : ℕ → Type 0
IsLongNumber number = (digits : ℕ) × ((zeros : ℕ) × (HasLastZeros number digits zeros × (10 ^ 30 ≤ digits)))

-- the digits of the parts, and the place of the last of them
abbrev pub IsSignificand : List ℕ → List ℕ → ℕ → ℤ → Type 0
IsSignificand whole fraction digits place =
    let number = digits_value 10 (whole ++ fraction) in
    (((digits ≡ 0) × (number ≡ 0)) ⊎ ((zeros : ℕ) × (HasLastZeros number digits zeros × (place +ℤ pos (length fraction) ≡ pos zeros))))

-- these are digits without the zeros at their end
pub record AreSignificant (digits kept : List ℕ) : Type 0 where
  pub zeros : digits ≡ kept ++ replicate (length digits - length kept) 48
  pub within : length kept ≤ length digits

-- the last digit is not 0
abbrev pub EndsInDigit : List ℕ → Type 0
EndsInDigit kept = 0 < length kept → slice_index kept (length kept - 1) ≢ 48

-- the parts without the zeros at the end of both
pub record AreTrimmed (whole fraction kept_whole kept_fraction : List ℕ) : Type 0 where
  pub whole_kept : AreSignificant whole kept_whole
  pub fraction_kept : AreSignificant fraction kept_fraction
  pub whole_end : length kept_fraction ≡ 0 → EndsInDigit kept_whole
  pub fraction_end : EndsInDigit kept_fraction
  pub whole_stays : 0 < length kept_fraction → kept_whole ≡ whole
