-- Numbers in plain digits.
use Rattle.std.specs.Prelude.{◌≡◌, ℕ, ◌+◌, ◌<◌, ◌≤◌, Bool, List, ◌++◌, length, slice_range}
use Rattle.std.specs.Str.Parse.{AllDigits, digits_value, digits_value_after, without_leading_sign}
use Rattle.desk_text.specs.Text.{IsSign, IsMantissa}

-- digits stand from one place up to another, and behind a number they make another
pub record AreDigitsBehind (text : List ℕ) (from start end number : ℕ) : Type 0 where
  pub order : from ≤ end
  pub within : end ≤ length text
  pub digits : AllDigits 10 (slice_range text from end)
  pub value : number ≡ digits_value_after 10 start (slice_range text from end)

-- the text is digits with at most one point, so many of which stand behind it, and all make this number
pub record IsPlainMantissa (text : List ℕ) (digits places : ℕ) : Type 0 where
  pub whole : List ℕ
  pub fraction : List ℕ
  pub is_mantissa : IsMantissa whole fraction text
  pub whole_digits : AllDigits 10 whole
  pub fraction_digits : AllDigits 10 fraction
  pub some_digit : 0 < length whole + length fraction
  pub number : digits ≡ digits_value 10 (whole ++ fraction)
  pub point : places ≡ length fraction

-- the text is such digits behind a sign
pub record IsPlain (text : List ℕ) (is_negative : Bool) (digits places : ℕ) : Type 0 where
  pub sign : List ℕ
  pub unsigned : List ℕ
  pub joined : text ≡ sign ++ unsigned
  pub is_sign : IsSign is_negative sign
  pub is_plain : IsPlainMantissa unsigned digits places

-- without its sign the text has no more than so many bytes, and is such digits
abbrev pub IsShortPlain : ℕ → List ℕ → Type 0
IsShortPlain most text = (length (without_leading_sign text) ≤ most) × ((is_negative : Bool) × ((digits : ℕ) × ((places : ℕ) × IsPlain text is_negative digits places)))
