-- How a score is written.
use Rattle.std.specs.Prelude.{◌≡◌, ℕ, ◌+◌, ◌<◌, ℤ, pos, neg_ℤ, Bool, true, false, List, [], ◌++◌, length, ◌⊎◌, codes}
use Rattle.std.specs.Str.Parse.{digits_value, AllDigits}

-- a size with its sign
abbrev pub signed : Bool → ℕ → ℤ
signed true size = neg_ℤ (pos size)
signed false size = pos size

-- a sign: `-` where the number is negative, and `+` or nothing where it is not
abbrev pub IsSign : Bool → List ℕ → Type 0
IsSign true text = text ≡ codes "-"
IsSign false text = (text ≡ []) ⊎ (text ≡ codes "+")

-- the digits before and after the point, or all of them with no point
abbrev pub IsMantissa : List ℕ → List ℕ → List ℕ → Type 0
IsMantissa whole fraction text = (text ≡ whole ++ (codes "." ++ fraction)) ⊎ ((text ≡ whole) × (fraction ≡ []))

-- `e` or `E`, an optional sign and one or more digits
pub record IsPower (exponent : ℤ) (text : List ℕ) : Type 0 where
  pub is_negative : Bool
  pub letter : List ℕ
  pub sign : List ℕ
  pub digits : List ℕ
  pub joined : text ≡ letter ++ (sign ++ digits)
  pub is_letter : (letter ≡ codes "e") ⊎ (letter ≡ codes "E")
  pub is_sign : IsSign is_negative sign
  pub all_digits : AllDigits 10 digits
  pub some_digit : 0 < length digits
  pub value : exponent ≡ signed is_negative (digits_value 10 digits)

-- a power of ten, which may be left out where it is 0
abbrev pub IsExponent : ℤ → List ℕ → Type 0
IsExponent exponent text = IsPower exponent text ⊎ ((text ≡ []) × (exponent ≡ pos 0))

-- what a score's text tells
pub record ScoreParts : Type 0 where
  pub is_negative : Bool
  pub whole : List ℕ
  pub fraction : List ℕ
  pub exponent : ℤ

-- the text is a sign, digits with at most one point and at least one digit, and an exponent
pub record HasParts (text : List ℕ) (parts : ScoreParts) : Type 0 where
  pub sign : List ℕ
  pub mantissa : List ℕ
  pub power : List ℕ
  pub joined : text ≡ sign ++ (mantissa ++ power)
  pub is_sign : IsSign parts.is_negative sign
  pub is_mantissa : IsMantissa parts.whole parts.fraction mantissa
  pub is_exponent : IsExponent parts.exponent power
  pub whole_digits : AllDigits 10 parts.whole
  pub fraction_digits : AllDigits 10 parts.fraction
  pub some_digit : 0 < length parts.whole + length parts.fraction

-- the text is a score's
abbrev pub IsScoreText : List ℕ → Type 0
IsScoreText text = (parts : ScoreParts) × HasParts text parts
