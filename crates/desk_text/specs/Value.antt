-- The exact value of a score: a whole number, in units of ten to the power of -999.
use Rattle.std.specs.Prelude.{◌≡◌, ◌≢◌, ℕ, ◌*◌, ◌%◌, ◌^◌, ◌<◌, ◌≤◌, ℤ, pos, ◌+ℤ◌, ◌≤ℤ◌, neg_ℤ, Bool, List, ◌++◌, length, ◌⊎◌, Result, Ok, Err}
use Rattle.std.specs.Int.RustNames.{unsigned_abs}
use Rattle.std.specs.Str.Parse.{digits_value}
use Rattle.desk_text.specs.declared.score.ScoreFault.{ScoreFault}
use Rattle.desk_text.specs.declared.score.ScoreFault.TheVariants.{BadScore, ScoreTooLong, ScoreExponent}
use Rattle.desk_text.specs.Text.{signed, ScoreParts, HasParts, IsScoreText}

-- the number that all digits of a score make, without point and exponent
abbrev pub number_of : ScoreParts → ℕ
number_of parts = digits_value 10 (parts.whole ++ parts.fraction)

-- the text stands for digits * 10 ^ place with this sign, and the last of these digits is not 0
pub record StandsForDigits (text : List ℕ) (is_negative : Bool) (digits : ℕ) (place : ℤ) : Type 0 where
  pub parts : ScoreParts
  pub zeros : ℕ
  pub written : HasParts text parts
  pub sign : is_negative ≡ parts.is_negative
  pub number : number_of parts ≡ digits * 10 ^ zeros
  pub last : digits % 10 ≢ 0
  pub point : place +ℤ pos (length parts.fraction) ≡ parts.exponent +ℤ pos zeros

-- the text is a score's whose digits are all 0
abbrev pub IsZeroText : List ℕ → Type 0
IsZeroText text = (parts : ScoreParts) × HasParts text parts × (number_of parts ≡ 0)

-- the place lies from -999 to 999
abbrev pub IsPlace : ℤ → Type 0
IsPlace place = (neg_ℤ (pos 999) ≤ℤ place) × (place ≤ℤ pos 999)

-- the text stands for a number of more than 30 digits
abbrev pub HasTooManyDigits : List ℕ → Type 0
HasTooManyDigits text = (is_negative : Bool) × ((digits : ℕ) × ((place : ℤ) × (StandsForDigits text is_negative digits place × (10 ^ 30 ≤ digits))))

-- the text stands for a number of at most 30 digits at a place outside -999 to 999
abbrev pub IsTooFar : List ℕ → Type 0
IsTooFar text = (is_negative : Bool) × ((digits : ℕ) × ((place : ℤ) × (StandsForDigits text is_negative digits place × (digits < 10 ^ 30) × ¬ (IsPlace place))))

-- digits * 10 ^ (place + 999) with its sign
abbrev pub scaled : Bool → ℕ → ℤ → ℤ
scaled is_negative digits place = signed is_negative (digits * 10 ^ unsigned_abs (place +ℤ pos 999))

-- the text stands for a number of at most 30 digits at a place from -999 to 999, and this is its value
pub record IsNumber (text : List ℕ) (value : ℤ) : Type 0 where
  pub is_negative : Bool
  pub digits : ℕ
  pub place : ℤ
  pub stands : StandsForDigits text is_negative digits place
  pub short : digits < 10 ^ 30
  pub near : IsPlace place
  pub is_value : value ≡ scaled is_negative digits place

-- what a text is read as: its value, or its fault
abbrev pub ReadsAs : List ℕ → Result ℤ ScoreFault → Type 0
ReadsAs text (Ok value) = (IsZeroText text × (value ≡ pos 0)) ⊎ IsNumber text value
ReadsAs text (Err BadScore) = ¬ IsScoreText text
ReadsAs text (Err ScoreTooLong) = HasTooManyDigits text
ReadsAs text (Err ScoreExponent) = IsTooFar text
