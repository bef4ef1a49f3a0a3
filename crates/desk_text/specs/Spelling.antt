-- What the parts of a spelling say.
use Rattle.std.specs.Prelude.{◌≡◌, ℕ, ◌+◌, ◌<◌, Bool, true, ◌||◌, ◌==◌, List, length, All}
use Rattle.std.specs.Char.{IsAsciiDigit}
use Rattle.std.specs.Str.Parse.{digits_value}
use Rattle.desk_text.specs.declared.spelling.Spelling.{Spelling}
use Rattle.desk_text.specs.Text.{signed, ScoreParts}

-- a byte that is one of two marks
abbrev pub is_mark : ℕ → ℕ → ℕ → Bool
is_mark mark other byte = byte == mark || byte == other

-- all are digits, at least one of them is before the exponent, and an exponent has one
abbrev pub AreDigitParts : List ℕ → List ℕ → List ℕ → Bool → Type 0
AreDigitParts whole fraction exponent has_power = All IsAsciiDigit whole × All IsAsciiDigit fraction × All IsAsciiDigit exponent
    × (0 < length whole + length fraction) × (has_power ≡ true → 0 < length exponent)

-- the parts that a spelling points to
abbrev pub parts_of : Spelling → ScoreParts
parts_of s = record {
  is_negative = s.is_negative;
  whole = s.whole.now;
  fraction = s.fraction.now;
  exponent = signed s.has_negative_exponent (digits_value 10 s.exponent.now);
}
