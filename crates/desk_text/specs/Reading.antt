-- What a text is read as, computed from where it is cut.
use Rattle.std.specs.Prelude.{ℕ, zero, suc, ◌+◌, ◌/◌, ◌%◌, ◌^◌, ℤ, pos, ◌+ℤ◌, ◌-ℤ◌, neg_ℤ, int_le, Bool, ◌&&◌, ◌||◌, ◌==◌, nat_lt, nat_le, List, length, if◌then◌else◌, Result, Ok, Err}
use Rattle.std.specs.List.{before_first, after_first}
use Rattle.std.specs.Str.{all_ascii_digits}
use Rattle.std.specs.Str.Parse.{digits_value, starts_with_minus, without_leading_sign}
use Rattle.desk_text.specs.declared.score.ScoreFault.{ScoreFault}
use Rattle.desk_text.specs.declared.score.ScoreFault.TheVariants.{BadScore, ScoreTooLong, ScoreExponent}
use Rattle.desk_text.specs.Text.{signed, ScoreParts}
use Rattle.desk_text.specs.Spelling.{is_mark}
use Rattle.desk_text.specs.Value.{number_of, scaled}

-- what stands between the sign and the first `e` or `E`
abbrev pub mantissa_of : List ℕ → List ℕ
mantissa_of text = before_first (is_mark 101 69) (without_leading_sign text)

-- what stands after the first `e` or `E`
abbrev pub power_of : List ℕ → List ℕ
power_of text = after_first (is_mark 101 69) (without_leading_sign text)

-- the parts of a text that is cut at its first `e` or `E`, and before it at its first point
abbrev pub cut_parts : List ℕ → ScoreParts
cut_parts text = record {
  is_negative = starts_with_minus text;
  whole = before_first (is_mark 46 46) (mantissa_of text);
  fraction = after_first (is_mark 46 46) (mantissa_of text);
  exponent = signed (starts_with_minus (power_of text)) (digits_value 10 (without_leading_sign (power_of text)));
}

-- whether the parts are digits, at least one of them before the exponent, and one in an exponent
abbrev pub is_score_text : List ℕ → Bool
is_score_text text =
    all_ascii_digits (cut_parts text).whole && (all_ascii_digits (cut_parts text).fraction
    && (nat_lt 0 (length (cut_parts text).whole + length (cut_parts text).fraction)
    && (all_ascii_digits (without_leading_sign (power_of text))
    && (nat_lt 0 (length (without_leading_sign (power_of text))) || nat_le (length (without_leading_sign text)) (length (mantissa_of text))))))

-- how many zeros stand at the end of a number, at most as many as the fuel
unfoldable pub zeros_of : ℕ → ℕ → ℕ
zeros_of zero number = 0
zeros_of (suc fuel) number = if number % 10 == 0 then suc (zeros_of fuel (number / 10)) else 0

-- whether the place lies from -999 to 999
abbrev pub is_place : ℤ → Bool
is_place place = int_le (neg_ℤ (pos 999)) place && int_le place (pos 999)

-- the number with its sign, where it has at most 30 digits and its place lies from -999 to 999
abbrev pub limited : Bool → ℕ → ℤ → Result ℤ ScoreFault
limited is_negative digits place =
    if nat_le (10 ^ 30) digits then Err ScoreTooLong else (if is_place place then Ok (scaled is_negative digits place) else Err ScoreExponent)

-- the number of some parts, without the zeros at its end
abbrev pub number_in : ScoreParts → Result ℤ ScoreFault
number_in parts =
    let number = number_of parts in
    let zeros = zeros_of number number in
    if number == 0 then Ok (pos 0) else limited parts.is_negative (number / 10 ^ zeros) (parts.exponent +ℤ (pos zeros -ℤ pos (length parts.fraction)))

-- the one answer to a text: its value, or its fault
unfoldable pub score_of : List ℕ → Result ℤ ScoreFault
score_of text = if is_score_text text then number_in (cut_parts text) else Err BadScore
