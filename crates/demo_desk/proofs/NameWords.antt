-- Words of bytes that may stand in fields.
use Rattle.std.proofs.Common.{◌≡◌, ℕ, ◌^◌, ◌<◌, ◌≤◌, List, ◌∷◌, ◌++◌, [], length, true, false, arith}
use Rattle.std.specs.Prelude.{not, nat_le, nat_eq, decimal}
use Rattle.std.specs.List.{list_all}
use Rattle.std.proofs.lemmas.Bool.{and_parts, leb-true}
use Rattle.std.proofs.lemmas.Fmt.{decimal_nonempty, digits_decimal}
use Rattle.desk_text.specs.Lines.{is_separator, fields_of}
use Rattle.desk_text.proofs.Digits.{own}
use Rattle.desk_model.specs.Name.{is_name, is_field_byte}
use Rattle.desk_model.proofs.Words.{IsWord, ink_no_separator, fields_word, fields_last, name_bytes, name_word, field_bytes_ink}
use Rattle.qrels_round_trip.proofs.Words.{digits_bytes}

-- a word of such bytes
pub record IsFieldWord (w : List ℕ) : Type 0 where
  pub filled : 0 < length w
  pub bytes : list_all is_field_byte w ≡ true

as_word : (w : List ℕ) → IsFieldWord w → IsWord w
as_word w h = record { filled = h.filled; ink = field_bytes_ink w h.bytes }

pub word_of_name : (w : List ℕ) → is_name w ≡ true → IsFieldWord w
word_of_name w h = record { filled = (name_word w h).filled; bytes = name_bytes w h }

pub decimal_word : (n : ℕ) → n < 2 ^ 64 → IsFieldWord (decimal n)
decimal_word n h = record { filled = decimal_nonempty n h; bytes = digits_bytes (decimal n) (digits_decimal own n h) }

pub first_field : (w rest : List ℕ) → IsFieldWord w → fields_of (w ++ 32 ∷ rest) ≡ w ∷ fields_of rest
first_field w rest h = fields_word w rest (as_word w h)

pub last_field : (w : List ℕ) → IsFieldWord w → fields_of w ≡ w ∷ []
last_field w h = fields_last w (as_word w h)

pub field_no_separator : (b : ℕ) → is_field_byte b ≡ true → is_separator b ≡ false
field_no_separator b h =
    let above : 33 ≤ b = leb-true 33 b (and_parts (nat_le 33 b) (not (nat_eq b 127)) h).0 in
    ink_no_separator b (omega (arith, above))
