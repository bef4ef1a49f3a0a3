-- Words of bytes that may stand in fields.
use Rattle.std.proofs.Common.{◌≡◌, ℕ, suc, ◌^◌, ◌<◌, ◌≤◌, List, [], ◌∷◌, length, true, false, refl, ap, ◌∙◌, arith, ℤ, pos, negsuc}
use Rattle.std.specs.Prelude.{not, ◌&&◌, ◌||◌, ◌==◌, nat_le, nat_eq, decimal, ◌≤ℤ◌}
use Rattle.std.specs.List.{list_any, list_all}
use Rattle.std.specs.Char.{is_ascii_digit}
use Rattle.std.specs.Str.{all_ascii_digits}
use Rattle.std.specs.Fmt.{signed_decimal}
use Rattle.std.proofs.lemmas.Bool.{and_parts, and_from, leb-true, le-leb, ne_eqb, le-ltb, not-true}
use Rattle.std.proofs.lemmas.Fmt.{decimal_nonempty, digits_decimal}
use Rattle.std.proofs.lemmas.Int.{ints}
use Rattle.desk_text.specs.Lines.{is_separator, is_bad}
use Rattle.desk_text.proofs.Digits.{own}
use Rattle.desk_model.specs.Name.{is_field_byte}
use Rattle.desk_model.proofs.Words.{IsWord, field_bytes_ink}

digit_byte : (b : ℕ) → is_ascii_digit b ≡ true → is_field_byte b ≡ true
digit_byte b h =
    let parts = and_parts (nat_le 48 b) (nat_le b 57) h in
    let low : 48 ≤ b = leb-true 48 b parts.0 in
    let high : b ≤ 57 = leb-true b 57 parts.1 in
    and_from _ _ (le-leb 33 b (omega arith)) (ap not (ne_eqb b 127 (λ e. omega arith)))

pub digits_bytes : (ds : List ℕ) → all_ascii_digits ds ≡ true → list_all is_field_byte ds ≡ true
digits_bytes [] h = refl
digits_bytes (d ∷ ds) h =
    let parts = and_parts (is_ascii_digit d) (all_ascii_digits ds) h in
    and_from _ _ (digit_byte d parts.0) (digits_bytes ds parts.1)

decimal_bytes : (n : ℕ) → n < 2 ^ 64 → list_all is_field_byte (decimal n) ≡ true
decimal_bytes n h = digits_bytes (decimal n) (digits_decimal own n h)

-- from -1,000 to 1,000
abbrev pub IsSmall : ℤ → Type 0
IsSmall z = (negsuc 999 ≤ℤ z) × (z ≤ℤ pos 1000)

pub signed_bytes : (z : ℤ) → IsSmall z → list_all is_field_byte (signed_decimal z) ≡ true
signed_bytes (pos n) h = decimal_bytes n (omega (arith, ints, h))
signed_bytes (negsuc n) h = decimal_bytes (suc n) (omega (arith, ints, h))

signed_filled : (z : ℤ) → IsSmall z → 0 < length (signed_decimal z)
signed_filled (pos n) h = decimal_nonempty n (omega (arith, ints, h))
signed_filled (negsuc n) h = omega arith

pub signed_word : (z : ℤ) → IsSmall z → IsWord (signed_decimal z)
signed_word z h = record { filled = signed_filled z h; ink = field_bytes_ink (signed_decimal z) (signed_bytes z h) }

-- such a byte is not bad
field_not_bad : (b : ℕ) → is_field_byte b ≡ true → is_bad b ≡ false
field_not_bad b h =
    let parts = and_parts (nat_le 33 b) (not (nat_eq b 127)) h in
    let above : 33 ≤ b = leb-true 33 b parts.0 in
    ap (λ t. (t && not (is_separator b)) || b == 127) (le-ltb b 33 above) ∙ not-true (nat_eq b 127) parts.1

-- and a word of them has no bad byte
pub word_good : (w : List ℕ) → list_all is_field_byte w ≡ true → list_any is_bad w ≡ false
word_good [] h = refl
word_good (b ∷ bs) h =
    let parts = and_parts (is_field_byte b) (list_all is_field_byte bs) h in
    ap (λ t. t || list_any is_bad bs) (field_not_bad b parts.0) ∙ word_good bs parts.1
