-- What parts of lines show: bytes that end no line, and one part each.
use Rattle.std.proofs.Common.{◌≡◌, ◌≢◌, ℕ, zero, suc, ◌+◌, ◌/◌, ◌%◌, ◌^◌, ◌<◌, List, [], ◌∷◌, ◌++◌, length, ap, sym, ◌∙◌, cond, true, false, arith, ℤ, pos, negsuc}
use Rattle.std.specs.Prelude.{Bool, ◌&&◌, ◌==◌, not, nat_lt, nat_le, nat_eq, decimal}
use Rattle.std.specs.List.{list_all}
use Rattle.std.specs.Fmt.{digits, digits_onto, digit_glyph, signed_decimal}
use Rattle.std.proofs.lemmas.Bool.{and_parts, leb-true}
use Rattle.std.proofs.lemmas.Fmt.{decimal_injective}
use Rattle.std.proofs.lemmas.List.{append_cancel_left}
use Rattle.desk_model.specs.Name.{is_name, is_field_byte}
use Rattle.line_forms.specs.Places.{IsShortNumber}
use Rattle.line_forms.proofs.Cuts.{AreAbove, above_less, same_parts, head_of}

glyph_above : (d : ℕ) → 47 < digit_glyph false d
glyph_above d = by_test (nat_lt d 10)
  where
    by_test : (t : Bool) → 47 < cond t (48 + d) (87 + d)
    by_test true = omega arith
    by_test false = omega arith

digits_above : (k n : ℕ) (acc : List ℕ) → AreAbove 47 acc → AreAbove 47 (digits_onto k 10 false n acc)
digits_above zero n acc h = h
digits_above (suc k) n acc h =
    let more : AreAbove 47 (digit_glyph false (n % 10) ∷ acc) = (glyph_above (n % 10), h) in
    either (n / 10 == 0) _ _ more (digits_above k (n / 10) _ more)
  where
    either : (t : Bool) (v w : List ℕ) → AreAbove 47 v → AreAbove 47 w → AreAbove 47 (cond t v w)
    either true v w p q = p
    either false v w p q = q

-- digits are above the minus sign
pub decimal_above : (n : ℕ) → AreAbove 47 (decimal n)
unfolding digits
decimal_above n = digits_above 64 n [] tt

pub signed_above : (z : ℤ) → AreAbove 32 (signed_decimal z)
signed_above (pos n) = above_less 32 47 (decimal n) (omega arith) (decimal_above n)
signed_above (negsuc n) = (omega arith, above_less 32 47 (decimal (suc n)) (omega arith) (decimal_above (suc n)))

field_bytes_above : (w : List ℕ) → list_all is_field_byte w ≡ true → AreAbove 32 w
field_bytes_above [] h = tt
field_bytes_above (b ∷ bs) h =
    let both = and_parts (is_field_byte b) (list_all is_field_byte bs) h in
    let low = leb-true 33 b (and_parts (nat_le 33 b) (not (nat_eq b 127)) both.0).0 in
    (omega arith, field_bytes_above bs both.1)

pub name_above : (name : List ℕ) → is_name name ≡ true → AreAbove 32 name
name_above name h =
    let parts = and_parts (nat_le 1 (length name)) (nat_le (length name) 255 && list_all is_field_byte name) h in
    field_bytes_above name (and_parts (nat_le (length name) 255) (list_all is_field_byte name) parts.1).1

-- digits do not begin with a minus sign
no_sign : (w v : List ℕ) → AreAbove 47 w → w ≡ 45 ∷ v → ⊥
no_sign [] v h e = let n : 0 ≡ suc (length v) = ap length e in absurd (omega arith)
no_sign (b ∷ bs) v h e = let at : b ≡ 45 = ap (head_of 0) e in let up = h.0 in absurd (omega arith)

-- one sign and one size
pub signed_one : (y z : ℤ) → IsShortNumber y → IsShortNumber z → signed_decimal y ≡ signed_decimal z → y ≡ z
signed_one (pos m) (pos n) h k e = ap pos (decimal_injective m n (omega arith) (omega arith) e)
signed_one (pos m) (negsuc n) h k e = absurd (no_sign (decimal m) (decimal (suc n)) (decimal_above m) e)
signed_one (negsuc m) (pos n) h k e = absurd (no_sign (decimal n) (decimal (suc m)) (decimal_above n) (sym e))
signed_one (negsuc m) (negsuc n) h k e =
    let same : suc m ≡ suc n = decimal_injective (suc m) (suc n) (omega arith) (omega arith) (append_cancel_left (45 ∷ []) (decimal (suc m)) (decimal (suc n)) e) in
    ap negsuc (omega arith)

-- a name and a text after a space
pub named_one : (n m u v : List ℕ) → is_name n ≡ true → is_name m ≡ true → n ++ 32 ∷ u ≡ m ++ 32 ∷ v → (n ≡ m) × (u ≡ v)
named_one n m u v h k e = same_parts 32 n m u v (name_above n h) (name_above m k) e

-- a minus sign before a zero is no number
pub no_minus_zero : (digits : List ℕ) (z : ℤ) → digits ≡ decimal 0 → IsShortNumber z → 45 ∷ digits ≢ signed_decimal z
no_minus_zero digits (pos n) none h e = no_sign (decimal n) digits (decimal_above n) (sym e)
no_minus_zero digits (negsuc n) none h e =
    let same : 0 ≡ suc n = decimal_injective 0 (suc n) (omega arith) (omega arith) (sym none ∙ append_cancel_left (45 ∷ []) digits (decimal (suc n)) e) in
    absurd (omega arith)

-- nor is one before what is no size
pub no_minus : (digits : List ℕ) → ((n : ℕ) → n < 10 ^ 19 → digits ≢ decimal n) → (z : ℤ) → IsShortNumber z → 45 ∷ digits ≢ signed_decimal z
no_minus digits none (pos n) h e = no_sign (decimal n) digits (decimal_above n) (sym e)
no_minus digits none (negsuc n) h e = none (suc n) (omega arith) (append_cancel_left (45 ∷ []) digits (decimal (suc n)) e)
