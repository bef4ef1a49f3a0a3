-- Words between spaces, and names as words.
use Rattle.std.proofs.Common.{◌≡◌, ℕ, ◌<◌, ◌≤◌, List, [], ◌∷◌, ◌++◌, length, true, false, cond, refl, ap, ◌∙◌, arith}
use Rattle.std.specs.Prelude.{not, ◌&&◌, ◌||◌, ◌==◌, nat_le, nat_eq, filter}
use Rattle.std.specs.List.{list_all}
use Rattle.std.proofs.lemmas.Bool.{and_parts, leb-true, lt-ltb, ne_eqb}
use Rattle.desk_text.specs.Lines.{onto_first, is_separator, pieces, is_filled, fields_of}
use Rattle.desk_model.specs.Name.{is_name, is_field_byte}

-- bytes above the space
abbrev pub AreInk : List ℕ → Type 0
AreInk [] = Unit {0}
AreInk (b ∷ bs) = (32 < b) × AreInk bs

pub record IsWord (w : List ℕ) : Type 0 where
  pub filled : 0 < length w
  pub ink : AreInk w

pub ink_no_separator : (b : ℕ) → 32 < b → is_separator b ≡ false
ink_no_separator b h =
    ap (λ t. t || b == 9 || b == 13) (ne_eqb b 32 (λ e. omega arith))
    ∙ ap (λ t. t || b == 13) (ne_eqb b 9 (λ e. omega arith))
    ∙ ne_eqb b 13 (λ e. omega arith)

pub piece_on : (b : ℕ) (bs : List ℕ) → 32 < b → pieces (b ∷ bs) ≡ onto_first b (pieces bs)
piece_on b bs h = ap (λ t. cond t ([] ∷ pieces bs) (onto_first b (pieces bs))) (ink_no_separator b h)

pieces_word : (w rest : List ℕ) → AreInk w → pieces (w ++ 32 ∷ rest) ≡ w ∷ pieces rest
pieces_word [] rest h = refl
pieces_word (b ∷ bs) rest h = piece_on b (bs ++ 32 ∷ rest) h.0 ∙ ap (onto_first b) (pieces_word bs rest h.1)

pieces_last : (w : List ℕ) → AreInk w → pieces w ≡ w ∷ []
pieces_last [] h = refl
pieces_last (b ∷ bs) h = piece_on b bs h.0 ∙ ap (onto_first b) (pieces_last bs h.1)

pub kept : (w : List ℕ) (ps : List (List ℕ)) → 0 < length w → filter is_filled (w ∷ ps) ≡ w ∷ filter is_filled ps
kept w ps h = ap (λ t. cond t (w ∷ filter is_filled ps) (filter is_filled ps)) (lt-ltb 0 (length w) h)

-- the first word of a line, and the others
pub fields_word : (w rest : List ℕ) → IsWord w → fields_of (w ++ 32 ∷ rest) ≡ w ∷ fields_of rest
fields_word w rest h = ap (filter is_filled) (pieces_word w rest h.ink) ∙ kept w (pieces rest) h.filled

pub fields_last : (w : List ℕ) → IsWord w → fields_of w ≡ w ∷ []
fields_last w h = ap (filter is_filled) (pieces_last w h.ink) ∙ kept w [] h.filled

-- ---- names
pub name_most : (name : List ℕ) → is_name name ≡ true → length name ≤ 255
name_most name h =
    let parts = and_parts (nat_le 1 (length name)) (nat_le (length name) 255 && list_all is_field_byte name) h in
    leb-true (length name) 255 (and_parts (nat_le (length name) 255) (list_all is_field_byte name) parts.1).0

pub name_bytes : (name : List ℕ) → is_name name ≡ true → list_all is_field_byte name ≡ true
name_bytes name h =
    let parts = and_parts (nat_le 1 (length name)) (nat_le (length name) 255 && list_all is_field_byte name) h in
    (and_parts (nat_le (length name) 255) (list_all is_field_byte name) parts.1).1

pub field_bytes_ink : (w : List ℕ) → list_all is_field_byte w ≡ true → AreInk w
field_bytes_ink [] h = tt
field_bytes_ink (b ∷ bs) h =
    let parts = and_parts (is_field_byte b) (list_all is_field_byte bs) h in
    let above : 33 ≤ b = leb-true 33 b (and_parts (nat_le 33 b) (not (nat_eq b 127)) parts.0).0 in
    (omega (arith, above), field_bytes_ink bs parts.1)

pub name_word : (w : List ℕ) → is_name w ≡ true → IsWord w
name_word w h =
    let parts = and_parts (nat_le 1 (length w)) (nat_le (length w) 255 && list_all is_field_byte w) h in
    let some : 1 ≤ length w = leb-true 1 (length w) parts.0 in
    record { filled = omega (arith, some); ink = field_bytes_ink w (name_bytes w h) }
