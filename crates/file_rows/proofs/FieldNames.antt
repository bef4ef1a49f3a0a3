-- The fields of a line without bad bytes are names, where they are not too long.
use Rattle.std.proofs.Common.{◌≡◌, ℕ, zero, suc, ◌<◌, ◌≤◌, List, [], ◌∷◌, length, get_or, true, false, cond, refl, ap, sym, ◌∙◌, arith}
use Rattle.std.specs.Prelude.{Bool, not, ◌&&◌, ◌==◌, nat_lt, filter}
use Rattle.std.specs.List.{list_any, list_all}
use Rattle.std.proofs.lemmas.Bool.{and_parts, and_from, ltb-false, ltb-true, le-leb}
use Rattle.desk_text.specs.Lines.{is_bad, is_separator, is_filled, onto_first, pieces, fields_of}
use Rattle.desk_model.specs.Name.{is_name, is_field_byte}
use Rattle.file_rows.specs.Reading.{field, is_long}
use Rattle.small_lemmas.proofs.Tests.{neither}

-- a byte that is neither bad nor a separator may stand in a name
byte_of_field : (b : ℕ) → is_separator b ≡ false → is_bad b ≡ false → is_field_byte b ≡ true
byte_of_field b s e =
    let parts = neither (nat_lt b 33 && not (is_separator b)) (b == 127) e in
    let low : (nat_lt b 33 && true) ≡ false = sym (ap (λ t. nat_lt b 33 && not t) s) ∙ parts.0 in
    let high : 33 ≤ b = ltb-false b 33 (first (nat_lt b 33) low) in
    and_from _ _ (le-leb 33 b high) (ap not parts.1)
  where
    first : (t : Bool) → (t && true) ≡ false → t ≡ false
    first true e = e
    first false e = refl

all-onto_first : (b : ℕ) (ps : List (List ℕ)) → is_field_byte b ≡ true → list_all (list_all is_field_byte) ps ≡ true → list_all (list_all is_field_byte) (onto_first b ps) ≡ true
all-onto_first b [] here rest = ap (λ t. (t && true) && true) here
all-onto_first b (p ∷ ps) here rest =
    ap (λ t. (t && list_all is_field_byte p) && list_all (list_all is_field_byte) ps) here ∙ rest

all-pieces : (line : List ℕ) → list_any is_bad line ≡ false → list_all (list_all is_field_byte) (pieces line) ≡ true
all-pieces [] e = refl
all-pieces (b ∷ bs) e =
    let parts = neither (is_bad b) (list_any is_bad bs) e in
    by (all-pieces bs parts.1) parts.0 (is_separator b) refl
  where
    by : list_all (list_all is_field_byte) (pieces bs) ≡ true → is_bad b ≡ false → (s : Bool) → is_separator b ≡ s → list_all (list_all is_field_byte) (cond (is_separator b) ([] ∷ pieces bs) (onto_first b (pieces bs))) ≡ true
    by rest good true e = ap (λ s. list_all (list_all is_field_byte) (cond s ([] ∷ pieces bs) (onto_first b (pieces bs)))) e ∙ rest
    by rest good false e = ap (λ s. list_all (list_all is_field_byte) (cond s ([] ∷ pieces bs) (onto_first b (pieces bs)))) e ∙ all-onto_first b (pieces bs) (byte_of_field b e good) rest

all-filter : (p q : List ℕ → Bool) (xs : List (List ℕ)) → list_all q xs ≡ true → list_all q (filter p xs) ≡ true
all-filter p q [] e = refl
all-filter p q (x ∷ xs) e =
    let parts = and_parts (q x) (list_all q xs) e in
    by parts.0 (all-filter p q xs parts.1) (p x)
  where
    by : q x ≡ true → list_all q (filter p xs) ≡ true → (b : Bool) → list_all q (cond b (x ∷ filter p xs) (filter p xs)) ≡ true
    by here rest true = and_from _ _ here rest
    by here rest false = rest

all-filtered : (p : List ℕ → Bool) (xs : List (List ℕ)) → list_all p (filter p xs) ≡ true
all-filtered p [] = refl
all-filtered p (x ∷ xs) = by (all-filtered p xs) (p x) refl
  where
    by : list_all p (filter p xs) ≡ true → (b : Bool) → p x ≡ b → list_all p (cond b (x ∷ filter p xs) (filter p xs)) ≡ true
    by rest true e = and_from _ _ e rest
    by rest false e = rest

all-get_or : (p : List ℕ → Bool) (xs : List (List ℕ)) (i : ℕ) (d : List ℕ) → list_all p xs ≡ true → i < length xs → p (get_or xs i d) ≡ true
all-get_or p [] i d e lt = absurd (omega arith)
all-get_or p (x ∷ xs) zero d e lt = (and_parts (p x) (list_all p xs) e).0
all-get_or p (x ∷ xs) (suc i) d e lt = all-get_or p xs i d (and_parts (p x) (list_all p xs) e).1 (omega arith)

-- a field that is not too long is a name
pub is_name-field : (line : List ℕ) (i : ℕ) → list_any is_bad line ≡ false → i < length (fields_of line) → is_long (field line i) ≡ false → is_name (field line i) ≡ true
is_name-field line i good lt short =
    let filled = ltb-true 0 (length (field line i)) (all-get_or is_filled (fields_of line) i [] (all-filtered is_filled (pieces line)) lt) in
    let fits = ltb-false 255 (length (field line i)) short in
    let bytes = all-get_or (list_all is_field_byte) (fields_of line) i [] (all-filter is_filled (list_all is_field_byte) (pieces line) (all-pieces line good)) lt in
    and_from _ _ (le-leb 1 (length (field line i)) (omega (arith, filled))) (and_from _ _ (le-leb (length (field line i)) 255 fits) bytes)
