-- Pieces between separators.
use Rattle.std.proofs.Common.{◌≡◌, ℕ, zero, suc, ◌+◌, ◌-◌, ◌<◌, ◌≤◌, List, [], ◌∷◌, drop, length, get_or, cond, leb, true, false, refl, ap, sym, ◌∙◌, arith, length-drop}
use Rattle.std.specs.Prelude.{Bool, filter}
use Rattle.std.specs.List.{slice_range}
use Rattle.std.proofs.lemmas.List.{drop_all, length-take}
use Rattle.std.proofs.lemmas.Bool.{lt-ltb, leb-true, leb-false}
use Rattle.desk_text.specs.Lines.{onto_first, is_separator, pieces, is_filled, fields_of}
use Rattle.desk_text.proofs.Pieces.{onto, onto-append, onto_ended, lines_at, slice_more, slice_none}

piece_at : (xs : List ℕ) (j : ℕ) (t : Bool) → j < length xs → is_separator (get_or xs j 0) ≡ t → pieces (drop j xs) ≡ cond t ([] ∷ pieces (drop (j + 1) xs)) (onto_first (get_or xs j 0) (pieces (drop (j + 1) xs)))
piece_at xs j t lt e = ap pieces (lines_at xs j lt) ∙ ap (λ t. cond t ([] ∷ pieces (drop (j + 1) xs)) (onto_first (get_or xs j 0) (pieces (drop (j + 1) xs)))) e

-- a separator before a field
pub skipped : (xs : List ℕ) (j : ℕ) → j < length xs → is_separator (get_or xs j 0) ≡ true → fields_of (drop j xs) ≡ fields_of (drop (j + 1) xs)
skipped xs j lt e = ap (filter is_filled) (piece_at xs j true lt e)

-- a byte of a field
pub grows : (xs : List ℕ) (i j : ℕ) → i ≤ j → j < length xs → is_separator (get_or xs j 0) ≡ false → pieces (drop i xs) ≡ onto (slice_range xs i j) (pieces (drop j xs)) → pieces (drop i xs) ≡ onto (slice_range xs i (j + 1)) (pieces (drop (j + 1) xs))
grows xs i j le lt s e =
    e ∙ ap (onto (slice_range xs i j)) (piece_at xs j false lt s) ∙ sym (onto-append (slice_range xs i j) (get_or xs j 0 ∷ []) (pieces (drop (j + 1) xs)))
    ∙ ap (λ ys. onto ys (pieces (drop (j + 1) xs))) (sym (slice_more xs i j le lt))

-- its bytes
grown : (xs : List ℕ) (i n : ℕ) → i + n ≤ length xs → ((k : ℕ) → i ≤ k → k < i + n → is_separator (get_or xs k 0) ≡ false) → pieces (drop i xs) ≡ onto (slice_range xs i (i + n)) (pieces (drop (i + n) xs))
grown xs i zero le h =
    let k : i ≡ i + 0 = omega arith in
    ap (λ j. pieces (drop j xs)) k ∙ sym (ap (λ ys. onto ys (pieces (drop (i + 0) xs))) (slice_none xs i))
grown xs i (suc n) le h =
    let more : i + n + 1 ≡ i + suc n = omega arith in
    grows xs i (i + n) (omega arith) (omega arith) (h (i + n) (omega arith) (omega arith)) (grown xs i n (omega arith) (λ k from to. h k from (omega arith)))
    ∙ ap (λ j. onto (slice_range xs i j) (pieces (drop j xs))) more

-- where the field ends, an empty piece begins what is left
pub ended_field : (xs : List ℕ) (i j : ℕ) (ps : List (List ℕ)) → i < j → j ≤ length xs → pieces (drop i xs) ≡ onto (slice_range xs i j) (pieces (drop j xs)) → pieces (drop j xs) ≡ [] ∷ ps → fields_of (drop i xs) ≡ slice_range xs i j ∷ fields_of (drop j xs)
ended_field xs i j ps lt le e f =
    let some : 0 < length (slice_range xs i j) = omega (arith, length-take (j - i) (drop i xs), length-drop i xs) in
    ap (filter is_filled) (e ∙ ap (onto (slice_range xs i j)) f ∙ onto_ended (slice_range xs i j) ps)
    ∙ ap (λ t. cond t (slice_range xs i j ∷ filter is_filled ps) (filter is_filled ps)) (lt-ltb 0 (length (slice_range xs i j)) some)
    ∙ ap (λ qs. slice_range xs i j ∷ filter is_filled qs) (sym f)

pub at_end : (xs : List ℕ) (j : ℕ) → length xs ≤ j → pieces (drop j xs) ≡ [] ∷ []
at_end xs j le = ap pieces (drop_all j xs le)

pub at_separator : (xs : List ℕ) (j : ℕ) → j < length xs → is_separator (get_or xs j 0) ≡ true → pieces (drop j xs) ≡ [] ∷ pieces (drop (j + 1) xs)
at_separator xs j lt e = piece_at xs j true lt e

-- a field begins at i, and a separator or the end of the line is at j
pub field_found : (xs : List ℕ) (i j : ℕ) → i < j → j ≤ length xs → ((k : ℕ) → i ≤ k → k < j → is_separator (get_or xs k 0) ≡ false)
    → (j < length xs → is_separator (get_or xs j 0) ≡ true) → fields_of (drop i xs) ≡ slice_range xs i j ∷ fields_of (drop j xs)
field_found xs i j lt le h s = by (leb (length xs) j) refl
  where
    all : i + (j - i) ≡ j
    all = omega arith

    whole : pieces (drop i xs) ≡ onto (slice_range xs i j) (pieces (drop j xs))
    whole = grown xs i (j - i) (omega arith) (λ k from to. h k from (omega arith)) ∙ ap (λ j. onto (slice_range xs i j) (pieces (drop j xs))) all

    by : (is_end : Bool) → leb (length xs) j ≡ is_end → fields_of (drop i xs) ≡ slice_range xs i j ∷ fields_of (drop j xs)
    by true e = ended_field xs i j _ lt le whole (at_end xs j (leb-true (length xs) j e))
    by false e = let inside = leb-false (length xs) j e in ended_field xs i j _ lt le whole (at_separator xs j inside (s inside))
