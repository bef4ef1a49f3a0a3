-- Bytes put back onto the start of the first line.
use Rattle.std.proofs.Common.{◌≡◌, ◌≢◌, ℕ, zero, suc, Some, None, ◌+◌, ◌-◌, ◌<◌, ◌≤◌, List, [], ◌∷◌, ◌++◌, take, drop, length, get_or, cond, true, false, refl, ap, sym, subst, ◌∙◌, arith, add-one, length-drop}
use Rattle.std.proofs.Math.Seq.{drop-cons}
use Rattle.std.proofs.lemmas.List.{take_all, drop_all, take_more, get_or-drop, length-take}
use Rattle.std.proofs.lemmas.Bool.{eq-eqb, eqb-true, ne_eqb, le-ltb}
use Rattle.std.specs.Prelude.{◌==◌, ◌||◌, Bool, not, position, slice_index}
use Rattle.std.specs.List.{slice_range, list_any, position_or_len}
use Rattle.memchr.specs.Find.{IsFirstByte, is_byte}
use Rattle.desk_text.specs.Lines.{onto_first, lines}

-- bytes at the start of the first line
abbrev pub onto : List ℕ → List (List ℕ) → List (List ℕ)
onto [] ls = ls
onto (x ∷ xs) ls = onto_first x (onto xs ls)

pub onto-append : (xs ys : List ℕ) (ls : List (List ℕ)) → onto (xs ++ ys) ls ≡ onto xs (onto ys ls)
onto-append [] ys ls = refl
onto-append (x ∷ xs) ys ls = ap (onto_first x) (onto-append xs ys ls)

-- a line that ended
pub onto_ended : (xs : List ℕ) (ls : List (List ℕ)) → onto xs ([] ∷ ls) ≡ xs ∷ ls
onto_ended [] ls = refl
onto_ended (x ∷ xs) ls = ap (onto_first x) (onto_ended xs ls)

-- a last line with no line feed
pub onto_last : (x : ℕ) (xs : List ℕ) → onto (x ∷ xs) [] ≡ (x ∷ xs) ∷ []
onto_last x [] = refl
onto_last x (y ∷ ys) = ap (onto_first x) (onto_last y ys)

pub lines_at : (xs : List ℕ) (i : ℕ) → i < length xs → drop i xs ≡ get_or xs i 0 ∷ drop (i + 1) xs
lines_at xs i lt = drop-cons xs i 0 lt ∙ ap (λ k. get_or xs i 0 ∷ drop k xs) (sym (add-one i))

pub slice_more : (xs : List ℕ) (i j : ℕ) → i ≤ j → j < length xs → slice_range xs i (j + 1) ≡ slice_range xs i j ++ get_or xs j 0 ∷ []
slice_more xs i j le lt =
    let k : j + 1 - i ≡ (j - i) + 1 = omega arith in
    let l : j - i < length (drop i xs) = omega (arith, length-drop i xs) in
    let m : i + (j - i) ≡ j = omega arith in
    ap (λ n. take n (drop i xs)) k ∙ take_more (drop i xs) (j - i) 0 l
    ∙ ap (λ b. take (j - i) (drop i xs) ++ b ∷ []) (get_or-drop i xs (j - i) 0 ∙ ap (λ n. get_or xs n 0) m)

-- no line feed stands at j
pub goes_on : (xs : List ℕ) (i j : ℕ) → i ≤ j → j < length xs → get_or xs j 0 ≢ 10 → lines (drop i xs) ≡ onto (slice_range xs i j) (lines (drop j xs)) → lines (drop i xs) ≡ onto (slice_range xs i (j + 1)) (lines (drop (j + 1) xs))
goes_on xs i j le lt ne e =
    let b = get_or xs j 0 in
    let at : lines (drop j xs) ≡ onto_first b (lines (drop (j + 1) xs)) =
    ap lines (lines_at xs j lt) ∙ ap (λ t. cond t ([] ∷ lines (drop (j + 1) xs)) (onto_first b (lines (drop (j + 1) xs)))) (ne_eqb b 10 ne) in
    e ∙ ap (onto (slice_range xs i j)) at ∙ sym (onto-append (slice_range xs i j) (b ∷ []) (lines (drop (j + 1) xs)))
    ∙ ap (λ ys. onto ys (lines (drop (j + 1) xs))) (sym (slice_more xs i j le lt))

-- a line feed stands at j
pub ends : (xs : List ℕ) (i j : ℕ) → j < length xs → get_or xs j 0 ≡ 10 → lines (drop i xs) ≡ onto (slice_range xs i j) (lines (drop j xs)) → lines (drop i xs) ≡ slice_range xs i j ∷ lines (drop (j + 1) xs)
ends xs i j lt eq e =
    let b = get_or xs j 0 in
    let at : lines (drop j xs) ≡ [] ∷ lines (drop (j + 1) xs) =
    ap lines (lines_at xs j lt) ∙ ap (λ t. cond t ([] ∷ lines (drop (j + 1) xs)) (onto_first b (lines (drop (j + 1) xs)))) (eq-eqb b 10 eq) in
    e ∙ ap (onto (slice_range xs i j)) at ∙ onto_ended (slice_range xs i j) (lines (drop (j + 1) xs))

onto_rest : (xs : List ℕ) → 0 < length xs → onto xs [] ≡ xs ∷ []
onto_rest [] h = absurd (omega (arith, h))
onto_rest (x ∷ xs) h = onto_last x xs

-- the text ends
pub is_last : (xs : List ℕ) (i j : ℕ) → i < length xs → j ≡ length xs → lines (drop i xs) ≡ onto (slice_range xs i j) (lines (drop j xs)) → lines (drop i xs) ≡ slice_range xs i j ∷ lines (drop j xs)
is_last xs i j lt eq e =
    let none : drop j xs ≡ [] = drop_all j xs (omega arith) in
    let some : 0 < length (slice_range xs i j) = omega (arith, length-take (j - i) (drop i xs), length-drop i xs) in
    e ∙ ap (λ ys. onto (slice_range xs i j) (lines ys)) none ∙ onto_rest (slice_range xs i j) some
    ∙ ap (λ ys. slice_range xs i j ∷ lines ys) (sym none)

pub slice_none : (xs : List ℕ) (i : ℕ) → slice_range xs i (i + 0) ≡ []
slice_none xs i = (let k : i + 0 - i ≡ 0 = omega arith in ap (λ n. take n (drop i xs)) k)

-- no line feed stands in a stretch
pub stretch : (xs : List ℕ) (i n : ℕ) → i + n ≤ length xs → ((k : ℕ) → k < n → get_or xs (i + k) 0 ≢ 10) → lines (drop i xs) ≡ onto (slice_range xs i (i + n)) (lines (drop (i + n) xs))
stretch xs i zero le h =
    let k : i ≡ i + 0 = omega arith in
    ap (λ j. lines (drop j xs)) k ∙ sym (ap (λ ys. onto ys (lines (drop (i + 0) xs))) (slice_none xs i))
stretch xs i (suc n) le h =
    let more : i + n + 1 ≡ i + suc n = omega arith in
    goes_on xs i (i + n) (omega arith) (omega arith) (h n (omega arith)) (stretch xs i n (omega arith) (λ k lt. h k (omega arith)))
    ∙ ap (λ j. onto (slice_range xs i j) (lines (drop j xs))) more

-- a byte of what stands from a place on
byte_on : (xs : List ℕ) (i k : ℕ) → i + k < length xs → slice_index (drop i xs) k ≡ get_or xs (i + k) 0
byte_on xs i k lt = get_or-drop i xs k 0

rest : (xs : List ℕ) (i : ℕ) → slice_range xs i (length xs) ≡ drop i xs
rest xs i = (let size = length-drop i xs in take_all (length xs - i) (drop i xs) (omega arith))

-- the first line feed ends the line
pub line_found : (xs : List ℕ) (i n : ℕ) → i ≤ length xs → IsFirstByte (is_byte 10) (slice_range xs i (length xs)) (Some n) → lines (drop i xs) ≡ slice_range xs i (i + n) ∷ lines (drop (i + n + 1) xs)
line_found xs i n le found =
    let size = length-drop i xs in
    let h : IsFirstByte (is_byte 10) (drop i xs) (Some n) = subst (λ bs. IsFirstByte (is_byte 10) bs (Some n)) (rest xs i) found in
    let within : i + n < length xs = (let lt = h.0.high in omega arith) in
    ends xs i (i + n) within (sym (byte_on xs i n within) ∙ eqb-true (slice_index (drop i xs) n) 10 h.1)
    (stretch xs i n (omega arith) (λ k lt e. h.0.before k (omega arith) lt (ap (λ b. b == 10) (byte_on xs i k (omega arith) ∙ e))))

-- with none, the line is what is left
pub line_last : (xs : List ℕ) (i : ℕ) → i < length xs → IsFirstByte (is_byte 10) (slice_range xs i (length xs)) None → lines (drop i xs) ≡ slice_range xs i (length xs) ∷ lines (drop (length xs) xs)
line_last xs i lt none =
    let size = length-drop i xs in
    let h : IsFirstByte (is_byte 10) (drop i xs) None = subst (λ bs. IsFirstByte (is_byte 10) bs None) (rest xs i) none in
    let n = length xs - i in
    let all : i + n ≡ length xs = omega arith in
    let here = stretch xs i n (omega arith) (λ k less e. h k (omega arith) (omega arith) (ap (λ b. b == 10) (byte_on xs i k (omega arith) ∙ e))) in
    is_last xs i (length xs) lt refl (here ∙ ap (λ j. onto (slice_range xs i j) (lines (drop j xs))) all)

none_before : (test : ℕ → Bool) (xs : List ℕ) → list_any test xs ≡ false → position_or_len test xs ≡ length xs
none_before test [] e = refl
none_before test (x ∷ xs) e = by (test x) e (none_before test xs)
  where
    by : (b : Bool) → (b || list_any test xs) ≡ false → (list_any test xs ≡ false → position_or_len test xs ≡ length xs) → cond (not b) (1 + position_or_len test xs) 0 ≡ length (x ∷ xs)
    by true e h = absurd (cc)
    by false e h = (let k = h e in omega arith)

-- a test that no byte passes has no place
pub no_position : (test : ℕ → Bool) (xs : List ℕ) → list_any test xs ≡ false → position test xs ≡ None
no_position test xs e = (let k = none_before test xs e in ap (λ b. cond b (Some (position_or_len test xs)) None) (le-ltb (position_or_len test xs) (length xs) (omega arith)))
