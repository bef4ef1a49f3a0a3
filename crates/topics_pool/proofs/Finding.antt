-- What is found by name, and the first number that passes a test.
use Rattle.std.proofs.Common.{◌≡◌, ℕ, zero, suc, ◌+◌, ◌<◌, Bool, true, false, List, [], ◌∷◌, length, get_or, Some, None, refl, ap, sym, ◌∙◌, arith}
use Rattle.std.specs.Prelude.{find, option_map, slice_get, ℤ}
use Rattle.std.specs.List.{list_any, range_with_len, IsDistinct}
use Rattle.std.specs.Str.{bytes_eq}
use Rattle.std.proofs.lemmas.List.{get_or-map, length-map}
use Rattle.std.proofs.lemmas.Map.Keys.{any_passes_from_place, apart_from_distinct}
use Rattle.std.proofs.lemmas.Option.{slice_get-get_or}
use Rattle.file_rows.specs.Grouped.{Valued}
use Rattle.small_lemmas.proofs.Tests.{neither}
use Rattle.file_rows.proofs.Seen.{laws}
use Rattle.topic_universe.specs.Universe.{listed}
use Rattle.topics_pool.specs.Rows.{grade_in, first_repeated, is_repeated}

-- ---- the first number that passes
pub find-first : (p : ℕ → Bool) (a n i : ℕ) → i < n → p (a + i) ≡ true → ((k : ℕ) → k < i → p (a + k) ≡ false) → find p (range_with_len a n) ≡ Some (a + i)
find-first p a zero i lt here before = absurd (omega arith)
find-first p a (suc n) zero lt here before =
    let start : a + 0 ≡ a = omega arith in
    let passes : p a ≡ true = ap p (sym start) ∙ here in
    rw passes (ap Some (sym start))
find-first p a (suc n) (suc i) lt here before =
    let start : a + 0 ≡ a = omega arith in
    let fails : p a ≡ false = ap p (sym start) ∙ before 0 (omega arith) in
    let shift : (k : ℕ) → a + suc k ≡ a + 1 + k = λ k. omega arith in
    rw fails (find-first p (a + 1) n i (omega arith) (ap p (sym (shift i)) ∙ here) (λ k below. ap p (sym (shift k)) ∙ before (suc k) (omega arith)) ∙ ap Some (sym (shift i)))

pub find-none : (p : ℕ → Bool) (a n : ℕ) → ((k : ℕ) → k < n → p (a + k) ≡ false) → find p (range_with_len a n) ≡ None
find-none p a zero fails = refl
find-none p a (suc n) fails =
    let start : a + 0 ≡ a = omega arith in
    let first : p a ≡ false = ap p (sym start) ∙ fails 0 (omega arith) in
    let shift : (k : ℕ) → a + suc k ≡ a + 1 + k = λ k. omega arith in
    rw first (find-none p (a + 1) n (λ k below. ap p (sym (shift k)) ∙ fails (suc k) (omega arith)))

pub repeated_first : (names : List (List ℕ)) (r : ℕ) → r < length names → is_repeated names r ≡ true → ((k : ℕ) → k < r → is_repeated names k ≡ false) → first_repeated names ≡ Some r
repeated_first names r lt here before =
    let start : (k : ℕ) → 0 + k ≡ k = λ k. omega arith in
    find-first (is_repeated names) 0 (length names) r lt (ap (is_repeated names) (start r) ∙ here) (λ k below. ap (is_repeated names) (start k) ∙ before k below) ∙ ap Some (start r)

pub repeated_none : (names : List (List ℕ)) → ((k : ℕ) → k < length names → is_repeated names k ≡ false) → first_repeated names ≡ None
repeated_none names fails = let start : (k : ℕ) → 0 + k ≡ k = λ k. omega arith in find-none (is_repeated names) 0 (length names) (λ k lt. ap (is_repeated names) (start k) ∙ fails k lt)

-- ---- a document that is listed
find_at : (p : Valued → Bool) (docs : List Valued) (i : ℕ) (d : Valued) → i < length docs → p (get_or docs i d) ≡ true → ((k : ℕ) → k < i → p (get_or docs k d) ≡ false) → find p docs ≡ Some (get_or docs i d)
find_at p [] i d lt here before = absurd (omega arith)
find_at p (x ∷ docs) zero d lt here before = rw here refl
find_at p (x ∷ docs) (suc i) d lt here before =
    let first : p x ≡ false = before 0 (omega arith) in
    rw first (find_at p docs i d (omega arith) here (λ k below. before (suc k) (omega arith)))

pub grade_found : (docs : List Valued) (name : List ℕ) (i : ℕ) (grade : ℤ) → i < length docs → get_or (listed docs) i [] ≡ name → IsDistinct bytes_eq (listed docs) → option_map (λ (d : Valued). d.value) (slice_get docs i) ≡ Some grade → Some grade ≡ grade_in docs name
grade_found docs name i grade lt is distinct got =
    let nobody : Valued = record { document = []; value = grade } in
    let long = length-map docs (λ (d : Valued). d.document) in
    let by : (k : ℕ) → k < length docs → get_or (listed docs) k [] ≡ (get_or docs k nobody).document = λ k below. get_or-map (λ (d : Valued). d.document) docs k nobody [] below in
    let apart : (k : ℕ) → k < i → bytes_eq name (get_or (listed docs) k []) ≡ false = λ k below.
    ap (λ n. bytes_eq n (get_or (listed docs) k [])) (sym is) ∙ laws.symm (get_or (listed docs) i []) (get_or (listed docs) k [])
    ∙ apart_from_distinct bytes_eq (listed docs) k i [] distinct below (omega (arith, lt, long)) in
    let found = find_at (λ (d : Valued). bytes_eq name d.document) docs i nobody lt (ap (bytes_eq name) (sym (by i lt) ∙ is) ∙ laws.refl name) (λ k below. ap (bytes_eq name) (sym (by k (omega (arith, below, lt)))) ∙ apart k below) in
    sym got ∙ ap (option_map (λ (d : Valued). d.value)) (slice_get-get_or docs i nobody lt ∙ sym found)

find_none : (docs : List Valued) (name : List ℕ) → list_any (bytes_eq name) (listed docs) ≡ false → find (λ (d : Valued). bytes_eq name d.document) docs ≡ None
find_none [] name h = refl
find_none (d ∷ docs) name h =
    let parts = neither (bytes_eq name d.document) (list_any (bytes_eq name) (listed docs)) h in
    rw (parts.0) (find_none docs name parts.1)

pub grade_none : (docs : List Valued) (name : List ℕ) → list_any (bytes_eq name) (listed docs) ≡ false → None ≡ grade_in docs name
grade_none docs name unlisted = sym (ap (option_map (λ (d : Valued). d.value)) (find_none docs name unlisted))

-- a name that stands at a place is among the names
pub among-at : (names : List (List ℕ)) (i : ℕ) (name : List ℕ) → slice_get names i ≡ Some name → list_any (bytes_eq name) names ≡ true
among-at names i name got = any_passes_from_place (bytes_eq name) names i name got (laws.refl name)
