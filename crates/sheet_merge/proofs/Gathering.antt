-- Rows that are gathered by their places.
use Rattle.std.proofs.Common.{◌≡◌, ℕ, zero, suc, ◌+◌, ◌<◌, ◌≤◌, Bool, true, false, true≢false, List, [], ◌∷◌, ◌++◌, length, get_or, set, take, drop, map, Option, Some, None, is_some, refl, ap, ap₂, sym, subst, ◌∙◌, arith, inl, inr}
use Rattle.std.specs.Prelude.{All, if◌then◌else◌, ◌||◌, ◌&&◌, is_none, position, nat_le, slice_get}
use Rattle.std.specs.List.{AllByRecursion, IsDistinct, list_any}
use Rattle.std.specs.List.Sorted.{IsSortedBy}
use Rattle.std.specs.Prelude.{IsPermutation}
use Rattle.std.specs.Ordering.{is_eq, is_lt, ordering_reverse}
use Rattle.std.specs.Str.{bytes_eq}
use Rattle.std.specs.declared.cmp.Ordering.{Ordering}
use Rattle.std.specs.declared.cmp.Ordering.TheVariants.{Less, Equal, Greater}
use Rattle.std.proofs.lemmas.Bool.{leb-false}
use Rattle.std.proofs.lemmas.Cmp.{tied_itself, nat_list_cmp_total}
use Rattle.std.proofs.lemmas.List.{length-take-le, take-append-drop, get_or-map, length-map, length-set, length_push}
use Rattle.std.proofs.lemmas.List.Sorted.{Contains-permutation, IsPermutation-map, IsPermutation-sym}
use Rattle.std.proofs.lemmas.Map.Keys.{apart_from_distinct, sorted_from_all_adjacent, IsDistinct-IsPermutation}
use Rattle.std.proofs.lemmas.Map.Lookups.{exact_bytes}
use Rattle.std.proofs.lemmas.Map.Text.{is_eq-slice_cmp}
use Rattle.small_lemmas.proofs.Lists.{all-append}
use Rattle.desk_model.specs.Name.{name_cmp}
use Rattle.file_rows.proofs.Places.{located}
use Rattle.sheet_merge.specs.Sheet.{SheetEntry, SheetPlace, SheetRow, IsSheetRow, IsMap, place_of, place_cmp, entry_cmp, entry_on, greatest_on, greater, greater_of, raised, map_of}
use Rattle.sheet_merge.specs.Packed.{IsNamePair, place_from, placed_entries, row_at}
use Rattle.sheet_merge.specs.Lines.{brings_too_many}
use Rattle.sheet_merge.specs.Table.{with_entry, is_same_place, HaveOwnPlaces, AreGathered, IsTable}
use Rattle.sheet_merge.specs.declared.limits.TheConstants.{ENTRY_LIMIT}
use Rattle.sheet_merge.proofs.Entries.{place_total, place_exact, equal_from, greater_of-none, greater_of-pairs, greater_of-order}
use Rattle.sheet_merge.proofs.Greatest.{same_elements}
use Rattle.sheet_merge.proofs.Maps.{tail_map, past_head, at_head, map_is_one, none_some, other_place}
use Rattle.sheet_merge.proofs.Raising.{joined, raised-less, raised-equal, raised-greater, map_of_is_map}

-- ---- places as bytes
pair_parts : (n m : ℕ) (xs ys : List ℕ) → n ≤ length xs → m ≤ length ys → take n xs ≡ take m ys → drop n xs ≡ drop m ys → (n ∷ xs) ≡ (m ∷ ys)
pair_parts n m xs ys h k e f =
    let same : n ≡ m = sym (length-take-le n xs h) ∙ ap length e ∙ length-take-le m ys k in
    ap₂ (λ (a : ℕ) (b : List ℕ). a ∷ b) same (sym (take-append-drop n xs) ∙ ap₂ (λ (a b : List ℕ). a ++ b) e f ∙ take-append-drop m ys)

pub pair_exact : (x y : List ℕ) → IsNamePair x → IsNamePair y → place_from x ≡ place_from y → x ≡ y
pair_exact [] y h k e = absurd h
pair_exact (n ∷ xs) [] h k e = absurd k
pair_exact (n ∷ xs) (m ∷ ys) h k e = pair_parts n m xs ys h k (ap (λ (p : SheetPlace). p.0) e) (ap (λ (p : SheetPlace). p.1) e)

bytes_same : (x y : List ℕ) → bytes_eq x y ≡ true → x ≡ y
bytes_same x y e = exact_bytes x y (equal_from (name_cmp x y) (is_eq-slice_cmp x y ∙ e))

bytes_itself : (x : List ℕ) → bytes_eq x x ≡ true
bytes_itself x = sym (is_eq-slice_cmp x x) ∙ ap is_eq (tied_itself nat_list_cmp_total x)

pub is_same-bytes : (x y : List ℕ) → IsNamePair x → IsNamePair y → is_same_place (place_from x) (place_from y) ≡ bytes_eq x y
is_same-bytes x y h k = go (bytes_eq x y) refl (is_same_place (place_from x) (place_from y)) refl
  where
    go : (b : Bool) → bytes_eq x y ≡ b → (c : Bool) → is_same_place (place_from x) (place_from y) ≡ c → is_same_place (place_from x) (place_from y) ≡ bytes_eq x y
    go true e c f = ap (λ z. is_same_place (place_from x) (place_from z)) (sym (bytes_same x y e)) ∙ ap is_eq (tied_itself place_total (place_from x)) ∙ sym e
    go false e false f = f ∙ sym e
    go false e true f =
        let same = pair_exact x y h k (place_exact (place_from x) (place_from y) (equal_from (place_cmp (place_from x) (place_from y)) f)) in
        absurd (true≢false (sym (bytes_itself x) ∙ ap (bytes_eq x) same ∙ e))

-- ---- a place that is not there
pub new_place : (names : List (List ℕ)) (entries : List SheetEntry) (name : List ℕ) (e : SheetEntry) → length names ≡ length entries → AllByRecursion IsNamePair names → IsNamePair name → list_any (bytes_eq name) names ≡ false
    → placed_entries (names ++ name ∷ []) (entries ++ e ∷ []) ≡ with_entry (place_from name, e) (placed_entries names entries)
new_place [] [] name e l h k n = refl
new_place [] (x ∷ entries) name e l h k n = absurd (omega arith)
new_place (x ∷ names) [] name e l h k n = absurd (omega arith)
new_place (x ∷ names) (y ∷ entries) name e l h k n = go (bytes_eq name x) refl n (new_place names entries name e (omega arith) h.1 k)
  where
    rest : List SheetRow
    rest = placed_entries names entries

    go : (b : Bool) → bytes_eq name x ≡ b → (b || list_any (bytes_eq name) names) ≡ false → (list_any (bytes_eq name) names ≡ false → placed_entries (names ++ name ∷ []) (entries ++ e ∷ []) ≡ with_entry (place_from name, e) rest)
        → placed_entries ((x ∷ names) ++ name ∷ []) ((y ∷ entries) ++ e ∷ []) ≡ with_entry (place_from name, e) ((place_from x, y) ∷ rest)
    go true f m again = absurd (true≢false m)
    go false f m again =
        ap (λ (rows : List SheetRow). (place_from x, y) ∷ rows) (again m)
        ∙ sym (ap (λ b. if b then (place_from x, greater y e) ∷ rest else (place_from x, y) ∷ with_entry (place_from name, e) rest) (is_same-bytes name x k h.0 ∙ f))

-- ---- a place that is there
pub old_place : (names : List (List ℕ)) (entries : List SheetEntry) (name : List ℕ) (e d : SheetEntry) (i : ℕ) → length names ≡ length entries → AllByRecursion IsNamePair names → IsNamePair name → position (bytes_eq name) names ≡ Some i
    → placed_entries names (set entries i (greater (get_or entries i d) e)) ≡ with_entry (place_from name, e) (placed_entries names entries)
old_place [] entries name e d i l h k n = absurd (cc)
old_place (x ∷ names) [] name e d i l h k n = absurd (omega arith)
old_place (x ∷ names) (y ∷ entries) name e d i l h k n =
    elim (located (bytes_eq name) x names i n) [
      | inl w ↦ first w.0 w.1
      | inr w ↦ later w.fails w.place w.next (old_place names entries name e d w.place (omega arith) h.1 k w.found)
    ]
  where
    rest : List SheetRow
    rest = placed_entries names entries

    row : SheetRow
    row = (place_from name, e)

    first : bytes_eq name x ≡ true → i ≡ 0 → placed_entries (x ∷ names) (set (y ∷ entries) i (greater (get_or (y ∷ entries) i d) e)) ≡ with_entry row ((place_from x, y) ∷ rest)
    first f z =
        ap (λ k. placed_entries (x ∷ names) (set (y ∷ entries) k (greater (get_or (y ∷ entries) k d) e))) z
        ∙ sym (ap (λ b. if b then (place_from x, greater y e) ∷ rest else (place_from x, y) ∷ with_entry row rest) (is_same-bytes name x k h.0 ∙ f))

    later : bytes_eq name x ≡ false → (j : ℕ) → i ≡ suc j → placed_entries names (set entries j (greater (get_or entries j d) e)) ≡ with_entry row rest
        → placed_entries (x ∷ names) (set (y ∷ entries) i (greater (get_or (y ∷ entries) i d) e)) ≡ with_entry row ((place_from x, y) ∷ rest)
    later f j z again =
        ap (λ k. placed_entries (x ∷ names) (set (y ∷ entries) k (greater (get_or (y ∷ entries) k d) e))) z
        ∙ ap (λ (rows : List SheetRow). (place_from x, y) ∷ rows) again
        ∙ sym (ap (λ b. if b then (place_from x, greater y e) ∷ rest else (place_from x, y) ∷ with_entry row rest) (is_same-bytes name x k h.0 ∙ f))

-- ---- what rows have of a place, after one more
pub with_entry_greatest : (p : SheetPlace) (row : SheetRow) (rows : List SheetRow) → greatest_on p (with_entry row rows) ≡ greater_of (greatest_on p rows) (entry_on p row)
with_entry_greatest p row [] = greater_of-none (entry_on p row)
with_entry_greatest p row (x ∷ rows) = go (is_eq (place_cmp row.0 x.0)) refl (with_entry_greatest p row rows)
  where
    go : (b : Bool) → is_eq (place_cmp row.0 x.0) ≡ b → greatest_on p (with_entry row rows) ≡ greater_of (greatest_on p rows) (entry_on p row) → greatest_on p (if is_eq (place_cmp row.0 x.0) then (x.0, greater x.1 row.1) ∷ rows else x ∷ with_entry row rows) ≡ greater_of (greatest_on p (x ∷ rows)) (entry_on p row)
    go true f again =
        let place : row.0 ≡ x.0 = place_exact row.0 x.0 (equal_from (place_cmp row.0 x.0) f) in
        let here : entry_on p (x.0, row.1) ≡ entry_on p row = ap (λ (q : SheetPlace). entry_on p (q, row.1)) (sym place) in
        ap (λ b. greatest_on p (if b then (x.0, greater x.1 row.1) ∷ rows else x ∷ with_entry row rows)) f
        ∙ ap (λ o. greater_of o (greatest_on p rows)) (joined p x row.1 ∙ ap (greater_of (entry_on p x)) here)
        ∙ greater_of-pairs (entry_on p x) (entry_on p row) (greatest_on p rows)
        ∙ ap (greater_of (entry_on p x)) (greater_of-order (entry_on p row) (greatest_on p rows))
        ∙ sym (greater_of-pairs (entry_on p x) (greatest_on p rows) (entry_on p row))
    go false f again =
        ap (λ b. greatest_on p (if b then (x.0, greater x.1 row.1) ∷ rows else x ∷ with_entry row rows)) f
        ∙ ap (greater_of (entry_on p x)) again
        ∙ sym (greater_of-pairs (entry_on p x) (greatest_on p rows) (entry_on p row))

-- ---- rows stay apart
other_from : (p : SheetPlace) (row : SheetRow) (rows : List SheetRow) → is_same_place p row.0 ≡ false → AllByRecursion (λ q. is_same_place p q ≡ false) (map place_of rows) → AllByRecursion (λ q. is_same_place p q ≡ false) (map place_of (with_entry row rows))
other_from p row [] e h = (e, tt)
other_from p row (x ∷ rows) e h = go (is_eq (place_cmp row.0 x.0)) (other_from p row rows e h.1)
  where
    go : (b : Bool) → AllByRecursion (λ q. is_same_place p q ≡ false) (map place_of (with_entry row rows)) → AllByRecursion (λ q. is_same_place p q ≡ false) (map place_of (if b then (x.0, greater x.1 row.1) ∷ rows else x ∷ with_entry row rows))
    go true again = (h.0, h.1)
    go false again = (h.0, again)

is_eq-reverse : (r : Ordering) → is_eq (ordering_reverse r) ≡ is_eq r
is_eq-reverse Less = refl
is_eq-reverse Equal = refl
is_eq-reverse Greater = refl

pub same_flips : (p q : SheetPlace) → is_same_place p q ≡ is_same_place q p
same_flips p q = ap is_eq (place_total.antisymm p q) ∙ is_eq-reverse (place_cmp q p)

pub with_entry_apart : (row : SheetRow) (rows : List SheetRow) → HaveOwnPlaces rows → HaveOwnPlaces (with_entry row rows)
unfolding IsDistinct
with_entry_apart row [] h = (tt, tt)
with_entry_apart row (x ∷ rows) h = go (is_eq (place_cmp row.0 x.0)) refl (with_entry_apart row rows h.1)
  where
    go : (b : Bool) → is_eq (place_cmp row.0 x.0) ≡ b → HaveOwnPlaces (with_entry row rows) → HaveOwnPlaces (if b then (x.0, greater x.1 row.1) ∷ rows else x ∷ with_entry row rows)
    go true f again = (h.0, h.1)
    go false f again = (other_from x.0 row rows (same_flips x.0 row.0 ∙ f) h.0, again)

-- ---- rows stay right
greater_right : (x row : SheetRow) → IsSheetRow x → IsSheetRow row → IsSheetRow (x.0, greater x.1 row.1)
greater_right x row h k = go (is_lt (entry_cmp x.1 row.1))
  where
    go : (b : Bool) → IsSheetRow (x.0, (if b then row.1 else x.1))
    go true = record { topic = h.topic; document = h.document; assessor = k.assessor; first_stamp = k.first_stamp; last_stamp = k.last_stamp; least = k.least; greatest = k.greatest }
    go false = record { topic = h.topic; document = h.document; assessor = h.assessor; first_stamp = h.first_stamp; last_stamp = h.last_stamp; least = h.least; greatest = h.greatest }

pub with_entry_right : (row : SheetRow) (rows : List SheetRow) → IsSheetRow row → AllByRecursion IsSheetRow rows → AllByRecursion IsSheetRow (with_entry row rows)
with_entry_right row [] k h = (k, tt)
with_entry_right row (x ∷ rows) k h = go (is_eq (place_cmp row.0 x.0)) (with_entry_right row rows k h.1)
  where
    go : (b : Bool) → AllByRecursion IsSheetRow (with_entry row rows) → AllByRecursion IsSheetRow (if b then (x.0, greater x.1 row.1) ∷ rows else x ∷ with_entry row rows)
    go true again = (greater_right x row h.0 k, h.1)
    go false again = (h.0, again)

-- ---- whether a place is there
pub is_there : (names : List (List ℕ)) (entries : List SheetEntry) (name : List ℕ) → length names ≡ length entries → AllByRecursion IsNamePair names → IsNamePair name → is_some (greatest_on (place_from name) (placed_entries names entries)) ≡ list_any (bytes_eq name) names
is_there [] entries name l h k = refl
is_there (x ∷ names) [] name l h k = absurd (omega arith)
is_there (x ∷ names) (y ∷ entries) name l h k = ap (λ b. is_some (greater_of (if b then Some y else None) rest)) (is_same-bytes name x k h.0) ∙ go (bytes_eq name x) rest ∙ ap (λ b. bytes_eq name x || b) (is_there names entries name (omega arith) h.1 k)
  where
    rest : Option SheetEntry
    rest = greatest_on (place_from name) (placed_entries names entries)

    go : (b : Bool) (o : Option SheetEntry) → is_some (greater_of (if b then Some y else None) o) ≡ (b || is_some o)
    go true None = refl
    go true (Some z) = refl
    go false o = refl

-- ---- as many as their map has
nothing_there : (p : SheetPlace) (rows : List SheetRow) → AllByRecursion (λ q. is_same_place p q ≡ false) (map place_of rows) → greatest_on p rows ≡ None
nothing_there p [] h = refl
nothing_there p (x ∷ rows) h = ap (λ o. greater_of o (greatest_on p rows)) (other_place p x h.0) ∙ nothing_there p rows h.1

length-raised : (row : SheetRow) (rows : List SheetRow) → IsMap rows → greatest_on row.0 rows ≡ None → length (raised row rows) ≡ suc (length rows)
length-raised row [] h n = refl
length-raised row (x ∷ rows) h n = go (place_cmp row.0 x.0) refl (length-raised row rows (tail_map x rows h))
  where
    go : (r : Ordering) → place_cmp row.0 x.0 ≡ r → (greatest_on row.0 rows ≡ None → length (raised row rows) ≡ suc (length rows)) → length (raised row (x ∷ rows)) ≡ suc (length (x ∷ rows))
    go Less f again = ap length (raised-less row x rows f)
    go Equal f again =
        let place : row.0 ≡ x.0 = place_exact row.0 x.0 f in
        absurd (none_some x.1 (sym n ∙ ap (λ p. greatest_on p (x ∷ rows)) place ∙ at_head x rows h))
    go Greater f again = ap length (raised-greater row x rows f) ∙ ap suc (again (sym (past_head row.0 x rows (ap is_eq f)) ∙ n))

pub length-map_of : (rows : List SheetRow) → HaveOwnPlaces rows → length (map_of rows) ≡ length rows
unfolding IsDistinct
length-map_of [] h = refl
length-map_of (x ∷ rows) h =
    let of = map_of_is_map rows in
    length-raised x (map_of rows) of.is_map (of.greatest x.0 ∙ nothing_there x.0 rows h.0) ∙ ap suc (length-map_of rows h.1)

-- rows that have of each place what some lines have
pub same_map : (rows lines : List SheetRow) → ((p : SheetPlace) → greatest_on p rows ≡ greatest_on p lines) → map_of rows ≡ map_of lines
same_map rows lines same =
    let a = map_of_is_map rows in
    let b = map_of_is_map lines in
    map_is_one (map_of rows) (map_of lines) a.is_map b.is_map (λ p. a.greatest p ∙ same p ∙ sym (b.greatest p))

-- ---- sorted rows
smaller : (p q : SheetPlace) → is_lt (place_cmp q p) ≡ false → is_same_place p q ≡ false → place_cmp p q ≡ Less
smaller p q order apart = go (place_cmp p q) refl
  where
    go : (o : Ordering) → place_cmp p q ≡ o → place_cmp p q ≡ Less
    go Less e = e
    go Equal e = absurd (true≢false (sym (ap is_eq e) ∙ apart))
    go Greater e = absurd (true≢false (sym (ap is_lt (place_total.antisymm q p ∙ ap ordering_reverse e)) ∙ order))

sorted_places : (rows : List SheetRow) → IsSortedBy (λ (x y : SheetRow). is_lt (place_cmp x.0 y.0)) rows → IsSortedBy (λ p q. is_lt (place_cmp p q)) (map place_of rows)
sorted_places [] up = λ k d low lt. absurd (omega arith)
sorted_places (r ∷ rows) up = λ k d low lt.
    let long = length-map (r ∷ rows) place_of in
    let here = get_or-map place_of (r ∷ rows) k r d (omega (arith, lt, long)) in
    let next = get_or-map place_of (r ∷ rows) (k + 1) r d (omega (arith, lt, long)) in
    (λ i. is_lt (place_cmp (next i) (here i))) ∙ up k r low (omega (arith, lt, long))

pub sorted_is_map : (rows sorted : List SheetRow) → HaveOwnPlaces rows → IsPermutation rows sorted → IsSortedBy (λ (x y : SheetRow). is_lt (place_cmp x.0 y.0)) sorted → IsMap sorted
sorted_is_map rows sorted apart moved up =
    let distinct = IsDistinct-IsPermutation is_same_place same_flips (map place_of rows) (map place_of sorted) (IsPermutation-map place_of rows sorted moved) apart in
    let places = sorted_places sorted up in
    let nowhere : SheetPlace = ([], []) in
    sorted_from_all_adjacent place_total (map place_of sorted) nowhere (λ k lt.
    smaller (get_or (map place_of sorted) k nowhere) (get_or (map place_of sorted) (k + 1) nowhere) (places k nowhere (omega arith) lt) (apart_from_distinct is_same_place (map place_of sorted) k (k + 1) nowhere distinct (omega arith) lt))

pub sorted_greatest : (p : SheetPlace) (rows sorted : List SheetRow) → IsPermutation rows sorted → greatest_on p sorted ≡ greatest_on p rows
sorted_greatest p rows sorted moved = same_elements (entry_on p) sorted rows (λ x c. Contains-permutation sorted rows x (IsPermutation-sym rows sorted moved) c, λ x c. Contains-permutation rows sorted x moved c)

-- they are the map of the rows
pub sorted_map : (rows sorted : List SheetRow) → IsPermutation rows sorted → IsMap sorted → sorted ≡ map_of rows
sorted_map rows sorted moved is =
    let of = map_of_is_map rows in
    map_is_one sorted (map_of rows) is of.is_map (λ p. sorted_greatest p rows sorted moved ∙ sym (of.greatest p))

-- ---- rows by their numbers
pub length-placed_entries : (names : List (List ℕ)) (entries : List SheetEntry) → length names ≡ length entries → length (placed_entries names entries) ≡ length entries
length-placed_entries [] entries l = l
length-placed_entries (x ∷ names) [] l = absurd (omega arith)
length-placed_entries (x ∷ names) (y ∷ entries) l = ap suc (length-placed_entries names entries (omega arith))

pub row_there : (names : List (List ℕ)) (entries : List SheetEntry) (i : ℕ) (name : List ℕ) (e : SheetEntry) → length names ≡ length entries → i < length entries → slice_get names i ≡ Some name → e ≡ get_or entries i e → row_at (placed_entries names entries) i ≡ (place_from name, e)
row_there [] entries i name e l lt f g = absurd (cc)
row_there (x ∷ names) [] i name e l lt f g = absurd (omega arith)
row_there (x ∷ names) (y ∷ entries) zero name e l lt f g =
    let named : x ≡ name = cc in
    ap₂ (λ (n : List ℕ) (z : SheetEntry). (place_from n, z)) named (sym g)
row_there (x ∷ names) (y ∷ entries) (suc i) name e l lt f g = row_there names entries i name e (omega arith) (omega arith) f g

-- ---- one more row
pub All-from : {X : Type 0} (P : X → Type 0) (xs : List X) → AllByRecursion P xs → All P xs
All-from P [] h = λ k d lt. absurd (omega arith)
All-from {X} P (x ∷ xs) h = λ k d lt. go k d lt (All-from P xs h.1)
  where
    go : (k : ℕ) (d : X) → k < length (x ∷ xs) → All P xs → P (get_or (x ∷ xs) k d)
    go zero d lt rest = h.0
    go (suc k) d lt rest = rest k d (omega arith)

pub All-to : {X : Type 0} (P : X → Type 0) (xs : List X) → All P xs → AllByRecursion P xs
All-to P [] h = tt
All-to P (x ∷ xs) h = (h 0 x (omega arith), All-to P xs (λ k d lt. h (suc k) d (omega arith)))

-- it is no longer than it may be
length-with_entry : (row : SheetRow) (rows : List SheetRow) → length (with_entry row rows) ≡ (if is_some (greatest_on row.0 rows) then length rows else length rows + 1)
length-with_entry row [] = refl
length-with_entry row (x ∷ rows) = go (is_eq (place_cmp row.0 x.0)) (greatest_on row.0 rows) (length-with_entry row rows)
  where
    go : (b : Bool) (o : Option SheetEntry) → length (with_entry row rows) ≡ (if is_some o then length rows else length rows + 1)
        → length (if b then (x.0, greater x.1 row.1) ∷ rows else x ∷ with_entry row rows) ≡ (if is_some (greater_of (if b then Some x.1 else None) o) then suc (length rows) else suc (length rows) + 1)
    go true None again = refl
    go true (Some e) again = refl
    go false None again = omega (arith, again)
    go false (Some e) again = omega (arith, again)

few-with_entry : (row : SheetRow) (rows : List SheetRow) → (is_none (greatest_on row.0 rows) && nat_le ENTRY_LIMIT (length rows)) ≡ false → length rows ≤ ENTRY_LIMIT → length (with_entry row rows) ≤ ENTRY_LIMIT
few-with_entry row rows within few = go (greatest_on row.0 rows) within (length-with_entry row rows)
  where
    go : (o : Option SheetEntry) → (is_none o && nat_le ENTRY_LIMIT (length rows)) ≡ false → length (with_entry row rows) ≡ (if is_some o then length rows else length rows + 1) → length (with_entry row rows) ≤ ENTRY_LIMIT
    go None e same = let lt = leb-false ENTRY_LIMIT (length rows) e in omega (arith, same, lt)
    go (Some x) e same = omega (arith, same, few)

pub gathered_more : (row : SheetRow) (rows : List SheetRow) → AreGathered rows → IsSheetRow row → brings_too_many row.0 rows ≡ false → AreGathered (with_entry row rows)
gathered_more row rows h right within = record {
  apart = with_entry_apart row rows h.apart;
  few = few-with_entry row rows (ap (λ n. is_none (greatest_on row.0 rows) && nat_le ENTRY_LIMIT n) (sym (length-map_of rows h.apart)) ∙ within) h.few;
  right = All-from IsSheetRow (with_entry row rows) (with_entry_right row rows right (All-to IsSheetRow rows h.right));
}

module _ (names : List (List ℕ)) (entries : List SheetEntry) (name : List ℕ) (e d : SheetEntry) (table : IsTable names entries) (pair : IsNamePair name) (right : IsSheetRow (place_from name, e)) (within : brings_too_many (place_from name) (placed_entries names entries) ≡ false) where
  put_table : (names' : List (List ℕ)) (entries' : List SheetEntry) → length names' ≡ length entries' → AllByRecursion IsNamePair names' → placed_entries names' entries' ≡ with_entry (place_from name, e) (placed_entries names entries) → IsTable names' entries'
  put_table names' entries' l h put = record {
    matched = l;
    pairs = h;
    gathered = subst AreGathered (sym put) (gathered_more (place_from name, e) (placed_entries names entries) table.gathered right within);
  }

  pub table_new : list_any (bytes_eq name) names ≡ false → IsTable (names ++ name ∷ []) (entries ++ e ∷ [])
  table_new n =
      put_table (names ++ name ∷ []) (entries ++ e ∷ []) (length_push names name ∙ ap (λ k. k + 1) table.matched ∙ sym (length_push entries e)) (all-append IsNamePair names (name ∷ []) table.pairs (pair, tt))
      (new_place names entries name e table.matched table.pairs pair n)

  pub table_old : (i : ℕ) → position (bytes_eq name) names ≡ Some i → IsTable names (set entries i (greater (get_or entries i d) e))
  table_old i n =
      put_table names (set entries i (greater (get_or entries i d) e)) (table.matched ∙ sym (length-set entries i (greater (get_or entries i d) e))) table.pairs
      (old_place names entries name e d i table.matched table.pairs pair n)

pub no_table : IsTable [] []
unfolding IsDistinct
no_table = record { matched = refl; pairs = tt; gathered = record { apart = tt; few = omega arith; right = λ k d lt. absurd (omega arith) } }

-- a map of lines has at most as many places as there are lines
length-raised-le : (row : SheetRow) (rows : List SheetRow) → length (raised row rows) ≤ suc (length rows)
length-raised-le row [] = omega arith
length-raised-le row (x ∷ rows) = go (place_cmp row.0 x.0) refl (length-raised-le row rows)
  where
    go : (r : Ordering) → place_cmp row.0 x.0 ≡ r → length (raised row rows) ≤ suc (length rows) → length (raised row (x ∷ rows)) ≤ suc (length (x ∷ rows))
    go Less f again = let same = ap length (raised-less row x rows f) in omega (arith, same)
    go Equal f again = let same = ap length (raised-equal row x rows f) in omega (arith, same)
    go Greater f again = let same = ap length (raised-greater row x rows f) in omega (arith, same, again)

pub length-map_of-le : (rows : List SheetRow) → length (map_of rows) ≤ length rows
length-map_of-le [] = omega arith
length-map_of-le (x ∷ rows) = omega (arith, length-raised-le x (map_of rows), length-map_of-le rows)
