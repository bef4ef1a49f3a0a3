-- The rows of a sheet beside a desk.
use Rattle.std.proofs.Common.{◌≡◌, ℕ, ◌+◌, ◌<◌, true, false, cond, List, [], ◌∷◌, ◌++◌, length, get_or, take, map, Option, Some, None, ap, ap₂, sym, ◌∙◌, arith}
use Rattle.std.specs.Prelude.{Bool, is_some, slice_get, ℤ}
use Rattle.std.specs.List.{zip, position_from}
use Rattle.std.proofs.lemmas.List.{get_or-map, length-map, take_more}
use Rattle.std.proofs.lemmas.Option.{get_or_from_slice_get}
use Rattle.std.proofs.lemmas.Slice.Zip.{get_or-zip}
use Rattle.desk_model.proofs.Nested.{length-zip}
use Rattle.desk_model.specs.Book.{Book, IsBook, file_grade_of}
use Rattle.desk_model.specs.Desk.{Desk}
use Rattle.desk_model.specs.Name.{number_of, is_same_name}
use Rattle.desk_model.specs.Named.{book_at}
use Rattle.sheet_merge.specs.Sheet.{SheetPlace, SheetRow}
use Rattle.sheet_merge.specs.Placed.{topic_number, is_document_of, is_placed, grade_under, grades_under}

-- ---- numbers by name
found_within : {K : Type 0} (test : K → Bool) (n : ℕ) (xs : List K) (i : ℕ) → position_from test n xs ≡ Some i → i < n + length xs
found_within test n [] i h = absurd (cc)
found_within test n (x ∷ xs) i h = by (test x) h (found_within test (n + 1) xs i)
  where
    by : (b : Bool) → cond b (Some n) (position_from test (n + 1) xs) ≡ Some i → (position_from test (n + 1) xs ≡ Some i → i < n + 1 + length xs) → i < n + length (x ∷ xs)
    by true e rest = let same : n ≡ i = cc in omega (arith, same)
    by false e rest = let lt = rest e in omega (arith, lt)

pub topic_within : (desk : Desk) (name : List ℕ) (t : ℕ) → topic_number desk name ≡ Some t → t < length desk.topics
topic_within desk name t e =
    let lt = found_within (λ each. is_same_name each name) 0 (map (λ (book : Book). book.name) desk.topics) t e in
    omega (arith, lt, length-map desk.topics (λ (book : Book). book.name))

-- a place whose topic has a number
pub placed_by : (desk : Desk) (place : SheetPlace) (t : ℕ) (book : Book) (o : Option ℕ) → topic_number desk place.0 ≡ Some t → slice_get desk.topics t ≡ Some book → o ≡ number_of book.docs place.1 → is_placed desk place ≡ is_some o
placed_by desk place t book o e there is =
    let same : book_at desk t ≡ book = get_or_from_slice_get desk.topics t book (record { name = []; docs = []; grades = [] }) there in
    ap (is_document_of desk place.1) e ∙ ap (λ (b : Book). is_some (number_of b.docs place.1)) same ∙ ap is_some (sym is)

-- ---- the grades of a topic
module _ (book : Book) (rows : List SheetRow) (is : IsBook book) where
  pub length-grades_under : length (grades_under book rows) ≡ length book.docs
  length-grades_under = length-map (zip book.docs book.grades) (λ pair. grade_under rows (book.name, pair.0) pair.1) ∙ length-zip book.docs book.grades is.graded

  pub grades_more : (i : ℕ) (name doc : List ℕ) → i < length book.docs → name ≡ book.name → slice_get book.docs i ≡ Some doc → take (i + 1) (grades_under book rows) ≡ take i (grades_under book rows) ++ grade_under rows (name, doc) (file_grade_of book i) ∷ []
  grades_more i name doc lt named there =
      let long = length-grades_under in
      let zipped = length-zip book.docs book.grades is.graded in
      let nothing : List ℕ × Option ℤ = ([], None) in
      let pair : get_or (zip book.docs book.grades) i nothing ≡ (doc, file_grade_of book i) =
      get_or-zip book.docs book.grades i nothing lt (let graded = is.graded in omega (arith, lt, graded)) ∙ ap (λ (d : List ℕ). (d, file_grade_of book i)) (get_or_from_slice_get book.docs i doc [] there) in
      let here : get_or (grades_under book rows) i None ≡ grade_under rows (name, doc) (file_grade_of book i) =
      get_or-map (λ pair. grade_under rows (book.name, pair.0) pair.1) (zip book.docs book.grades) i nothing None (omega (arith, lt, zipped))
      ∙ ap₂ (λ (n : List ℕ) (p : List ℕ × Option ℤ). grade_under rows (n, p.0) p.1) (sym named) pair in
      take_more (grades_under book rows) i None (omega (arith, lt, long)) ∙ ap (λ g. take i (grades_under book rows) ++ g ∷ []) here
