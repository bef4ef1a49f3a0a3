-- The grades in force under a sheet are from 0 to 1,000.
use Rattle.std.proofs.Common.{◌≡◌, ℕ, List, [], ◌∷◌, Bool, true, false, map, Option, Some, None, Ok, ℤ, pos, negsuc, arith}
use Rattle.std.specs.Prelude.{All, if◌then◌else◌}
use Rattle.std.specs.List.{AllByRecursion, AllZip, zip}
use Rattle.std.specs.Ordering.{is_eq, is_lt}
use Rattle.std.proofs.lemmas.Int.{ints}
use Rattle.std.proofs.lemmas.List.Elements.{recursion_from_All}
use Rattle.desk_model.specs.Book.{Book, IsBook}
use Rattle.desk_model.specs.Desk.{Desk}
use Rattle.file_rows.specs.Grouped.{TopicRows}
use Rattle.run_reader.specs.Run.{Run}
use Rattle.topics_pool.specs.Rows.{IsBookOf}
use Rattle.qrels_round_trip.specs.RoundTrip.{IsGradeInForce, AreGradesOf}
use Rattle.sheet_merge.specs.Sheet.{SheetEntry, SheetPlace, SheetRow, IsSheetRow, IsSheet, place_cmp, entry_cmp, entry_on, greater_of, greatest_on}
use Rattle.sheet_merge.specs.Placed.{counted, grade_over, grade_under, grades_under}
use Rattle.sheet_merge.proofs.Standing.{length-grades_under}
use Rattle.sheet_report.specs.Applied.{GradesUnderAreGrades}
use Rattle.sheet_report.proofs.FileGrades.{IsSmall, IsSmallGrade, AreSmall, qrels_small, book_small}

-- ---- the entry of a place
abbrev IsSmallEntry : Option SheetEntry → Type 0
IsSmallEntry None = Unit {0}
IsSmallEntry (Some entry) = IsSmall entry.grade

greater_small : (x y : Option SheetEntry) → IsSmallEntry x → IsSmallEntry y → IsSmallEntry (greater_of x y)
greater_small None y p q = q
greater_small (Some x) None p q = p
greater_small (Some x) (Some y) p q = by (is_lt (entry_cmp x y))
  where
    by : (b : Bool) → IsSmall (if b then y else x).grade
    by true = q
    by false = p

entry_small : (place : SheetPlace) (row : SheetRow) → IsSheetRow row → IsSmallEntry (entry_on place row)
entry_small place row h = by (is_eq (place_cmp place row.0))
  where
    by : (b : Bool) → IsSmallEntry (if b then Some row.1 else None)
    by true = h.greatest
    by false = tt

greatest_small : (place : SheetPlace) (rows : List SheetRow) → AllByRecursion IsSheetRow rows → IsSmallEntry (greatest_on place rows)
greatest_small place [] h = tt
greatest_small place (row ∷ rows) h = greater_small (entry_on place row) (greatest_on place rows) (entry_small place row h.0) (greatest_small place rows h.1)

-- ---- the grade of a document
counted_small : (grade : Option ℤ) → IsSmallGrade grade → IsGradeInForce (counted grade)
counted_small None h = tt
counted_small (Some (pos n)) h = (omega (arith, ints), h)
counted_small (Some (negsuc n)) h = tt

over_small : (file : Option ℤ) (entry : Option SheetEntry) → IsSmallGrade file → IsSmallEntry entry → IsGradeInForce (counted (grade_over file entry))
over_small file None f e = counted_small file f
over_small file (Some entry) f e = counted_small (Some entry.grade) e

-- ---- the grades of topics
module _ (rows : List SheetRow) (is : IsSheet rows) where
  documents_small : (topic : List ℕ) (docs : List (List ℕ)) (file : List (Option ℤ)) → AllByRecursion IsSmallGrade file → AllByRecursion IsGradeInForce (map (λ (p : List ℕ × Option ℤ). grade_under rows (topic, p.0) p.1) (zip docs file))
  documents_small topic [] file h = tt
  documents_small topic (doc ∷ docs) [] h = tt
  documents_small topic (doc ∷ docs) (f ∷ file) h =
      (over_small f (greatest_on (topic, doc) rows) h.0 (greatest_small (topic, doc) rows (recursion_from_All IsSheetRow rows is.right)), documents_small topic docs file h.1)

  topics_small : (qrels : List TopicRows) (runs : List Run) (books : List Book) → AreSmall qrels → AllByRecursion IsBook books → AllByRecursion (IsBookOf qrels runs) books → AllZip AreGradesOf books (map (λ (book : Book). grades_under book rows) books)
  topics_small qrels runs [] are sound of = tt
  topics_small qrels runs (book ∷ books) are sound of = (
    record {
      count = length-grades_under book rows sound.0;
      each = documents_small book.name book.docs book.grades (recursion_from_All IsSmallGrade book.grades (book_small qrels runs book are of.0 sound.0.graded));
    },
    topics_small qrels runs books are sound.1 of.1,
  )

pub grades_are : GradesUnderAreGrades
grades_are bytes qrels runs desk rows read of_rows is =
    topics_small rows is qrels runs desk.topics (qrels_small bytes qrels read) (recursion_from_All IsBook desk.topics of_rows.valid.books) (recursion_from_All (IsBookOf qrels runs) desk.topics of_rows.books)
