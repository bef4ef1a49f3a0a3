-- A sheet beside a desk: which entries have a place in it, and the grades in force under the sheet.
use Rattle.std.specs.Prelude.{◌≡◌, ◌<◌, ℕ, Bool, true, false, List, All, length, map, take, is_some, Option, None, Some, ℤ, pos, negsuc}
use Rattle.std.specs.List.{zip}
use Rattle.desk_model.specs.Book.{Book}
use Rattle.desk_model.specs.Desk.{Desk}
use Rattle.desk_model.specs.Name.{number_of}
use Rattle.desk_model.specs.Named.{book_at}
use Rattle.sheet_merge.specs.Sheet.{SheetEntry, SheetPlace, SheetRow, greatest_on}
use Rattle.sheet_merge.specs.Packed.{row_at}
use Rattle.sheet_merge.specs.declared.sheet.NotPlaced.{NotPlaced}
use Rattle.sheet_merge.specs.declared.sheet.NotPlaced.TheVariants.{UnknownTopic, UnknownDocument}

-- the number of the topic with this name, where the desk has it
abbrev pub topic_number : Desk → List ℕ → Option ℕ
topic_number desk topic = number_of (map (λ (book : Book). book.name) desk.topics) topic

-- the number of a document in the universe of a topic, where it is there
abbrev pub document_number : Desk → ℕ → List ℕ → Option ℕ
document_number desk topic document = number_of (book_at desk topic).docs document

-- whether the document is in the universe of the topic with this number
abbrev pub is_document_of : Desk → List ℕ → Option ℕ → Bool
is_document_of desk document None = false
is_document_of desk document (Some topic) = is_some (document_number desk topic document)

-- whether the topic is in the desk and the document in its universe
abbrev pub is_placed : Desk → SheetPlace → Bool
is_placed desk place = is_document_of desk place.1 (topic_number desk place.0)

-- what a place lacks: its topic is not in the desk, or that is there and the document is not in its universe
abbrev pub LacksPlace : Desk → SheetPlace → NotPlaced → Type 0
LacksPlace desk place (UnknownTopic topic) = (topic.now ≡ place.0) × (topic_number desk place.0 ≡ None)
LacksPlace desk place (UnknownDocument topic document) =
    (topic.now ≡ place.0) × (document.now ≡ place.1) × (is_some (topic_number desk place.0) ≡ true) × (is_placed desk place ≡ false)

-- what the first row lacks that has no place in a desk
pub record IsFirstLack (desk : Desk) (rows : List SheetRow) (lack : NotPlaced) : Type 0 where
  pub number : ℕ
  pub within : number < length rows
  pub earlier : All (λ row. is_placed desk row.0 ≡ true) (take number rows)
  pub lacks : LacksPlace desk (row_at rows number).0 lack

-- a grade below 0 counts as none
abbrev pub counted : Option ℤ → Option ℤ
counted None = None
counted (Some (pos n)) = Some (pos n)
counted (Some (negsuc n)) = None

-- the grade of an entry stands in the place of the file's
abbrev pub grade_over : Option ℤ → Option SheetEntry → Option ℤ
grade_over file None = file
grade_over file (Some entry) = Some entry.grade

-- the grade in force of a document, by the file's grade and the sheet
abbrev pub grade_under : List SheetRow → SheetPlace → Option ℤ → Option ℤ
grade_under rows place file = counted (grade_over file (greatest_on place rows))

-- the grades in force of a topic's documents, in their order, where a sheet stands over the judgements file
abbrev pub grades_under : Book → List SheetRow → List (Option ℤ)
grades_under book rows = map (λ pair. grade_under rows (book.name, pair.0) pair.1) (zip book.docs book.grades)
