-- The judgements in force under a sheet.
use Rattle.std.specs.Prelude.{◌≡◌, ℕ, List, map, Option, Ok, ℤ}
use Rattle.std.specs.List.{AllZip}
use Rattle.desk_model.specs.Book.{Book}
use Rattle.desk_model.specs.Desk.{Desk}
use Rattle.file_rows.specs.Grouped.{TopicRows}
use Rattle.qrels_reader.specs.Grouped.{qrels_of}
use Rattle.run_reader.specs.Run.{Run}
use Rattle.topics_pool.specs.Rows.{IsDeskOf}
use Rattle.qrels_round_trip.specs.RoundTrip.{AreGradesOf, HasJudgements}
use Rattle.sheet_merge.specs.Sheet.{SheetRow, IsSheet}
use Rattle.sheet_merge.specs.Placed.{grades_under}

-- the grades in force on each topic of a desk, in their order, where a sheet stands over the judgements file
abbrev pub all_under : Desk → List SheetRow → List (List (Option ℤ))
all_under desk rows = map (λ (book : Book). grades_under book rows) desk.topics

-- over the desk of a judgements file and of runs, these are a grade in force, or none, for each document of each topic
abbrev pub GradesUnderAreGrades : Type 0
GradesUnderAreGrades =
    (bytes : List ℕ) (qrels : List TopicRows) (runs : List Run) (desk : Desk) (rows : List SheetRow) → qrels_of bytes ≡ Ok qrels → IsDeskOf qrels runs desk → IsSheet rows →
    AllZip AreGradesOf desk.topics (all_under desk rows)

-- over a desk whose judgements are those in force under a sheet, the judgements in force under the sheet are these again
abbrev pub ApplyingAgainChangesNothing : Type 0
ApplyingAgainChangesNothing =
    (desk again : Desk) (rows : List SheetRow) → HasJudgements desk (all_under desk rows) again → all_under again rows ≡ all_under desk rows
