-- The judgements file of a desk, replaced by the judgements in force as a text.
use Rattle.std.specs.Prelude.{◌≡◌, ◌⊎◌, ℕ, ◌<◌, List, [], length, map, slice_get, Option, Some, Result, Ok, Err, ℤ}
use Rattle.std.specs.List.{AllByRecursion, AllZip}
use Rattle.desk_outside.specs.Outside.{Files}
use Rattle.desk_words.specs.declared.command.RunWord.{RunWord}
use Rattle.desk_model.specs.Closing.{closed_under}
use Rattle.desk_model.specs.Desk.{Desk, file_marks}
use Rattle.desk_model.specs.Mark.{mark_of}
use Rattle.desk_model.specs.declared.types.Mark.{Mark}
use Rattle.desk_report.specs.Judging.{qrels_text}
use Rattle.file_rows.specs.Rows.{Row}
use Rattle.file_rows.specs.declared.fault.FileFault.{FileFault}
use Rattle.file_rows.specs.declared.fault.LineFault.TheVariants.{TooManyNameBytes}
use Rattle.topics_pool.specs.Rows.{IsDeskOf}
use Rattle.qrels_round_trip.specs.RoundTrip.{AreGradesOf, HasJudgements, IsLimitPassed, rows_in_force}
use Rattle.session_replies.specs.Replies.{all_in_force}
use Rattle.session_stream.specs.Text.{changes_over}
use Rattle.desk_files.specs.Files.{Stop, Refused, FileTooLong, Line, stop_at}
use Rattle.desk_files.specs.Load.{Sources, Loaded, loaded}
use Rattle.desk_files.specs.declared.limits.TheConstants.{LONGEST_FILE}

-- files that hold a text at a path, and at the paths of runs what other files hold there
pub record AreFilesWith (files again : Files) (path text : List ℕ) (runs : List RunWord) : Type 0 where
  pub judgements : again path ≡ Some text
  pub others : AllByRecursion (λ (word : RunWord). again word.path ≡ files word.path) runs

-- the rows of files, the desk of them, and a grade in force, or none, for each document of each topic
pub record IsJudgedDesk (files : Files) (from : Sources) (rows : Loaded) (desk : Desk) (grades : List (List (Option ℤ))) : Type 0 where
  pub loads : loaded files from ≡ Ok rows
  pub of_rows : IsDeskOf rows.qrels rows.runs desk
  pub in_force : AllZip AreGradesOf desk.topics grades

-- so are the grades in force of a session over that desk, after its first lines
abbrev pub GradesAreInForce : Type 0
GradesAreInForce =
    (files : Files) (from : Sources) (rows : Loaded) (desk : Desk) (lines : List (List ℕ)) → loaded files from ≡ Ok rows → IsDeskOf rows.qrels rows.runs desk →
    AllZip AreGradesOf desk.topics (all_in_force desk (changes_over desk lines []))

-- the marks of documents by their grades
abbrev pub marks_by : ℕ → List (List (Option ℤ)) → List (List Mark)
marks_by level grades = map (λ own. map (λ grade. mark_of grade level) own) grades

-- another desk has the topics, the universes, the runs and the rankings of a desk, and its judgements are the grades in force: so are its marks at each level and under each depth
pub record IsDeskAgain (desk : Desk) (grades : List (List (Option ℤ))) (again : Desk) : Type 0 where
  pub same : HasJudgements desk grades again
  pub marks : (level : ℕ) (depth : Option ℕ) → closed_under again depth (map (file_marks level) again.topics) ≡ closed_under desk depth (marks_by level grades)

-- the text is refused: it is too long for a file, or has too many rows or bytes of document names
abbrev pub IsTextRefused : List ℕ → List ℕ → List Row → Stop → Type 0
IsTextRefused path text rows why =
    ((why ≡ Refused (FileTooLong path)) × (LONGEST_FILE < length text)) ⊎ ((fault : FileFault) × (why ≡ stop_at path fault) × IsLimitPassed rows fault)

-- a run is refused: with the names of the text and of the runs before it there are too many bytes of document names
abbrev pub IsRunRefused : List RunWord → Stop → Type 0
IsRunRefused words why = (word : RunWord) × (number : ℕ) × (line : ℕ) × (slice_get words number ≡ Some word) × (why ≡ Refused (Line word.path line TooManyNameBytes))

-- what the files with the text come to: rows whose desk is that desk again, or the refusal of a limit
abbrev pub ComesAgain : Sources → List ℕ → Desk → List (List (Option ℤ)) → Result Loaded Stop → Type 0
ComesAgain from text desk grades (Ok rows) = (again : Desk) → IsDeskOf rows.qrels rows.runs again → IsDeskAgain desk grades again
ComesAgain from text desk grades (Err why) = IsTextRefused from.qrels text (rows_in_force desk grades) why ⊎ IsRunRefused from.runs why

-- the files of a desk with the judgements in force as their judgements file
abbrev pub FilesComeAgain : Type 0
FilesComeAgain =
    (files again : Files) (from : Sources) (path : List ℕ) (rows : Loaded) (desk : Desk) (grades : List (List (Option ℤ))) →
    IsJudgedDesk files from rows desk grades → AreFilesWith files again path (qrels_text desk grades) from.runs →
    ComesAgain (record from { qrels = path }) (qrels_text desk grades) desk grades (loaded again (record from { qrels = path }))
