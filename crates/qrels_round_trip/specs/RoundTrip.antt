-- The judgements in force, printed as a judgements file and read again.
use Rattle.std.specs.Prelude.{◌≡◌, ◌⊎◌, ℕ, ◌<◌, ◌≤◌, List, [], ◌∷◌, map, flat_map, length, Option, None, Some, Result, Ok, Err, ℤ, pos, negsuc, ◌≤ℤ◌}
use Rattle.std.specs.List.{zip, AllZip, AllByRecursion}
use Rattle.desk_model.specs.Book.{Book}
use Rattle.desk_model.specs.Desk.{Desk}
use Rattle.judge_session.specs.InForce.{counted_grade}
use Rattle.desk_report.specs.Judging.{qrels_text}
use Rattle.file_rows.specs.Rows.{Row, name_bytes_of}
use Rattle.file_rows.specs.Grouped.{TopicRows, grouped, names_of}
use Rattle.qrels_reader.specs.Grouped.{qrels_of}
use Rattle.file_rows.specs.declared.fault.FileFault.{FileFault}
use Rattle.file_rows.specs.declared.fault.FileFault.TheVariants.{Line}
use Rattle.file_rows.specs.declared.fault.LineFault.TheVariants.{TooManyRows, TooManyNameBytes}
use Rattle.qrels_reader.specs.declared.limits.TheConstants.{MOST_QRELS_ROWS}
use Rattle.file_rows.specs.declared.limits.TheConstants.{MOST_NAME_BYTES}
use Rattle.run_reader.specs.Run.{Run, run_of}
use Rattle.run_reader.specs.declared.used.Used.{Used}
use Rattle.topic_universe.specs.Names.{HaveSameNames}
use Rattle.topics_pool.specs.Rows.{IsDeskOf, topic_names}

-- a grade in force is from 0 to 1,000
abbrev pub IsGradeInForce : Option ℤ → Type 0
IsGradeInForce None = Unit {0}
IsGradeInForce (Some grade) = (pos 0 ≤ℤ grade) × (grade ≤ℤ pos 1000)

-- a grade in force, or none, for each document of a topic
pub record AreGradesOf (book : Book) (grades : List (Option ℤ)) : Type 0 where
  pub count : length grades ≡ length book.docs
  pub each : AllByRecursion IsGradeInForce grades

-- the desk of a judgements file and of runs, and a grade in force, or none, for each document of each topic
pub record IsJudged (bytes : List ℕ) (qrels : List TopicRows) (runs : List Run) (desk : Desk) (grades : List (List (Option ℤ))) : Type 0 where
  pub read : qrels_of bytes ≡ Ok qrels
  pub of_rows : IsDeskOf qrels runs desk
  pub in_force : AllZip AreGradesOf desk.topics grades

-- the row of a document by its grade in the file and its grade in force; none where it is neither listed nor judged
abbrev pub rows_of_document : List ℕ → List ℕ → Option ℤ → Option ℤ → List Row
rows_of_document topic doc None None = []
rows_of_document topic doc (Some file) None = (record { topic = topic; document = doc; value = negsuc 0 }) ∷ []
rows_of_document topic doc file (Some grade) = (record { topic = topic; document = doc; value = grade }) ∷ []

abbrev pub rows_of_book : Book → List (Option ℤ) → List Row
rows_of_book book grades = flat_map (λ p. rows_of_document book.name p.0 p.1.0 p.1.1) (zip book.docs (zip book.grades grades))

-- the rows that the text of all topics is to say
abbrev pub rows_in_force : Desk → List (List (Option ℤ)) → List Row
rows_in_force desk grades = flat_map (λ p. rows_of_book p.0 p.1) (zip desk.topics grades)

-- as many rows, and as many bytes of document names, as a judgements file may have
pub record AreWithinLimits (rows : List Row) : Type 0 where
  pub count : length rows ≤ MOST_QRELS_ROWS
  pub name_bytes : name_bytes_of rows ≤ MOST_NAME_BYTES

-- a line is refused since one of the two limits is passed, and it is passed
abbrev pub IsLimitPassed : List Row → FileFault → Type 0
IsLimitPassed rows fault =
    (line : ℕ) × (((fault ≡ Line line TooManyRows) × (MOST_QRELS_ROWS < length rows)) ⊎ ((fault ≡ Line line TooManyNameBytes) × (MOST_NAME_BYTES < name_bytes_of rows)))

-- another desk has the topics, the universes and the rankings of a desk, and its judgements are the grades in force
pub record HasJudgements (desk : Desk) (grades : List (List (Option ℤ))) (again : Desk) : Type 0 where
  pub topics : topic_names again.topics ≡ topic_names desk.topics
  pub universes : map (λ (book : Book). book.docs) again.topics ≡ map (λ (book : Book). book.docs) desk.topics
  pub judgements : map (λ (book : Book). map counted_grade book.grades) again.topics ≡ grades
  pub runs : again.runs ≡ desk.runs
  pub rankings : again.rankings ≡ desk.rankings

-- what a run says: its name, and its kept rows by topic
abbrev pub said_by : Run → List ℕ × List TopicRows
said_by run = (run.name, run.topics)

-- the same run is read, or the limit on the bytes of document names is passed
abbrev pub IsSameRun : Run → Result Run FileFault → Type 0
IsSameRun run (Ok again) = said_by again ≡ said_by run
IsSameRun run (Err fault) = (line : ℕ) × (fault ≡ Line line TooManyNameBytes)

-- within the limits the text says its rows
abbrev pub TextSaysJudgements : Type 0
TextSaysJudgements =
    (bytes : List ℕ) (qrels : List TopicRows) (runs : List Run) (desk : Desk) (grades : List (List (Option ℤ))) → IsJudged bytes qrels runs desk grades →
    AreWithinLimits (rows_in_force desk grades) → qrels_of (qrels_text desk grades) ≡ Ok (grouped (rows_in_force desk grades))

-- past them it is refused, and for nothing else
abbrev pub LimitsAloneRefuse : Type 0
LimitsAloneRefuse =
    (bytes : List ℕ) (qrels : List TopicRows) (runs : List Run) (desk : Desk) (grades : List (List (Option ℤ))) (fault : FileFault) → IsJudged bytes qrels runs desk grades →
    qrels_of (qrels_text desk grades) ≡ Err fault → IsLimitPassed (rows_in_force desk grades) fault

-- what the text says has the topics of the file, and a desk of it and of the same runs has the same judgements and universes
abbrev pub JudgementsAreKept : Type 0
JudgementsAreKept =
    (bytes : List ℕ) (qrels said : List TopicRows) (runs : List Run) (desk : Desk) (grades : List (List (Option ℤ))) → IsJudged bytes qrels runs desk grades →
    qrels_of (qrels_text desk grades) ≡ Ok said →
    HaveSameNames (names_of said) (names_of qrels)
    × ((others : List Run) (again : Desk) → map said_by others ≡ map said_by runs → IsDeskOf said others again → HasJudgements desk grades again)

-- the bytes of a run, read beside a file with the same topics, where earlier files have no more rows of runs
abbrev pub RunsAreKept : Type 0
RunsAreKept =
    (given : Option (List ℕ)) (qrels said : List TopicRows) (used others : Used) (bytes : List ℕ) (run : Run) → HaveSameNames (names_of said) (names_of qrels) →
    others.rows ≤ used.rows → run_of given qrels used bytes ≡ Ok run → IsSameRun run (run_of given said others bytes)
