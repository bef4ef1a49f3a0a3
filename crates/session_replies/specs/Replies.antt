-- What a session replies to its lines.
use Rattle.std.specs.Prelude.{◌≡◌, ◌⊎◌, ℕ, nat_eq, List, [], ◌++◌, length, map, slice_index_or, MatchBool, Option, None, Some, Result, Ok, Err, codes, ℤ}
use Rattle.std.specs.List.{range_with_len}
use Rattle.desk_model.specs.Book.{Book}
use Rattle.desk_model.specs.Closing.{closed_under}
use Rattle.desk_model.specs.Desk.{Desk}
use Rattle.desk_model.specs.Mark.{mark_of}
use Rattle.desk_model.specs.Name.{number_of}
use Rattle.desk_model.specs.declared.types.Mark.{Mark}
use Rattle.desk_model.specs.declared.types.MeasureName.{MeasureName}
use Rattle.desk_model.specs.Pool.{pool_of, IsCountOf}
use Rattle.desk_model.specs.declared.pool.PoolCount.{PoolCount}
use Rattle.judge_session.specs.Session.{judged, undone, redone, last_that, first_that, is_live_by, is_undone_by}
use Rattle.judge_session.specs.InForce.{judgeable, grade_in_force, grades_in_force}
use Rattle.desk_model.specs.Named.{book_at}
use Rattle.judge_session.specs.declared.change.Change.{Change}
use Rattle.judge_session.specs.declared.answers.JudgeFault.{JudgeFault}
use Rattle.judge_session.specs.declared.answers.JudgeFault.TheVariants.{UnknownTopic, UnknownDocument, HistoryFull, Memory}
use Rattle.desk_report.specs.Table.{ended}
use Rattle.desk_report.specs.Judging.{changed_line, pool_line, qrels_text}
use Rattle.desk_report.specs.Reports.{Subject, subject, IsTableText, IsPairText, IsCertificateText, IsCloseText, IsNextText}
use Rattle.judge_session.specs.Request.{Judge, Undo, Redo, Table, Pair, Certify, Pool, Next, Qrels, Quit, Heard, Blank, TooLong, Bad, Asked}

-- what a session is over: a measure, a level, a depth or none, and a desk
pub record Setting : Type 0 where
  pub measure : MeasureName
  pub level : ℕ
  pub depth : Option ℕ
  pub desk : Desk

-- the grades in force of all topics
abbrev pub all_in_force : Desk → List Change → List (List (Option ℤ))
all_in_force desk changes = map (λ topic. grades_in_force desk topic changes) (range_with_len 0 (length desk.topics))

-- the marks of the documents by their grades in force
abbrev pub graded_marks : Setting → List Change → List (List Mark)
graded_marks s changes = map (λ grades. map (λ grade. mark_of grade s.level) grades) (all_in_force s.desk changes)

-- the same where the documents outside the pool are closed, that is the marks by the judgements in force
abbrev pub marks_after : Setting → List Change → List (List Mark)
marks_after s changes = closed_under s.desk s.depth (graded_marks s changes)

-- what reports speak of after changes
abbrev pub subject_after : Setting → List Change → Subject
subject_after s changes = subject s.measure s.level s.depth s.desk (marks_after s changes)

abbrev pub after_judging : List ℕ → ℤ → List Change → Result (ℕ × ℕ) JudgeFault → List Change
after_judging who grade changes (Err fault) = changes
after_judging who grade changes (Ok place) = judged who place.0 place.1 grade changes

-- the changes after a line; one that is refused leaves them
abbrev pub changes_after : Desk → Heard → List Change → List Change
changes_after desk (Asked (Judge who topic doc grade)) changes = after_judging who grade changes (judgeable desk who topic doc changes)
changes_after desk (Asked (Undo who)) changes = undone who changes
changes_after desk (Asked (Redo who)) changes = redone who changes
changes_after desk heard changes = changes

abbrev pub one_if_ok : {A E : Type 0} → Result A E → ℕ
one_if_ok (Ok value) = 1
one_if_ok (Err fault) = 0

abbrev pub one_if_some : {A : Type 0} → Option A → ℕ
one_if_some (Some value) = 1
one_if_some None = 0

-- 1 where a line is a change that is accepted, else 0
abbrev pub accepted : Desk → Heard → List Change → ℕ
accepted desk (Asked (Judge who topic doc grade)) changes = one_if_ok (judgeable desk who topic doc changes)
accepted desk (Asked (Undo who)) changes = one_if_some (last_that (is_live_by who) changes)
accepted desk (Asked (Redo who)) changes = one_if_some (first_that (is_undone_by who) changes)
accepted desk heard changes = 0

-- `no REASON`
abbrev pub refusal : List ℕ → List ℕ
refusal reason = ended (codes "no " ++ reason)

abbrev pub fault_word : JudgeFault → List ℕ
fault_word UnknownTopic = codes "UnknownTopic"
fault_word UnknownDocument = codes "UnknownDocument"
fault_word HistoryFull = codes "HistoryFull"
fault_word Memory = []

-- the line of a change: the word, the names of its document, and the grade in force after it
abbrev pub change_reply : Desk → List ℕ → ℕ → ℕ → List Change → List ℕ
change_reply desk word topic doc now = ended (changed_line word (book_at desk topic).name (slice_index_or (book_at desk topic).docs doc []) (grade_in_force desk topic doc now))

abbrev pub judge_reply : Desk → List Change → Result (ℕ × ℕ) JudgeFault → List ℕ
judge_reply desk now (Err fault) = refusal (fault_word fault)
judge_reply desk now (Ok place) = change_reply desk (codes "judged") place.0 place.1 now

abbrev pub undo_reply : Desk → List Change → Option Change → List ℕ
undo_reply desk now None = refusal (codes "NothingToUndo")
undo_reply desk now (Some change) = change_reply desk (codes "undone") change.topic change.doc now

abbrev pub redo_reply : Desk → List Change → Option Change → List ℕ
redo_reply desk now None = refusal (codes "NothingToRedo")
redo_reply desk now (Some change) = change_reply desk (codes "redone") change.topic change.doc now

abbrev pub OnNumbers : Option ℕ → Option ℕ → (ℕ → ℕ → List ℕ → Type 0) → List ℕ → Type 0
OnNumbers (Some a) (Some b) Fact text = MatchBool (nat_eq a b) (text ≡ refusal (codes "SameRun")) (Fact a b text)
OnNumbers a b Fact text = text ≡ refusal (codes "UnknownRun")

-- a reply on two different runs by their names, else the first refusal
abbrev pub OnRuns : Desk → List ℕ → List ℕ → (ℕ → ℕ → List ℕ → Type 0) → List ℕ → Type 0
OnRuns desk first second Fact text = OnNumbers (number_of desk.runs first) (number_of desk.runs second) Fact text

-- the certificate of two runs, or their close line
abbrev pub IsCertified : Subject → ℕ → ℕ → List ℕ → Type 0
IsCertified s a b text = IsCertificateText s a b text ⊎ IsCloseText s a b text

-- the counts of a topic's pool, else the refusal
abbrev pub IsPoolReply : Setting → List Change → ℕ → Option ℕ → List ℕ → Type 0
IsPoolReply s changes depth None text = text ≡ refusal (codes "UnknownTopic")
IsPoolReply s changes depth (Some topic) text =
    (count : PoolCount) × IsCountOf (pool_of s.desk topic depth) (slice_index_or (marks_after s changes) topic []) count × (text ≡ ended (pool_line count))

-- the reply to a line, by the changes before it
abbrev pub IsReply : Setting → List Change → Heard → List ℕ → Type 0
IsReply s changes Blank text = text ≡ []
IsReply s changes TooLong text = text ≡ refusal (codes "LineTooLong")
IsReply s changes Bad text = text ≡ refusal (codes "BadLine")
IsReply s changes (Asked (Judge who topic doc grade)) text =
    text ≡ judge_reply s.desk (changes_after s.desk (Asked (Judge who topic doc grade)) changes) (judgeable s.desk who topic doc changes)
IsReply s changes (Asked (Undo who)) text = text ≡ undo_reply s.desk (undone who changes) (last_that (is_live_by who) changes)
IsReply s changes (Asked (Redo who)) text = text ≡ redo_reply s.desk (redone who changes) (first_that (is_undone_by who) changes)
IsReply s changes (Asked Table) text = IsTableText (subject_after s changes) text
IsReply s changes (Asked (Pair first second)) text = OnRuns s.desk first second (IsPairText (subject_after s changes)) text
IsReply s changes (Asked (Certify first second)) text = OnRuns s.desk first second (IsCertified (subject_after s changes)) text
IsReply s changes (Asked (Pool topic depth)) text = IsPoolReply s changes depth (number_of (map (λ (book : Book). book.name) s.desk.topics) topic) text
IsReply s changes (Asked Next) text = IsNextText (subject_after s changes) text
IsReply s changes (Asked Qrels) text = text ≡ qrels_text s.desk (all_in_force s.desk changes)
IsReply s changes (Asked Quit) text = text ≡ []

-- why two names are no two different runs
abbrev pub IsRunRefusal : Desk → List ℕ → List ℕ → List ℕ → Type 0
IsRunRefusal desk first second word = OnRuns desk first second (λ a b text. ⊥) (refusal word)
