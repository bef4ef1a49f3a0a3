-- The grades in force after the changes of a session.
use Rattle.std.specs.Prelude.{◌≡◌, ℕ, ◌<◌, Bool, ◌&&◌, nat_eq, nat_lt, if◌then◌else◌, map, List, [], ◌∷◌, length, Option, None, Some, Result, Ok, Err, ℤ, pos, negsuc}
use Rattle.std.specs.List.{AllByRecursion, enumerate_from}
use Rattle.desk_model.specs.Name.{number_of}
use Rattle.desk_model.specs.Book.{Book, file_grade_of}
use Rattle.desk_model.specs.Desk.{Desk}
use Rattle.desk_model.specs.Named.{book_at}
use Rattle.judge_session.specs.Session.{without_undone, judged, CHANGE_LIMIT}
use Rattle.judge_session.specs.declared.change.Change.{Change}
use Rattle.judge_session.specs.declared.answers.Changed.{Changed}
use Rattle.judge_session.specs.declared.answers.JudgeFault.{JudgeFault}
use Rattle.judge_session.specs.declared.answers.JudgeFault.TheVariants.{UnknownTopic, UnknownDocument, HistoryFull}

-- whether it is a live change of this document
abbrev pub is_live_on : ℕ → ℕ → Change → Bool
is_live_on topic doc change = change.live && (nat_eq change.topic topic && nat_eq change.doc doc)

-- the grade of a document's last live change, else the one given
abbrev pub grade_after : Option ℤ → ℕ → ℕ → List Change → Option ℤ
grade_after grade topic doc [] = grade
grade_after grade topic doc (change ∷ changes) = grade_after (if is_live_on topic doc change then Some change.grade else grade) topic doc changes

-- a grade below 0 counts as none
abbrev pub counted_grade : Option ℤ → Option ℤ
counted_grade None = None
counted_grade (Some (pos n)) = Some (pos n)
counted_grade (Some (negsuc n)) = None

-- the grade in force of a document: that of its last live change, else the file's
abbrev pub grade_in_force : Desk → ℕ → ℕ → List Change → Option ℤ
grade_in_force desk topic doc changes = counted_grade (grade_after (file_grade_of (book_at desk topic) doc) topic doc changes)

-- the grades in force of the documents of a topic, in their order
abbrev pub grades_in_force : Desk → ℕ → List Change → List (Option ℤ)
grades_in_force desk topic changes = map (λ p. counted_grade (grade_after p.1 topic p.0 changes)) (enumerate_from 0 (book_at desk topic).grades)

-- a change is of a document of the desk
pub record IsOnDesk (desk : Desk) (change : Change) : Type 0 where
  pub topic : change.topic < length desk.topics
  pub doc : change.doc < length (book_at desk change.topic).docs

-- a session that was made by calls with this desk
abbrev pub IsSessionOf : Desk → List Change → Type 0
IsSessionOf desk changes = AllByRecursion (IsOnDesk desk) changes

-- what a call tells of a change: its document, and the grade in force after the call
abbrev pub told_of : Desk → List Change → Change → Changed
told_of desk changes change = record { topic = change.topic; doc = change.doc; grade = grade_in_force desk change.topic change.doc changes }

-- what is told is of a document of the desk
pub record IsOfDesk (desk : Desk) (told : Changed) : Type 0 where
  pub topic : told.topic < length desk.topics
  pub doc : told.doc < length (book_at desk told.topic).docs

-- the numbers of a document by its names, else the first refusal
abbrev pub document_in : ℕ → Option ℕ → Result (ℕ × ℕ) JudgeFault
document_in topic None = Err UnknownDocument
document_in topic (Some doc) = Ok (topic, doc)

abbrev pub document_of : Desk → Option ℕ → List ℕ → Result (ℕ × ℕ) JudgeFault
document_of desk None doc = Err UnknownTopic
document_of desk (Some topic) doc = document_in topic (number_of (book_at desk topic).docs doc)

abbrev pub found_document : Desk → List ℕ → List ℕ → Result (ℕ × ℕ) JudgeFault
found_document desk topic doc = document_of desk (number_of (map (λ (book : Book). book.name) desk.topics) topic) doc

-- the document that a judgement is of, else the first refusal: 1,000,000 changes would be left before the new one
abbrev pub with_room : List ℕ → List Change → Result (ℕ × ℕ) JudgeFault → Result (ℕ × ℕ) JudgeFault
with_room who changes (Err fault) = Err fault
with_room who changes (Ok place) = if nat_lt (length (without_undone who changes)) CHANGE_LIMIT then Ok place else Err HistoryFull

abbrev pub judgeable : Desk → List ℕ → List ℕ → List ℕ → List Change → Result (ℕ × ℕ) JudgeFault
judgeable desk who topic doc changes = with_room who changes (found_document desk topic doc)

-- what an accepted judgement leaves and tells
pub record Judges (desk : Desk) (who topic doc : List ℕ) (grade : ℤ) (old new : List Change) (told : Changed) : Type 0 where
  pub place : judgeable desk who topic doc old ≡ Ok (told.topic, told.doc)
  pub list : new ≡ judged who told.topic told.doc grade old
  pub in_force : told.grade ≡ grade_in_force desk told.topic told.doc new
