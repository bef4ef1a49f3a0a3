-- What follows of replies and of marks.
use Rattle.std.specs.Prelude.{◌≡◌, ℕ, ◌<◌, List, [], length, Some, slice_set, slice_index_or, ℤ}
use Rattle.desk_model.specs.Closing.{is_within}
use Rattle.desk_model.specs.Desk.{IsDesk}
use Rattle.desk_model.specs.Graded.{mark_within}
use Rattle.desk_model.specs.declared.types.Mark.{Mark}
use Rattle.judge_session.specs.Session.{judged, undone, redone, last_that, first_that, is_live_by, is_undone_by}
use Rattle.judge_session.specs.InForce.{IsOnDesk, grade_in_force}
use Rattle.desk_model.specs.Named.{book_at}
use Rattle.judge_session.specs.declared.change.Change.{Change}
use Rattle.judge_session.specs.Request.{Heard}
use Rattle.session_replies.specs.Replies.{Setting, marks_after, IsReply}

-- marks, with that of one document by the judgements in force after changes: by its grade, and without one by whether it is in the pool
abbrev pub remarked : Setting → ℕ → ℕ → List Change → List (List Mark) → List (List Mark)
remarked s topic doc now marks = slice_set marks topic (slice_set (slice_index_or marks topic []) doc (mark_within (grade_in_force s.desk topic doc now) s.level (is_within s.desk s.depth topic doc)))

-- a line has one reply, by the changes before it
abbrev pub RepliesAreOne : Type 0
RepliesAreOne = (s : Setting) (changes : List Change) (heard : Heard) (text other : List ℕ) → IsReply s changes heard text → IsReply s changes heard other → text ≡ other

-- a judgement sets the mark of its document, and no other
abbrev pub JudgedSetsOneMark : Type 0
JudgedSetsOneMark =
    (s : Setting) (who : List ℕ) (topic doc : ℕ) (grade : ℤ) (changes : List Change) → IsDesk s.desk → topic < length s.desk.topics → doc < length (book_at s.desk topic).docs →
    marks_after s (judged who topic doc grade changes) ≡ remarked s topic doc (judged who topic doc grade changes) (marks_after s changes)

-- an undo sets the mark of the document of the change that it marks, and no other
abbrev pub UndoneSetsOneMark : Type 0
UndoneSetsOneMark =
    (s : Setting) (who : List ℕ) (changes : List Change) (change : Change) → IsDesk s.desk → IsOnDesk s.desk change → last_that (is_live_by who) changes ≡ Some change →
    marks_after s (undone who changes) ≡ remarked s change.topic change.doc (undone who changes) (marks_after s changes)

-- so does a redo
abbrev pub RedoneSetsOneMark : Type 0
RedoneSetsOneMark =
    (s : Setting) (who : List ℕ) (changes : List Change) (change : Change) → IsDesk s.desk → IsOnDesk s.desk change → first_that (is_undone_by who) changes ≡ Some change →
    marks_after s (redone who changes) ≡ remarked s change.topic change.doc (redone who changes) (marks_after s changes)
