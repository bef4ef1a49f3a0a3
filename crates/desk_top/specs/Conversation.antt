-- What a session answers.
use Rattle.std.specs.Prelude.{◌≡◌, ℕ, ◌+◌, ◌*◌, List, [], ◌∷◌, Result, Ok, Err}
use Rattle.desk_outside.specs.Inputs.{Input}
use Rattle.desk_outside.specs.Seen.{Source, Sink}
use Rattle.desk_words.specs.declared.command.Job.{Job}
use Rattle.desk_model.specs.Desk.{Desk}
use Rattle.desk_report.specs.Reports.{cells_of}
use Rattle.judge_session.specs.declared.change.Change.{Change}
use Rattle.judge_session.specs.Request.{Heard, Asked, Next, heard_of}
use Rattle.session_replies.specs.Replies.{Setting, changes_after, subject_after}
use Rattle.session_replies.specs.State.{pairs_in}
use Rattle.session_stream.specs.Hearing.{End, Done, InputTooLong, Failed, hearing_of}
use Rattle.session_stream.specs.Text.{AreReplies, EndsSession, accepted_in, end_of}
use Rattle.session_stream.specs.declared.stream.Ended.{Ended}
use Rattle.session_stream.specs.declared.stream.Fault.{Fault}
use Rattle.session_stream.specs.declared.stream.Fault.TheVariants as faults
use Rattle.desk_top.specs.declared.status.Status.{Status}
use Rattle.desk_top.specs.declared.status.Status.TheVariants as statuses
use Rattle.desk_top.specs.Status.{status_line}
use Rattle.desk_top.specs.Answer.{About, OfRuns, OfProposal, Saying, Answer}
use Rattle.desk_top.specs.Told.{WritesLine, long_input_line}

-- what the session of a job is over
abbrev pub setting_on : Job → Desk → Setting
setting_on job desk = record { measure = job.measure; level = job.level; depth = job.depth; desk = desk }

-- what a reply to a line speaks of: the desk with the judgements in force after changes, and at `next` the document to judge next on it
abbrev pub about_reply : Setting → List Change → Heard → About
about_reply s changes (Asked Next) = OfProposal (subject_after s changes)
about_reply s changes heard = OfRuns (subject_after s changes)

-- the replies to lines, each with the judgements that were in force before its line
abbrev pub sayings : Setting → List Change → List (List ℕ) → List (List ℕ) → List Saying
sayings s changes [] texts = []
sayings s changes (line ∷ more) [] = []
sayings s changes (line ∷ more) (text ∷ texts) = record { about = about_reply s changes (heard_of line); text = text } ∷ sayings s (changes_after s.desk (heard_of line) changes) more texts

-- the status of a session by how it ends
abbrev pub status_at : End → Status
status_at Done = statuses.Done
status_at InputTooLong = statuses.Refused
status_at Failed = statuses.Outside

-- the line that it tells
abbrev pub told_at : End → List ℕ
told_at Done = []
told_at InputTooLong = long_input_line
told_at Failed = status_line statuses.Outside

-- the answer of a session over an input: the replies to the lines that are heard
pub record IsSession (s : Setting) (input : Input) (answer : Answer) : Type 0 where
  pub texts : List (List ℕ)
  pub replies : AreReplies s [] (hearing_of input).lines texts
  pub is : answer ≡ record { status = status_at (hearing_of input).end; said = sayings s [] (hearing_of input).lines texts; told = told_at (hearing_of input).end }

-- the most cells that a session evaluates after what was taken of the input: pairs times topics for the one table, and one for each pair for each change that is accepted
abbrev pub session_cells : Desk → Input → ℕ
session_cells desk taken = cells_of desk + pairs_in desk * accepted_in desk (hearing_of taken).lines []

-- the status by what a session came to
abbrev pub status_by : Result Ended Fault → Status
status_by (Ok how) = status_at (end_of how)
status_by (Err faults.Input) = statuses.Outside
status_by (Err faults.Output) = statuses.Outside
status_by (Err faults.Memory) = statuses.Memory

-- the line by what it came to
abbrev pub told_by : Result Ended Fault → List ℕ
told_by (Ok how) = told_at (end_of how)
told_by (Err fault) = status_line (status_by (Err fault))

-- a session came to something, with its status and its line
pub record AnswersSession (s : Setting) (input : Source) (out err : Sink) (status : Status) : Type 0 where
  pub ended : Result Ended Fault
  pub ends : EndsSession s input out ended
  pub is : status ≡ status_by ended
  pub line : WritesLine err (told_by ended)
