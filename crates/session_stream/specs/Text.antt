-- The text of a session: the replies to its lines, in order.
use Rattle.std.specs.Prelude.{◌≡◌, ℕ, ◌+◌, ◌*◌, ◌<◌, ◌≤◌, List, [], ◌∷◌, length, flat_map, Result, Ok, Err}
use Rattle.desk_outside.specs.Inputs.{Input, IsInput, IsPart, IsTaken}
use Rattle.desk_outside.specs.Outside.{Rose}
use Rattle.desk_outside.specs.Seen.{Source, Sink, ReceivedAll, ReceivedPrefix}
use Rattle.desk_model.specs.Desk.{Desk}
use Rattle.judge_session.specs.declared.change.Change.{Change}
use Rattle.judge_session.specs.Request.{heard_of}
use Rattle.session_replies.specs.Replies.{Setting, IsReply, changes_after, accepted}
use Rattle.session_replies.specs.State.{cells_of, pairs_in}
use Rattle.session_stream.specs.Hearing.{End, Failed, hearing_of}
use Rattle.session_stream.specs.declared.stream.Ended.{Ended}
use Rattle.session_stream.specs.declared.stream.Ended.TheVariants as ended
use Rattle.session_stream.specs.declared.stream.Fault.{Fault}
use Rattle.session_stream.specs.declared.stream.Fault.TheVariants as faults

-- the changes after lines
abbrev pub changes_over : Desk → List (List ℕ) → List Change → List Change
changes_over desk [] changes = changes
changes_over desk (line ∷ more) changes = changes_over desk more (changes_after desk (heard_of line) changes)

-- how many of the lines are changes that are accepted
abbrev pub accepted_in : Desk → List (List ℕ) → List Change → ℕ
accepted_in desk [] changes = 0
accepted_in desk (line ∷ more) changes = accepted desk (heard_of line) changes + accepted_in desk more (changes_after desk (heard_of line) changes)

-- one text for each line, by the changes before it
abbrev pub AreReplies : Setting → List Change → List (List ℕ) → List (List ℕ) → Type 0
AreReplies s changes [] [] = Unit {0}
AreReplies s changes [] (text ∷ texts) = ⊥
AreReplies s changes (line ∷ more) [] = ⊥
AreReplies s changes (line ∷ more) (text ∷ texts) = IsReply s changes (heard_of line) text × AreReplies s (changes_after s.desk (heard_of line) changes) more texts

abbrev pub joined : List (List ℕ) → List ℕ
joined texts = flat_map (λ text. text) texts

-- replies to the lines heard of an input that is so; and something holds of how it ends and of their text
pub record HasReplies (s : Setting) (is_input : Input → Type 0) (fact : End → List ℕ → Type 0) : Type 0 where
  pub input : Input
  pub met : is_input input
  pub texts : List (List ℕ)
  pub replies : AreReplies s [] (hearing_of input).lines texts
  pub holds : fact (hearing_of input).end (joined texts)

-- how the input ended
abbrev pub end_of : Ended → End
end_of ended.Done = Rattle.session_stream.specs.Hearing.Done
end_of ended.InputTooLong = Rattle.session_stream.specs.Hearing.InputTooLong

-- how a session ended: the output received exactly the replies to its lines; where the output failed, a prefix of replies to lines of the input
abbrev pub EndsSession : Setting → Source → Sink → Result Ended Fault → Type 0
EndsSession s input out (Ok how) = HasReplies s (IsInput input) (λ end text. (end ≡ end_of how) × ReceivedAll out text)
EndsSession s input out (Err faults.Input) = HasReplies s (IsInput input) (λ end text. (end ≡ Failed) × ReceivedAll out text)
EndsSession s input out (Err faults.Output) = Rose out.before out.after × HasReplies s (IsPart input) (λ end text. (0 < length text) × ReceivedPrefix out text)
EndsSession s input out (Err faults.Memory) = HasReplies s (IsPart input) (λ end text. ReceivedAll out text)

-- at most pairs times topics for the one table, and at most one for each pair for each accepted change that was taken
abbrev pub EvaluatesWithin : Setting → Source → ℕ → ℕ → Type 0
EvaluatesWithin s input before after =
    (taken : Input) × IsTaken input taken × (after ≤ before + (cells_of s.desk + pairs_in s.desk * accepted_in s.desk (hearing_of taken).lines []))
