-- A session between two lines, and where it stops.
use Rattle.std.specs.Prelude.{◌≡◌, ℕ, ◌+◌, ◌*◌, ◌<◌, ◌≤◌, true, false, List, [], ◌∷◌, ◌++◌, length, take, Option, Result, Ok, Err}
use Rattle.std.specs.Io.KnownBytes.{append_known, prepend_known}
use Rattle.desk_outside.specs.Outside.{Rose, AppendsPrefix}
use Rattle.desk_outside.specs.Seen.{Sink, ReceivedNothing, ReceivedAll, ReceivedPrefix}
use Rattle.desk_text.specs.Lines.{whole_lines, kept_line, unended}
use Rattle.judge_session.specs.declared.change.Change.{Change}
use Rattle.judge_session.specs.Request.{heard_of}
use Rattle.desk_model.specs.Desk.{Desk}
use Rattle.pair_table.specs.Kept.{Kept}
use Rattle.session_replies.specs.State.{owed, pairs_in}
use Rattle.session_replies.specs.Replies.{Setting, IsReply, changes_after, accepted}
use Rattle.session_stream.specs.Hearing.{ends, has_quit}
use Rattle.session_stream.specs.Text.{AreReplies, changes_over, accepted_in, joined}
use Rattle.session_stream.specs.declared.stream.TheConstants.{LONGEST_INPUT}
use Rattle.session_stream.specs.declared.stream.Fault.{Fault}
use Rattle.session_stream.specs.declared.stream.Fault.TheVariants as faults
use Rattle.session_stream.specs.declared.stream.Next.{Next}
use Rattle.session_stream.specs.declared.stream.Next.TheVariants as next

-- bytes were taken, none of whose lines is `quit`; the output has exactly the replies to those that ended; and the steps, with those of a table that is owed, are within those of the first table and of one topic for each accepted change
pub record Talks (s : Setting) (had has : Option (List ℕ)) (first total : ℕ) (taken : List ℕ) (changes : List Change) : Type 0 where
  pub no_quit : has_quit (whole_lines taken) ≡ false
  pub texts : List (List ℕ)
  pub replies : AreReplies s [] (whole_lines taken) texts
  pub received : has ≡ append_known had (joined texts)
  pub changes_are : changes ≡ changes_over s.desk (whole_lines taken) []
  pub cells : total ≤ first + pairs_in s.desk * accepted_in s.desk (whole_lines taken) []

-- a reply was put, if there is one; or the output failed at it
abbrev pub IsPut : Sink → List ℕ → Result Next Fault → Type 0
IsPut out text (Ok next.More) = ReceivedAll out text
IsPut out text (Ok next.Quit) = ⊥
IsPut out text (Err faults.Output) = Rose out.before out.after × (0 < length text) × ReceivedPrefix out text
IsPut out text (Err faults.Memory) = ⊥
IsPut out text (Err faults.Input) = ⊥

-- the steps at a line, with those of a table that is owed: those of one topic where it is a change that is accepted, and none where memory ran out
abbrev pub TakesSteps : {M : Type 0} → Desk → List ℕ → List Change → Option (Kept M) → Option (Kept M) → ℕ → ℕ → Result Next Fault → Type 0
TakesSteps desk line changes table now before after (Err faults.Memory) = after ≤ before + owed desk table
TakesSteps desk line changes table now before after result = after + owed desk now ≤ (before + owed desk table) + pairs_in desk * accepted desk (heard_of line) changes

-- what a line came to: its reply was put, or it is `quit`; or its reply could not be put, or not be made
abbrev pub AnswersLine : Setting → List ℕ → List Change → List Change → Sink → Result Next Fault → Type 0
AnswersLine s line old new out (Ok next.More) = (ends line ≡ false) × (text : List ℕ) × IsReply s old (heard_of line) text × ReceivedAll out text × (new ≡ changes_after s.desk (heard_of line) old)
AnswersLine s line old new out (Ok next.Quit) = (ends line ≡ true) × ReceivedNothing out
AnswersLine s line old new out (Err faults.Output) = Rose out.before out.after × (ends line ≡ false) × (text : List ℕ) × IsReply s old (heard_of line) text × (0 < length text) × ReceivedPrefix out text
AnswersLine s line old new out (Err faults.Memory) = ReceivedNothing out
AnswersLine s line old new out (Err faults.Input) = ⊥

-- the lines of a prefix of taken bytes were answered, up to `quit`
pub record Quits (s : Setting) (had has : Option (List ℕ)) (first steps : ℕ) (taken : List ℕ) : Type 0 where
  pub begun : List ℕ
  pub rest : List ℕ
  pub is : taken ≡ begun ++ rest
  pub lines : List (List ℕ)
  pub quit : List ℕ
  pub own : whole_lines begun ≡ lines ++ quit ∷ []
  pub no_quit : has_quit lines ≡ false
  pub ended : ends quit ≡ true
  pub texts : List (List ℕ)
  pub replies : AreReplies s [] lines texts
  pub received : has ≡ append_known had (joined texts)
  pub cells : steps ≤ first + pairs_in s.desk * accepted_in s.desk lines []

-- there are replies to the lines of a prefix of taken bytes, none of them `quit`, and something holds of their text
pub record StopsIn (s : Setting) (fact : List ℕ → Type 0) (first steps : ℕ) (taken : List ℕ) : Type 0 where
  pub begun : List ℕ
  pub rest : List ℕ
  pub is : taken ≡ begun ++ rest
  pub no_quit : has_quit (whole_lines begun) ≡ false
  pub texts : List (List ℕ)
  pub replies : AreReplies s [] (whole_lines begun) texts
  pub holds : fact (joined texts)
  pub cells : steps ≤ first + pairs_in s.desk * accepted_in s.desk (whole_lines begun) []

-- the output failed at a text, and has a prefix of it
abbrev pub IsBroken : Option (List ℕ) → Option (List ℕ) → List ℕ → Type 0
IsBroken had has text = (0 < length text) × AppendsPrefix had has text

-- what the lines of taken bytes came to
abbrev pub AnswersPiece : Setting → Option (List ℕ) → Sink → ℕ → ℕ → ℕ → List ℕ → List Change → Result Next Fault → Type 0
AnswersPiece s had out first steps total taken changes (Ok next.More) = Talks s had out.has first total taken changes
AnswersPiece s had out first steps total taken changes (Ok next.Quit) = Quits s had out.has first steps taken
AnswersPiece s had out first steps total taken changes (Err faults.Output) = Rose out.before out.after × StopsIn s (IsBroken had out.has) first steps taken
AnswersPiece s had out first steps total taken changes (Err faults.Memory) = StopsIn s (λ text. out.has ≡ append_known had text) first steps taken
AnswersPiece s had out first steps total taken changes (Err faults.Input) = ⊥

-- bytes were taken of the input, and the lines within the limit were answered
pub record IsHeld (s : Setting) (old now had has : Option (List ℕ)) (first total : ℕ) (line : Option (List ℕ)) (changes : List Change) (taken : ℕ) : Type 0 where
  pub bytes : List ℕ
  pub rest : old ≡ prepend_known bytes now
  pub count : length bytes ≡ taken
  pub talks : Talks s had has first total (take LONGEST_INPUT bytes) changes
  pub line_is : line ≡ kept_line (unended (take LONGEST_INPUT bytes))
