-- How a call meets what its words mean.
use Rattle.std.specs.Prelude.{◌≡◌, ◌⊎◌, ℕ, ◌<◌, ◌≤◌, ◌+◌, List, ◌++◌, length, Option, Some, Result, Ok, Err}
use Rattle.desk_outside.specs.Outside.{Files, Rose}
use Rattle.desk_outside.specs.Inputs.{Input, IsInput, IsPart, IsTaken}
use Rattle.desk_outside.specs.Seen.{Shelf, Source, Sink, IsUntouched, ReceivedNothing, ReceivedAll, ReceivedPrefix}
use Rattle.desk_words.specs.Words.{IsCommandOf}
use Rattle.desk_words.specs.declared.command.Command.{Command}
use Rattle.desk_files.specs.Files.{Stop, Outside, Memory, Refused}
use Rattle.desk_files.specs.Reads.{ReadsFiles, extent_of}
use Rattle.session_stream.specs.NoMore.{ReadsNoMore}
use Rattle.desk_top.specs.declared.status.Status.{Status}
use Rattle.desk_top.specs.declared.status.Status.TheVariants as statuses
use Rattle.desk_top.specs.Status.{status_line}
use Rattle.desk_top.specs.Told.{WritesLine}
use Rattle.desk_top.specs.Answer.{Answer, text_of, stop_answer, AreTrue, AreAlwaysTrue}
use Rattle.desk_top.specs.Loading.{OpensFiles, OpensWithin}
use Rattle.desk_top.specs.Meaning.{Meaning, Means, IsAnswer}

-- what is seen of a call: the objects outside, and the cells that had been evaluated before it and those after it
pub record Call : Type 0 where
  pub files : Shelf
  pub input : Source
  pub out : Sink
  pub err : Sink
  pub had_cells : ℕ
  pub has_cells : ℕ

abbrev pub call : Shelf → Source → Sink → Sink → ℕ → ℕ → Call
call files input out err had has = record { files = files; input = input; out = out; err = err; had_cells = had; has_cells = has }

-- an answer over an input that is so, of which something holds
pub record HasAnswer (meaning : Meaning) (known : Option Files) (is_input : Input → Type 0) (fact : Answer → Type 0) : Type 0 where
  pub input : Input
  pub met : is_input input
  pub answer : Answer
  pub is : IsAnswer meaning known input answer
  pub holds : fact answer

-- an answer was given: its status, its whole text, and its line
pub record IsGiven (call : Call) (status : Status) (answer : Answer) : Type 0 where
  pub ended : status ≡ answer.status
  pub text : ReceivedAll call.out (text_of answer.said)
  pub line : WritesLine call.err answer.told

-- the call gave its answer
abbrev pub GivesAnswer : Meaning → Call → Status → Type 0
GivesAnswer meaning call status = HasAnswer meaning call.files.files (IsInput call.input) (IsGiven call status)

-- the output failed at a text, and received a prefix of it
abbrev pub OutputFailed : Meaning → Call → Type 0
OutputFailed meaning call =
    Rose call.out.before call.out.after × HasAnswer meaning call.files.files (IsPart call.input) (λ answer. (0 < length (text_of answer.said)) × ReceivedPrefix call.out (text_of answer.said))

-- the files failed: the output received nothing, and no cell was evaluated
abbrev pub FilesFailed : Meaning → Call → Type 0
FilesFailed meaning call = OpensFiles meaning.loading call.files.files × Rose call.files.before call.files.after × ReceivedNothing call.out × (call.has_cells ≡ call.had_cells)

-- the output received nothing, or what is said to a part of the input that is read
abbrev pub Stopped : Meaning → Call → Type 0
Stopped meaning call =
    ReceivedNothing call.out ⊎ (meaning.reads × HasAnswer meaning call.files.files (IsPart call.input) (λ answer. ReceivedAll call.out (text_of answer.said)))

-- no cell was evaluated, or the files came to something, and no more were than the most for that after what was taken of the input
abbrev pub CountsCells : Meaning → Call → Type 0
CountsCells meaning call =
    (call.has_cells ≡ call.had_cells)
    ⊎ ((found : meaning.loading.Found) × meaning.loading.comes call.files.files (Ok found) × (taken : Input) × IsTaken call.input taken × (most : ℕ) × meaning.cells found taken most × (call.has_cells ≤ call.had_cells + most))

-- the call gave an answer on what its files say
abbrev pub GivesOn : (meaning : Meaning) → Call → Status → meaning.loading.Found → Type 0
GivesOn meaning call status found = (input : Input) × (answer : Answer) × meaning.answers found input answer × IsGiven call status answer

-- what the files came to led to how the call ended: on what they say it gave an answer, and a refusal of theirs it told, unless the outside failed or memory ran out
abbrev pub LedTo : (meaning : Meaning) → Call → Status → Result meaning.loading.Found Stop → Type 0
LedTo meaning call status (Ok found) = meaning.loading.comes call.files.files (Ok found) × (GivesOn meaning call status found ⊎ (status ≡ statuses.Outside) ⊎ (status ≡ statuses.Memory))
LedTo meaning call status (Err (Refused refusal)) = meaning.loading.comes call.files.files (Err (Refused refusal)) × (IsGiven call status (stop_answer (Refused refusal)) ⊎ (status ≡ statuses.Memory))
LedTo meaning call status (Err Outside) = status ≡ statuses.Outside
LedTo meaning call status (Err Memory) = status ≡ statuses.Memory

-- the input was not read, unless the command reads it and its files came to something; and then no more of it than is heard
abbrev pub ReadsInput : (meaning : Meaning) → Source → Result meaning.loading.Found Stop → Type 0
ReadsInput meaning input (Ok found) = IsUntouched input ⊎ (meaning.reads × ReadsNoMore input)
ReadsInput meaning input (Err why) = IsUntouched input

-- nothing was read that is not asked for
pub record ReadsAsked (meaning : Meaning) (call : Call) (status : Status) : Type 0 where
  -- what the files came to, and how the call ended by that
  pub came : Result meaning.loading.Found Stop
  pub led : LedTo meaning call status came
  -- each file that was opened was read to its end and no further, and the last one as far as it came to that
  pub files : ReadsFiles (extent_of came) call.files.had call.files.has
  -- and so the input
  pub input : ReadsInput meaning call.input came

-- a call meets a meaning
pub record Meets (meaning : Meaning) (call : Call) (status : Status) : Type 0 where
  -- it gave its answer, unless the outside failed or memory ran out
  pub answered : GivesAnswer meaning call status ⊎ (status ≡ statuses.Outside) ⊎ (status ≡ statuses.Memory)
  -- where the status says that the outside failed, the call gave that answer, or the output failed, or the files
  pub outside : status ≡ statuses.Outside → GivesAnswer meaning call status ⊎ OutputFailed meaning call ⊎ FilesFailed meaning call
  -- where memory ran out
  pub memory : status ≡ statuses.Memory → Stopped meaning call
  -- at both the line of the status is told
  pub told : (status ≡ statuses.Outside) ⊎ (status ≡ statuses.Memory) → WritesLine call.err (status_line status)
  -- the cells are within the bound
  pub cells : CountsCells meaning call
  -- no file was opened but those that may be, in their order
  pub opened : OpensWithin meaning.loading call.files
  -- and nothing was read that is not asked for
  pub reads : ReadsAsked meaning call status

-- the output received nothing, or a prefix of an answer over the input or a prefix of it
abbrev pub ReceivesPart : Meaning → Call → Type 0
ReceivesPart meaning call = ReceivedNothing call.out ⊎ HasAnswer meaning call.files.files (IsPart call.input) (λ answer. ReceivedPrefix call.out (text_of answer.said))

-- whatever the status, each whole line that an output received is true
abbrev pub SaysTruth : Meaning → Call → Type 0
SaysTruth meaning call =
    (had sent : List ℕ) → call.out.had ≡ Some had → call.out.has ≡ Some (had ++ sent) → 0 < length sent →
    HasAnswer meaning call.files.files (IsPart call.input) (λ answer. ReceivedPrefix call.out (text_of answer.said) × AreTrue answer.said sent)

-- what the answers of a meaning say is always true
abbrev pub IsTruthful : Meaning → Type 0
IsTruthful meaning = (found : meaning.loading.Found) (input : Input) (answer : Answer) → meaning.answers found input answer → AreAlwaysTrue answer.said

-- the words are of a command, or of none, unless memory ran out before they were read
abbrev pub AreRead : List (List ℕ) → Call → Status → Type 0
AreRead words call status =
    ((command : Command) × IsCommandOf words command) ⊎ ((command : Command) → IsCommandOf words command → ⊥) ⊎ ((status ≡ statuses.Memory) × ReceivedNothing call.out)

-- a call with these words: what it does is what they mean, and what it says is true
pub record IsCallOf (words : List (List ℕ)) (call : Call) (status : Status) : Type 0 where
  pub read : AreRead words call status
  pub meets : Means words (λ meaning. Meets meaning call status)
  pub truth : Means words (λ meaning. SaysTruth meaning call)

-- the input is as it was, unless the command reads it, and its files came to something
abbrev pub LeavesInput : {S : Type 0} → Meaning → Option Files → S → S → Type 0
LeavesInput meaning known old new = (new ≡ old) ⊎ (meaning.reads × (found : meaning.loading.Found) × meaning.loading.comes known (Ok found))

-- the statuses that a call can end with, where nothing is known of the input: that of an answer, that the outside failed where something can fail, or that memory ran out
abbrev pub CanEnd : Meaning → Option Files → Status → Type 0
CanEnd meaning known status =
    HasAnswer meaning known (λ input. Unit {0}) (λ answer. status ≡ answer.status)
    ⊎ ((status ≡ statuses.Outside) × (OpensFiles meaning.loading known ⊎ HasAnswer meaning known (λ input. Unit {0}) (λ answer. 0 < length (text_of answer.said))))
    ⊎ (status ≡ statuses.Memory)
