-- What functions below the top call answer.
use Rattle.std.specs.Prelude.{◌≡◌, ◌⊎◌, ℕ, ◌+◌, ◌<◌, ◌≤◌, List, [], length, Option, Result, Ok, Err}
use Rattle.desk_outside.specs.Outside.{Files, Rose}
use Rattle.desk_outside.specs.Inputs.{Input}
use Rattle.desk_outside.specs.Seen.{Shelf, Sink, ReceivedAll, ReceivedPrefix}
use Rattle.desk_files.specs.declared.stop.Stop.{Stop as KeptStop}
use Rattle.desk_files.specs.declared.stop.Stop.TheVariants as kept
use Rattle.desk_files.specs.Files.{Outside, Refused}
use Rattle.desk_files.specs.Views.{refusal_of}
use Rattle.session_replies.specs.Replies.{Setting}
use Rattle.session_replies.specs.State.{IsSetting}
use Rattle.desk_top.specs.declared.outcome.Outcome.{Outcome as Made}
use Rattle.desk_top.specs.declared.outcome.Outcome.TheVariants as made
use Rattle.desk_top.specs.declared.status.Status.{Status}
use Rattle.desk_top.specs.declared.status.Status.TheVariants as statuses
use Rattle.desk_top.specs.Status.{status_line, GoesWithText}
use Rattle.desk_top.specs.Told.{WritesLine}
use Rattle.desk_top.specs.Answer.{Saying, Answer, text_of, said_with, told_with}
use Rattle.desk_top.specs.Conversation.{IsSession, session_cells}
use Rattle.desk_top.specs.Loading.{Loading, OpensFiles}
use Rattle.desk_top.specs.Meaning.{Meaning}

-- the cells that were evaluated are within those of what the files came to
abbrev pub CountsFor : (meaning : Meaning) → ℕ → ℕ → meaning.loading.Found → Type 0
CountsFor meaning before after found = (most : ℕ) × ((taken : Input) → meaning.cells found taken most) × (after ≤ before + most)

-- a text that was made is of texts with which a command answers, and its status goes with a text
pub record MakesText (meaning : Meaning) (found : meaning.loading.Found) (text : List ℕ) (status : Status) : Type 0 where
  pub said : List Saying
  pub is : text ≡ text_of said
  pub goes : GoesWithText status
  pub answers : (input : Input) → meaning.answers found input (said_with status said)

-- a command answers as a session, with its cells
pub record HoldsSession (meaning : Meaning) (found : meaning.loading.Found) (s : Setting) : Type 0 where
  pub setting : IsSetting s
  pub reads : meaning.reads
  pub answers : (input : Input) (answer : Answer) → IsSession s input answer → meaning.answers found input answer
  pub cells : (taken : Input) → meaning.cells found taken (session_cells s.desk taken)

-- what was made is what the command makes of what its files came to
abbrev pub MakesOutcome : (meaning : Meaning) → ℕ → ℕ → meaning.loading.Found → Made → Type 0
MakesOutcome meaning before after found (made.Prints text status) = MakesText meaning found text.items status × CountsFor meaning before after found
MakesOutcome meaning before after found (made.Refuses line) = ((input : Input) → meaning.answers found input (told_with statuses.Refused line.items)) × CountsFor meaning before after found
MakesOutcome meaning before after found (made.Holds desk measure grading) = HoldsSession meaning found (record { measure = measure; level = grading.level; depth = grading.depth; desk = desk }) × (after ≡ before)

-- why files did not come to anything: to that refusal they come; the shelf failed, or one is missing; memory may run out at any time
abbrev pub StopsLoading : Loading → Shelf → KeptStop → Type 0
StopsLoading loading shelf (kept.Refused refusal) = loading.comes shelf.files (Err (Refused (refusal_of refusal)))
StopsLoading loading shelf kept.Outside = (OpensFiles loading shelf.files × Rose shelf.before shelf.after) ⊎ loading.comes shelf.files (Err Outside)
StopsLoading loading shelf kept.Memory = Unit {0}

-- the cells that were evaluated before a command stopped: none, unless memory ran out after its files were read
abbrev pub CountsStop : Meaning → Option Files → ℕ → ℕ → KeptStop → Type 0
CountsStop meaning known before after stop =
    (after ≡ before) ⊎ ((stop ≡ kept.Memory) × (found : meaning.loading.Found) × meaning.loading.comes known (Ok found) × CountsFor meaning before after found)

-- what a command makes of its files
abbrev pub Works : Meaning → Shelf → ℕ → ℕ → Result Made KeptStop → Type 0
Works meaning shelf before after (Ok outcome) = (found : meaning.loading.Found) × meaning.loading.comes shelf.files (Ok found) × MakesOutcome meaning before after found outcome
Works meaning shelf before after (Err stop) = StopsLoading meaning.loading shelf stop × CountsStop meaning shelf.files before after stop

-- a text was put on the output, with its status, and no line told; or the output failed at it, and that was told
abbrev pub PutsText : Sink → Sink → List ℕ → Status → Status → Type 0
PutsText out err text status ended =
    ((ended ≡ status) × ReceivedAll out text × WritesLine err [])
    ⊎ ((ended ≡ statuses.Outside) × Rose out.before out.after × (0 < length text) × ReceivedPrefix out text × WritesLine err (status_line statuses.Outside))
