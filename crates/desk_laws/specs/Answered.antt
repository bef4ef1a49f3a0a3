-- What a call answers: one thing, in whole lines.
use Rattle.std.specs.Prelude.{◌≡◌, ◌⊎◌, ℕ, List, [], ◌∷◌, ◌++◌, Some}
use Rattle.desk_outside.specs.Outside.{Files, Rose}
use Rattle.desk_outside.specs.Inputs.{Input}
use Rattle.desk_outside.specs.Seen.{ReceivedAll}
use Rattle.desk_words.specs.Words.{IsCommandOf}
use Rattle.desk_words.specs.declared.command.Command.{Command}
use Rattle.desk_top.specs.declared.status.Status.{Status}
use Rattle.desk_top.specs.declared.status.Status.TheVariants.{Outside, Memory}
use Rattle.desk_top.specs.Told.{WritesLine}
use Rattle.desk_top.specs.Answer.{Answer}
use Rattle.desk_top.specs.Meaning.{IsAnswer, meaning_of}
use Rattle.desk_top.specs.Meets.{Call, IsGiven, IsCallOf}

-- a text is empty, or ends with a line feed
abbrev pub EndsLastLine : List ℕ → Type 0
EndsLastLine text = (text ≡ []) ⊎ ((line : List ℕ) × (text ≡ line ++ 10 ∷ []))

-- a call with words of a command, which neither the outside nor memory kept from its answer
pub record IsAnsweredCall (words : List (List ℕ)) (command : Command) (call : Call) (status : Status) : Type 0 where
  pub asks : IsCommandOf words command
  pub ends : IsCallOf words call status
  pub not_outside : status ≡ Outside → ⊥
  pub not_memory : status ≡ Memory → ⊥

-- the output received a text and the error output a line, neither of which stops within a line
abbrev pub TextsEndTheirLines : Type 0
TextsEndTheirLines = (words : List (List ℕ)) (command : Command) (call : Call) (status : Status) → IsAnsweredCall words command call status →
    ((text : List ℕ) × ReceivedAll call.out text × EndsLastLine text) × ((line : List ℕ) × WritesLine call.err line × EndsLastLine line)

-- over these files and this input a command has one answer
abbrev pub AnswersAreOne : Type 0
AnswersAreOne = (command : Command) (files : Files) (input : Input) (first second : Answer) → IsAnswer (meaning_of command) (Some files) input first → IsAnswer (meaning_of command) (Some files) input second → first ≡ second

-- a call over these known files, and over an input of these bytes, which did not fail
pub record IsKnownCall (words : List (List ℕ)) (command : Command) (files : Files) (bytes : List ℕ) (call : Call) (status : Status) : Type 0 where
  pub answered : IsAnsweredCall words command call status
  pub files_known : call.files.files ≡ Some files
  pub input_known : call.input.rest ≡ Some bytes
  pub calm : Rose call.input.before call.input.after → ⊥

-- two such calls give one answer: the same status, the same text and the same line
abbrev pub CallsAreOne : Type 0
CallsAreOne = (words : List (List ℕ)) (command : Command) (files : Files) (bytes : List ℕ) (first second : Call) (s t : Status) → IsKnownCall words command files bytes first s → IsKnownCall words command files bytes second t →
    (answer : Answer) × IsGiven first s answer × IsGiven second t answer
