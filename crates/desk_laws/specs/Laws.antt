-- What follows for every call that ends as its words mean.
use Rattle.std.specs.Prelude.{◌≡◌, ◌⊎◌, ℕ, List, Some, Ok, Err}
use Rattle.std.specs.List.{Contains}
use Rattle.desk_outside.specs.Outside.{Files, Rose}
use Rattle.desk_outside.specs.Seen.{Source, ReceivedNothing}
use Rattle.desk_words.specs.Words.{IsCommandOf}
use Rattle.desk_words.specs.declared.command.Command.{Command}
use Rattle.desk_files.specs.Files.{Stop, Outside, Refused, Refusal}
use Rattle.desk_top.specs.declared.status.Status.{Status}
use Rattle.desk_top.specs.declared.status.Status.TheVariants as statuses
use Rattle.desk_top.specs.Told.{WritesLine, refusal_line}
use Rattle.desk_top.specs.Loading.{OpensFiles}
use Rattle.desk_top.specs.Meaning.{Meaning, meaning_of}
use Rattle.desk_top.specs.Meets.{Call, IsCallOf}

-- the files of a command are held and not refused
abbrev pub AreGood : Command → Files → Type 0
AreGood command files = (found : (meaning_of command).loading.Found) × (meaning_of command).loading.comes (Some files) (Ok found)

-- the files of a command come to this stop
abbrev pub StopAt : Command → Files → Stop → Type 0
StopAt command files why = (meaning_of command).loading.comes (Some files) (Err why)

-- a status with which a command ends on what its files come to: one that it has, or that the input failed, where it reads it
abbrev pub IsStatusOf : Meaning → Source → Status → Type 0
IsStatusOf meaning input status = Contains meaning.ends status ⊎ ((status ≡ statuses.Outside) × meaning.reads × Rose input.before input.after)

-- a call of a command over these known files
pub record IsCallOver (words : List (List ℕ)) (command : Command) (files : Files) (call : Call) (status : Status) : Type 0 where
  pub asks : IsCommandOf words command
  pub known : call.files.files ≡ Some files
  pub ends : IsCallOf words call status

-- words of no command: the status says so, or that memory ran out, and no file was opened or read
abbrev pub OtherWordsAreUsage : Type 0
OtherWordsAreUsage = (words : List (List ℕ)) (call : Call) (status : Status) → IsCallOf words call status →
    ((command : Command) → IsCommandOf words command → ⊥) → ((status ≡ statuses.Usage) ⊎ (status ≡ statuses.Memory)) × (call.files.has ≡ call.files.had)

-- files that are all held and not refused: where neither the shelf nor the output failed, the command ended on them, or memory ran out
abbrev pub GoodFilesAreAnswered : Type 0
GoodFilesAreAnswered = (words : List (List ℕ)) (command : Command) (files : Files) (call : Call) (status : Status) → IsCallOver words command files call status →
    AreGood command files → (Rose call.files.before call.files.after → ⊥) → (Rose call.out.before call.out.after → ⊥) → IsStatusOf (meaning_of command) call.input status ⊎ (status ≡ statuses.Memory)

-- a path that is not held, and nothing refused before it
abbrev pub MissingFileIsOutside : Type 0
MissingFileIsOutside = (words : List (List ℕ)) (command : Command) (files : Files) (call : Call) (status : Status) → IsCallOver words command files call status →
    StopAt command files Outside → (status ≡ statuses.Outside) ⊎ (status ≡ statuses.Memory)

-- files that are refused: where the shelf did not fail, the line of the refusal is told, or memory ran out; the output received nothing
abbrev pub RefusalIsTold : Type 0
RefusalIsTold = (words : List (List ℕ)) (command : Command) (files : Files) (call : Call) (status : Status) → IsCallOver words command files call status →
    (refusal : Refusal) → StopAt command files (Refused refusal) → (Rose call.files.before call.files.after → ⊥) →
    (((status ≡ statuses.Refused) × WritesLine call.err (refusal_line refusal)) ⊎ (status ≡ statuses.Memory)) × ReceivedNothing call.out

-- a command never ends with a status but those that it has, that of refused files where it opens some, and those of the outside and of memory
abbrev pub StatusesAreFew : Type 0
StatusesAreFew = (words : List (List ℕ)) (command : Command) (call : Call) (status : Status) → IsCallOf words call status →
    IsCommandOf words command →
    IsStatusOf (meaning_of command) call.input status ⊎ (OpensFiles (meaning_of command).loading call.files.files × (status ≡ statuses.Refused)) ⊎ (status ≡ statuses.Outside) ⊎ (status ≡ statuses.Memory)
