-- The calls of a shelf and of a source, in order. What clauses alone read of them.
use Rattle.std.specs.Prelude.{◌≡◌, ℕ, ◌<◌, List, [], ◌∷◌, ◌++◌, sum_by, Result, Ok, Err}
use Rattle.std.specs.List.{AllByRecursion}
use Rattle.desk_outside.specs.declared.log.Bytes.{Bytes, Empty, Longer'}
use Rattle.desk_outside.specs.declared.log.ReadCall.{ReadCall}
use Rattle.desk_outside.specs.declared.log.ReadCall.TheVariants.{Gave, Failed}
use Rattle.desk_outside.specs.declared.log.ShelfLog.{ShelfLog, Start, Opening', Reading'}
use Rattle.desk_outside.specs.declared.log.SourceLog.{SourceLog, Start as Start-source, Reading' as Reading-source'}

-- a call of a shelf: a file of this name was to be opened, or the open file was read
pub data ShelfCall : Type 0 where
  Opening : (name : List ℕ) → ShelfCall
  Reading : (read : ReadCall) → ShelfCall

abbrev pub bytes_of : Bytes → List ℕ
bytes_of Empty = []
bytes_of (Longer' shape bytes byte) = bytes_of bytes ++ byte ∷ []

abbrev pub shelf_calls : ShelfLog → List ShelfCall
shelf_calls Start = []
shelf_calls (Opening' shape calls name) = shelf_calls calls ++ Opening (bytes_of name.value) ∷ []
shelf_calls (Reading' shape calls read) = shelf_calls calls ++ Reading read ∷ []

abbrev pub source_reads : SourceLog → List ReadCall
source_reads Start-source = []
source_reads (Reading-source' shape reads read) = source_reads reads ++ read ∷ []

-- what a read did, by its answer
abbrev pub read_of : {E : Type 0} → Result ℕ E → ReadCall
read_of (Ok count) = Gave count
read_of (Err _) = Failed

-- the names that were to be opened, in order
abbrev pub opened_in : List ShelfCall → List (List ℕ)
opened_in [] = []
opened_in (Opening name ∷ calls) = name ∷ opened_in calls
opened_in (Reading read ∷ calls) = opened_in calls

-- how many bytes a read gave
abbrev pub given_by : ReadCall → ℕ
given_by (Gave count) = count
given_by Failed = 0

-- a read gave at least one byte
abbrev pub GivesSome : ReadCall → Type 0
GivesSome (Gave count) = 0 < count
GivesSome Failed = ⊥

-- reads each of which gave some bytes, so many in all
pub record GiveInAll (reads : List ReadCall) (total : ℕ) : Type 0 where
  pub each : AllByRecursion GivesSome reads
  pub total_is : sum_by given_by reads ≡ total
