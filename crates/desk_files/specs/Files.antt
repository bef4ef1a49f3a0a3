-- What files come to, where they are known.
use Rattle.std.specs.Prelude.{ℕ, nat_le, List, length, if◌then◌else◌, Option, Some, None, Result, Ok, Err}
use Rattle.desk_outside.specs.Outside.{Files}
use Rattle.file_rows.specs.declared.fault.FileFault.{FileFault}
use Rattle.file_rows.specs.declared.fault.FileFault.TheVariants as faults
use Rattle.file_rows.specs.declared.fault.LineFault.{LineFault}
use Rattle.sheet_merge.specs.declared.fault.SheetLineFault.{SheetLineFault}
use Rattle.sheet_merge.specs.declared.fault.SheetFault.{SheetFault}
use Rattle.sheet_merge.specs.declared.fault.SheetFault.TheVariants as sheet_faults
use Rattle.desk_files.specs.declared.limits.TheConstants.{LONGEST_FILE}

-- why files are refused
pub data Refusal : Type 0 where
  -- this file has more bytes than it may
  FileTooLong : (path : List ℕ) → Refusal
  -- this line of this file, from 1, has a fault
  Line : (path : List ℕ) → (line : ℕ) → (fault : LineFault) → Refusal
  -- this file has no topic
  NoTopics : (path : List ℕ) → Refusal
  -- this file has no name for its run
  NoTag : (path : List ℕ) → Refusal
  -- this line of this file, from 1, is none of a certificate at its place
  BadLine : (path : List ℕ) → (line : ℕ) → Refusal
  -- a run has this name, and an earlier one too
  SameName : (name : List ℕ) → Refusal
  -- pairs times topics times tables are this many, and too many
  TooManyCells : (cells : ℕ) → Refusal
  -- this line of this sheet, from 1, has a fault
  SheetLine : (path : List ℕ) → (line : ℕ) → (fault : SheetLineFault) → Refusal
  -- this sheet and those before it have entries of too many documents together
  TooManyEntries : (path : List ℕ) → Refusal
  -- an entry of this sheet is of this topic, which is not in the desk, and each entry before it has its place
  UnknownTopic : (path : List ℕ) → (topic : List ℕ) → Refusal
  -- an entry of this sheet is of this topic, which is in the desk, and of this document, which is not in the topic's universe; each entry before it has its place
  UnknownDocument : (path : List ℕ) → (topic : List ℕ) → (document : List ℕ) → Refusal

-- why nothing is printed
pub data Stop : Type 0 where
  -- no file has the path, and nothing before it is refused
  Outside : Stop
  -- memory ran out, which known bytes never come to
  Memory : Stop
  -- the first refusal
  Refused : (refusal : Refusal) → Stop

infixl 10 ◌>>=◌
abbrev pub ◌>>=◌ : {A B : Type 0} → Result A Stop → (A → Result B Stop) → Result B Stop
(Ok x) >>= f = f x
(Err why) >>= f = Err why

-- the bytes of a file, if it is there and not too long
abbrev pub whole_file : List ℕ → Option (List ℕ) → Result (List ℕ) Stop
whole_file path None = Err Outside
whole_file path (Some bytes) = if nat_le (length bytes) LONGEST_FILE then Ok bytes else Err (Refused (FileTooLong path))

-- why a command stops at a file of this path that has this fault
abbrev pub stop_at : List ℕ → FileFault → Stop
stop_at path (faults.Line line fault) = Refused (Line path line fault)
stop_at path faults.NoTopics = Refused (NoTopics path)
stop_at path faults.NoTag = Refused (NoTag path)
stop_at path faults.Memory = Memory

abbrev pub sheet_stop_at : List ℕ → SheetFault → Stop
sheet_stop_at path (sheet_faults.Line line fault) = Refused (SheetLine path line fault)
sheet_stop_at path sheet_faults.Memory = Memory

-- what was read, or why a command stops at its fault
abbrev pub or_stop : {X F : Type 0} → (F → Stop) → Result X F → Result X Stop
or_stop stop (Ok x) = Ok x
or_stop stop (Err fault) = Err (stop fault)

abbrev pub or_faulty : {X : Type 0} → List ℕ → Result X FileFault → Result X Stop
or_faulty path read = or_stop (stop_at path) read

-- what a file says to a reader whose faults stop a command so
abbrev pub file_by : {X F : Type 0} → (List ℕ → F → Stop) → (List ℕ → Result X F) → Files → List ℕ → Result X Stop
file_by stop read files path = whole_file path (files path) >>= (λ bytes. or_stop (stop path) (read bytes))

abbrev pub file_as : {X : Type 0} → (List ℕ → Result X FileFault) → Files → List ℕ → Result X Stop
file_as read files path = file_by stop_at read files path
