-- How far files are read.
use Rattle.std.specs.Prelude.{◌≡◌, ◌⊎◌, ℕ, ◌+◌, ◌≤◌, List, [], ◌∷◌, ◌++◌, map, flat_map, Result, Ok, Err}
use Rattle.desk_outside.specs.Calls.{ShelfCall, Opening, Reading, GiveInAll}
use Rattle.desk_outside.specs.declared.log.ReadCall.{ReadCall}
use Rattle.desk_outside.specs.declared.log.ReadCall.TheVariants.{Gave, Failed}
use Rattle.desk_files.specs.Files.{Stop, Outside, Memory, Refused, FileTooLong}
use Rattle.desk_files.specs.declared.limits.TheConstants.{LONGEST_FILE}

-- how far a file is read
pub data Extent : Type 0 where
  -- to its end, and no further
  ToEnd : Extent
  -- to the first byte that is more than a file may have
  PastLimit : Extent
  -- to a read that failed; or it could not be opened
  ToFailure : Extent
  -- to its end or not, since memory ran out
  Somewhere : Extent

-- some reads gave bytes within the limit of a file, and one more did this
abbrev pub ThenOne : List ReadCall → ReadCall → Type 0
ThenOne reads last = (before : List ReadCall) × (total : ℕ) × (reads ≡ before ++ last ∷ []) × GiveInAll before total × (total ≤ LONGEST_FILE)

-- the reads of a file go so far
abbrev pub GoTo : Extent → List ReadCall → Type 0
GoTo ToEnd reads = ThenOne reads (Gave 0)
GoTo PastLimit reads = GiveInAll reads (LONGEST_FILE + 1)
GoTo ToFailure reads = (reads ≡ []) ⊎ ThenOne reads Failed
GoTo Somewhere reads = ThenOne reads (Gave 0) ⊎ ((total : ℕ) × GiveInAll reads total)

-- a file by its name, and its reads
pub record FileReads : Type 0 where
  pub name : List ℕ
  pub reads : List ReadCall

abbrev pub file_reads : List ℕ → List ReadCall → FileReads
file_reads name reads = record { name = name; reads = reads }

-- the calls that open a file and read it
abbrev pub calls_of : FileReads → List ShelfCall
calls_of file = Opening file.name ∷ map Reading file.reads

-- the reads of files, one after the other: each but the last is read to its end
abbrev pub GoThrough : List FileReads → Extent → Type 0
GoThrough [] ToEnd = Unit {0}
GoThrough [] Somewhere = Unit {0}
GoThrough [] extent = ⊥
GoThrough (file ∷ []) extent = GoTo extent file.reads
GoThrough (file ∷ next ∷ more) extent = GoTo ToEnd file.reads × GoThrough (next ∷ more) extent

-- the calls that were added opened this file, and read it so far
pub record ReadsFile (name : List ℕ) (extent : Extent) (had has : List ShelfCall) : Type 0 where
  pub reads : List ReadCall
  pub added : has ≡ had ++ calls_of (file_reads name reads)
  pub goes : GoTo extent reads

-- the calls that were added opened and read files one after the other, the last one so far
pub record ReadsFiles (extent : Extent) (had has : List ShelfCall) : Type 0 where
  pub files : List FileReads
  pub through : GoThrough files extent
  pub added : has ≡ had ++ flat_map calls_of files

-- how far the last file is read by why nothing is printed: to its end, unless it is too long, the outside failed or memory ran out
abbrev pub extent_at : Stop → Extent
extent_at (Refused (FileTooLong path)) = PastLimit
extent_at (Refused refusal) = ToEnd
extent_at Outside = ToFailure
extent_at Memory = Somewhere

-- how far it is read by what the files come to
abbrev pub extent_of : {X : Type 0} → Result X Stop → Extent
extent_of (Ok x) = ToEnd
extent_of (Err why) = extent_at why
