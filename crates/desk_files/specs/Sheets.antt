-- What the files of sheets say.
use Rattle.std.specs.Prelude.{◌≡◌, ℕ, nat_lt, List, [], ◌∷◌, ◌++◌, map, length, if◌then◌else◌, Option, None, Result, Ok, Err}
use Rattle.desk_outside.specs.Outside.{Files}
use Rattle.sheet_merge.specs.Sheet.{SheetRow, merged}
use Rattle.sheet_merge.specs.Lines.{sheet_of}
use Rattle.sheet_merge.specs.Merging.{MergesTo}
use Rattle.sheet_merge.specs.declared.limits.TheConstants.{ENTRY_LIMIT}
use Rattle.desk_files.specs.Files.{Stop, Refused, TooManyEntries, ◌>>=◌, sheet_stop_at, file_by}
use Rattle.desk_files.specs.Load.{Turns, to_open, MayOpen}

-- what the file of a sheet says
abbrev pub sheet_in : Files → List ℕ → Result (List SheetRow) Stop
sheet_in files path = file_by sheet_stop_at sheet_of files path

-- the rows so far and those of the sheet of this path, unless they are of too many documents
abbrev pub joined_to : List ℕ → List SheetRow → List SheetRow → Result (List SheetRow) Stop
joined_to path had rows = if nat_lt ENTRY_LIMIT (length (merged had rows)) then Err (Refused (TooManyEntries path)) else Ok (merged had rows)

-- the rows so far and those that the file of this path says
abbrev pub with_sheet_in : Files → List SheetRow → List ℕ → Result (List SheetRow) Stop
with_sheet_in files had path = sheet_in files path >>= (λ rows. joined_to path had rows)

-- the merge of the rows so far and the sheets of paths, each read and merged before the next; or the first refusal
abbrev pub merge_of : Files → List SheetRow → List (List ℕ) → Result (List SheetRow) Stop
merge_of files had [] = Ok had
merge_of files had (path ∷ paths) = with_sheet_in files had path >>= (λ rows. merge_of files rows paths)

-- the files of paths say these sheets
abbrev pub SaySheets : Files → List (List ℕ) → List (List SheetRow) → Type 0
SaySheets files paths sheets = map (λ path. sheet_in files path) paths ≡ map (λ (sheet : List SheetRow). Ok sheet) sheets

-- paths of which this one is the first whose sheet is not merged: the files up to it say sheets, and the merge of these is refused at the last
pub record IsRefusedAt (files : Files) (had : List SheetRow) (paths : List (List ℕ)) (path : List ℕ) : Type 0 where
  pub before : List (List ℕ)
  pub after : List (List ℕ)
  pub split : paths ≡ before ++ path ∷ after
  pub sheets : List (List SheetRow)
  pub said : SaySheets files (before ++ path ∷ []) sheets
  pub refused : MergesTo ENTRY_LIMIT had sheets None

-- the paths of sheets, up to the first whose file is missing or refused or whose sheet is not merged
abbrev pub sheets_in_turn : Turns (List ℕ) (List SheetRow) (List SheetRow)
sheets_in_turn = record { path = λ path. path; read = with_sheet_in; left = λ rows. rows }

abbrev pub sheets_to_open : Files → List SheetRow → List (List ℕ) → List (List ℕ)
sheets_to_open files had paths = to_open sheets_in_turn files had paths

-- the names that may be opened for a merge of sheets
abbrev pub SheetsMayOpen : Option Files → List (List ℕ) → List (List ℕ) → Type 0
SheetsMayOpen known paths names = MayOpen known (λ held. sheets_to_open held [] paths) paths names
