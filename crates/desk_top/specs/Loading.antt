-- What commands read of their files.
use Rattle.std.specs.Prelude.{◌≡◌, ◌⊎◌, ◌<◌, List, [], ◌∷◌, length, ℕ, Option, Some, None, Result, Ok, Err}
use Rattle.desk_outside.specs.Calls.{opened_in}
use Rattle.desk_outside.specs.Outside.{Files}
use Rattle.desk_outside.specs.Seen.{Shelf}
use Rattle.desk_words.specs.declared.command.Check.{Check}
use Rattle.desk_words.specs.declared.command.Job.{Job}
use Rattle.desk_words.specs.declared.command.Placing.{Placing}
use Rattle.order_bundle.specs.declared.scoped.Scoped.{Scoped}
use Rattle.desk_files.specs.Files.{Stop, Outside, Memory}
use Rattle.desk_files.specs.Load.{Sources, Loaded, loaded, DeskMayOpen, Opens}
use Rattle.desk_files.specs.Checks.{CheckComes, CheckMayOpen}
use Rattle.desk_files.specs.Placings.{PlacingComes, PlacingMayOpen}
use Rattle.desk_files.specs.Sheets.{merge_of, SheetsMayOpen}
use Rattle.sheet_merge.specs.Sheet.{SheetRow}
use Rattle.desk_top.specs.Report.{sources_of, graded_sources}

-- what files come to, and how
pub record Loading : Type 1 where
  -- what they come to where none is missing or refused
  pub Found : Type 0
  -- they come to that or to a stop, where these are the files, if they are known
  pub comes : Option Files → Result Found Stop → Type 0
  -- the names that may be opened, one after the other
  pub opens : Option Files → List (List ℕ) → Type 0

-- files that are not known may come to anything, but none of them is called missing
abbrev pub MayCome : {X : Type 0} → Option Files → (Files → Result X Stop → Type 0) → Result X Stop → Type 0
MayCome None comes (Err Outside) = ⊥
MayCome None comes (Err Memory) = ⊥
MayCome None comes found = Unit {0}
MayCome (Some files) comes found = comes files found

-- the rows of a desk
abbrev pub loading_from : Sources → Loading
loading_from from = record {
  Found = Loaded;
  comes = λ known found. MayCome known (λ files found. loaded files from ≡ found) found;
  opens = λ known names. DeskMayOpen known from names;
}

-- those of the desk of a job, and of a job by grades
abbrev pub desk_loading : Job → Loading
desk_loading job = loading_from (sources_of job)

abbrev pub graded_loading : Job → ℕ → Loading
graded_loading job greatest = loading_from (graded_sources job greatest)

-- the rows of the desk of a check, and a certificate
abbrev pub check_loading : Check → Loading
check_loading check = record {
  Found = Loaded × Scoped;
  comes = λ known found. MayCome known (λ files found. CheckComes files check found) found;
  opens = λ known names. CheckMayOpen known check names;
}

-- the merge of sheets, of one at least
abbrev pub sheets_loading : List (List ℕ) → Loading
sheets_loading paths = record {
  Found = List SheetRow;
  comes = λ known found. (0 < length paths) × MayCome known (λ files found. merge_of files [] paths ≡ found) found;
  opens = λ known names. SheetsMayOpen known paths names;
}

-- the rows of the desk of a placing, and those of its sheet
abbrev pub placing_loading : Placing → Loading
placing_loading placing = record {
  Found = Loaded × List SheetRow;
  comes = λ known found. MayCome known (λ files found. PlacingComes files placing found) found;
  opens = λ known names. PlacingMayOpen known placing names;
}

-- no file
abbrev pub no_loading : Loading
no_loading = record { Found = Unit {0}; comes = λ known found. found ≡ Ok tt; opens = λ known names. names ≡ [] }

-- a file may be opened
abbrev pub OpensFiles : Loading → Option Files → Type 0
OpensFiles loading known = (name : List ℕ) × loading.opens known (name ∷ [])

-- no file was opened, or those that may be, in their order
abbrev pub OpensWithin : Loading → Shelf → Type 0
OpensWithin loading files = (files.has ≡ files.had) ⊎ Opens (loading.opens files.files) (opened_in files.had) (opened_in files.has)
