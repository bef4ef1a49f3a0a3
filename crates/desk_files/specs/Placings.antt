-- What the files of a desk and of a sheet that is to be applied to it say.
use Rattle.std.specs.Prelude.{◌≡◌, ◌⊎◌, ℕ, true, List, All, Option, Result, Ok, Err}
use Rattle.desk_outside.specs.Outside.{Files}
use Rattle.desk_words.specs.declared.command.Placing.{Placing}
use Rattle.desk_model.specs.Desk.{Desk}
use Rattle.topics_pool.specs.Rows.{IsDeskOf}
use Rattle.sheet_merge.specs.Sheet.{SheetRow}
use Rattle.sheet_merge.specs.Placed.{is_placed, IsFirstLack}
use Rattle.sheet_merge.specs.declared.sheet.NotPlaced.{NotPlaced}
use Rattle.sheet_merge.specs.declared.sheet.NotPlaced.TheVariants as lacks
use Rattle.desk_files.specs.declared.stop.Stop.{Stop as KeptStop}
use Rattle.desk_files.specs.Files.{Stop, Refused, Refusal, UnknownTopic, UnknownDocument}
use Rattle.desk_files.specs.Load.{Sources, Loaded, sources}
use Rattle.desk_files.specs.Sheets.{sheet_in}
use Rattle.desk_files.specs.Then.{LastFile, ThenComes, MakesThen, ThenMayOpen}

-- what the desk of a placing is read from
abbrev pub placing_sources : Placing → Sources
placing_sources placing = sources placing.qrels placing.runs

-- why the sheet of this path is refused, where its first entry without a place lacks this
abbrev pub refusal_of_lack : List ℕ → NotPlaced → Refusal
refusal_of_lack path (lacks.UnknownTopic topic) = UnknownTopic path topic.now
refusal_of_lack path (lacks.UnknownDocument topic document) = UnknownDocument path topic.now document.now

-- each row has its place in the desk of some files' rows
abbrev pub HavePlaces : Loaded → List SheetRow → Type 0
HavePlaces rows sheet = (desk : Desk) × IsDeskOf rows.qrels rows.runs desk × All (λ row. is_placed desk row.0 ≡ true) sheet

-- a row has none, and the first such is told
abbrev pub HasNoPlace : List ℕ → Loaded → List SheetRow → Stop → Type 0
HasNoPlace path rows sheet why =
    (desk : Desk) × IsDeskOf rows.qrels rows.runs desk × (lack : NotPlaced) × IsFirstLack desk sheet lack × (why ≡ Refused (refusal_of_lack path lack))

-- the file of a sheet comes to its rows, and each has its place in the desk of the rows before it; or the file is missing or refused, or a row has no place
abbrev pub SheetComes : List ℕ → Files → Loaded → Result (List SheetRow) Stop → Type 0
SheetComes path files rows (Ok sheet) = (sheet_in files path ≡ Ok sheet) × HavePlaces rows sheet
SheetComes path files rows (Err why) = (sheet_in files path ≡ Err why) ⊎ ((sheet : List SheetRow) × (sheet_in files path ≡ Ok sheet) × HasNoPlace path rows sheet why)

-- the sheet of a placing
abbrev pub sheet_file : Placing → LastFile (List SheetRow)
sheet_file placing = record { path = placing.sheet; comes = SheetComes placing.sheet }

-- the files of a placing come to the rows of a desk and to a sheet whose entries have their places in it; or to the first stop, of the desk or then of the sheet
abbrev pub PlacingComes : Files → Placing → Result (Loaded × List SheetRow) Stop → Type 0
PlacingComes files placing found = ThenComes files (placing_sources placing) (sheet_file placing) found

-- a desk and a sheet are those of the files; a stop is one that the files come to
abbrev pub MakesPlacing : Option Files → ℕ → ℕ → Placing → Result (Desk × List SheetRow) KeptStop → Type 0
MakesPlacing known before now placing made = MakesThen known before now (placing_sources placing) (sheet_file placing) made

-- the names that a placing may open: those for its desk, and then the sheet's, where the desk is read
abbrev pub PlacingMayOpen : Option Files → Placing → List (List ℕ) → Type 0
PlacingMayOpen known placing names = ThenMayOpen known (placing_sources placing) placing.sheet names
