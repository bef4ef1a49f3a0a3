-- What the files of a desk say, and then one more.
use Rattle.std.specs.Prelude.{◌≡◌, ◌⊎◌, ℕ, List, [], ◌∷◌, ◌++◌, Option, Some, None, Result, Ok, Err, IfSome}
use Rattle.desk_outside.specs.Outside.{Files}
use Rattle.desk_model.specs.Desk.{Desk}
use Rattle.topics_pool.specs.Rows.{IsDeskOf}
use Rattle.desk_files.specs.declared.stop.Stop.{Stop as KeptStop}
use Rattle.desk_files.specs.Files.{Stop}
use Rattle.desk_files.specs.Load.{Sources, Loaded, loaded, paths_of, paths_to_open, if_read, StartsWith}
use Rattle.desk_files.specs.Outcome.{StopsAt}

-- a file that is read after those of a desk: its path, and what it comes to beside the rows of the desk
pub record LastFile (Y : Type 0) : Type 1 where
  pub path : List ℕ
  pub comes : Files → Loaded → Result Y Stop → Type 0

-- the files come to the rows of a desk and to what the last file comes to; or to the first stop, of the desk or then of the last file
abbrev pub ThenComes : {Y : Type 0} → Files → Sources → LastFile Y → Result (Loaded × Y) Stop → Type 0
ThenComes files sources last (Ok found) = (loaded files sources ≡ Ok found.0) × last.comes files found.0 (Ok found.1)
ThenComes files sources last (Err why) = (loaded files sources ≡ Err why) ⊎ ((rows : Loaded) × (loaded files sources ≡ Ok rows) × last.comes files rows (Err why))

-- a desk and what follows are those of the files; a stop is one that the files come to
abbrev pub MakesThen : {Y : Type 0} → Option Files → ℕ → ℕ → Sources → LastFile Y → Result (Desk × Y) KeptStop → Type 0
MakesThen known before now sources last (Ok made) = (rows : Loaded) × IfSome known (λ files. ThenComes files sources last (Ok (rows, made.1))) × IsDeskOf rows.qrels rows.runs made.0
MakesThen known before now sources last (Err stop) = StopsAt known before now stop (λ files why. ThenComes files sources last (Err why))

-- the names that may be opened: those for the desk, and then the last file's, where the desk is read
abbrev pub ThenMayOpen : Option Files → Sources → List ℕ → List (List ℕ) → Type 0
ThenMayOpen None sources path names = StartsWith (sources.qrels ∷ paths_of sources.runs ++ path ∷ []) names
ThenMayOpen (Some files) sources path names = StartsWith (paths_to_open files sources.qrels sources.runs ++ if_read (loaded files sources) (λ rows. path ∷ [])) names
