-- Why a sheet is refused that has no place for an entry.
use Rattle.std.specs.Prelude.{◌≡◌, ℕ, List}
use Rattle.desk_model.specs.Desk.{Desk}
use Rattle.sheet_merge.specs.Sheet.{SheetRow}
use Rattle.sheet_merge.specs.Placed.{IsFirstLack}
use Rattle.sheet_merge.specs.declared.sheet.NotPlaced.{NotPlaced}
use Rattle.desk_files.specs.declared.stop.Stop.{Stop as KeptStop}
use Rattle.desk_files.specs.declared.stop.Stop.TheVariants as kept
use Rattle.desk_files.specs.Placings.{refusal_of_lack}
use Rattle.desk_files.specs.Views.{refusal_of}

-- what the first entry lacks that has no place is told; memory may run out in its place
abbrev pub TellsLack : List ℕ → Desk → List SheetRow → KeptStop → Type 0
TellsLack path desk sheet (kept.Refused refusal) = (lack : NotPlaced) × IsFirstLack desk sheet lack × (refusal_of refusal ≡ refusal_of_lack path lack)
TellsLack path desk sheet kept.Outside = ⊥
TellsLack path desk sheet kept.Memory = Unit {0}
