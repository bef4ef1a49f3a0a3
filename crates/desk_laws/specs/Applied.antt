-- The judgements file of a desk, replaced by what `apply` printed.
use Rattle.std.specs.Prelude.{◌≡◌, ℕ, List, Ok}
use Rattle.desk_outside.specs.Outside.{Files}
use Rattle.desk_words.specs.declared.command.Placing.{Placing}
use Rattle.desk_model.specs.Desk.{Desk}
use Rattle.desk_report.specs.Judging.{qrels_text}
use Rattle.topics_pool.specs.Rows.{IsDeskOf}
use Rattle.sheet_merge.specs.Sheet.{SheetPlace, SheetRow}
use Rattle.sheet_merge.specs.Placed.{is_placed}
use Rattle.sheet_report.specs.Applied.{all_under}
use Rattle.desk_files.specs.Load.{Sources, Loaded, loaded}
use Rattle.desk_files.specs.Placings.{placing_sources, PlacingComes}
use Rattle.desk_top.specs.Outcome.{Outcome}
use Rattle.desk_top.specs.Sheets.{PrintsApplied}
use Rattle.desk_laws.specs.Replaced.{AreFilesWith, ComesAgain}

-- what the desk of a placing is read from where its judgements file has this path
abbrev pub sources_again : Placing → List ℕ → Sources
sources_again placing path = record (placing_sources placing) { qrels = path }

-- `apply` printed a text over files, and other files hold that text at a path, and the runs as before
pub record IsApplied (files again : Files) (placing : Placing) (path : List ℕ) (found : Loaded × List SheetRow) : Type 0 where
  pub comes : PlacingComes files placing (Ok found)
  pub outcome : Outcome
  pub printed : PrintsApplied found outcome
  pub with_text : AreFilesWith files again path printed.prints.0 placing.runs

-- these come to the same judgements as a desk under the sheet, or a limit is passed
abbrev pub AppliedFilesComeAgain : Type 0
AppliedFilesComeAgain =
    (files again : Files) (placing : Placing) (path : List ℕ) (found : Loaded × List SheetRow) → (applied : IsApplied files again placing path found) →
    ComesAgain (sources_again placing path) applied.printed.prints.0 applied.printed.desk (all_under applied.printed.desk found.1) (loaded again (sources_again placing path))

-- a sheet changes nothing of a desk's judgements: what has its place in the one desk has it in the other, the grades in force under the sheet are the same, and so is their text
pub record IsAsBefore (sheet : List SheetRow) (desk other : Desk) : Type 0 where
  pub places : (place : SheetPlace) → is_placed other place ≡ is_placed desk place
  pub grades : all_under other sheet ≡ all_under desk sheet
  pub text : qrels_text other (all_under other sheet) ≡ qrels_text desk (all_under desk sheet)

-- the same sheet applied to them changes nothing
abbrev pub ApplyingTwiceChangesNothing : Type 0
ApplyingTwiceChangesNothing =
    (files again : Files) (placing : Placing) (path : List ℕ) (found : Loaded × List SheetRow) (later : Loaded) (other : Desk) → (applied : IsApplied files again placing path found) →
    loaded again (sources_again placing path) ≡ Ok later → IsDeskOf later.qrels later.runs other → IsAsBefore found.1 applied.printed.desk other
