-- What the commands on sheets print.
use Rattle.std.specs.Prelude.{◌≡◌, List}
use Rattle.desk_model.specs.Desk.{Desk}
use Rattle.topics_pool.specs.Rows.{IsDeskOf}
use Rattle.desk_report.specs.Judging.{qrels_text}
use Rattle.sheet_merge.specs.Sheet.{SheetRow, IsSheet}
use Rattle.sheet_merge.specs.Text.{sheet_text}
use Rattle.sheet_report.specs.Applied.{all_under}
use Rattle.desk_files.specs.Load.{Loaded}
use Rattle.desk_top.specs.declared.status.Status.TheVariants.{Done}
use Rattle.desk_top.specs.Answer.{OfNothing}
use Rattle.desk_top.specs.Outcome.{Outcome, PrintsText}

-- the text of the sheet that sheets were merged into
pub record PrintsMerge (rows : List SheetRow) (outcome : Outcome) : Type 0 where
  pub sheet : IsSheet rows
  pub prints : PrintsText Done OfNothing (λ text. text ≡ sheet_text rows) outcome

-- the judgements of a desk under a sheet, as a judgements file
pub record PrintsApplied (found : Loaded × List SheetRow) (outcome : Outcome) : Type 0 where
  pub desk : Desk
  pub ranked : IsDeskOf found.0.qrels found.0.runs desk
  pub sheet : IsSheet found.1
  pub prints : PrintsText Done OfNothing (λ text. text ≡ qrels_text desk (all_under desk found.1)) outcome
