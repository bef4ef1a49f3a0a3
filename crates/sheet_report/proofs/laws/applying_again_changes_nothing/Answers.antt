use Rattle.sheet_report.proofs.Again.{nothing_changes}
use Rattle.sheet_report.proofs.laws.applying_again_changes_nothing.Goals as goal

pub returns : goal.returns
returns c = nothing_changes
