-- What the texts of sheets and of judgements claim of runs.
use Rattle.std.specs.Prelude.{ℕ, List, take, Option, ℤ}
use Rattle.desk_model.specs.Desk.{Desk, IsDesk}
use Rattle.desk_model.specs.declared.types.Mark.{Mark}
use Rattle.desk_model.specs.declared.types.MeasureName.{MeasureName}
use Rattle.desk_report.specs.Claims.{IsTrueText}
use Rattle.desk_report.specs.Judging.{qrels_text}
use Rattle.sheet_merge.specs.Sheet.{SheetRow, IsSheet}
use Rattle.sheet_merge.specs.Text.{sheet_text}

-- whatever was received of the text of a sheet claims nothing false of any desk
abbrev pub SheetTextsAreTrue : Type 0
SheetTextsAreTrue =
    (name : MeasureName) (desk : Desk) (marks : List (List Mark)) (rows : List SheetRow) (received : ℕ) → IsSheet rows →
    IsTrueText name desk marks (take received (sheet_text rows))

-- whatever was received of judgements of a desk, as a judgements file, claims nothing false of any desk, be it another one
abbrev pub JudgementsClaimNothing : Type 0
JudgementsClaimNothing =
    (name : MeasureName) (desk other : Desk) (marks : List (List Mark)) (grades : List (List (Option ℤ))) (received : ℕ) → IsDesk desk →
    IsTrueText name other marks (take received (qrels_text desk grades))
