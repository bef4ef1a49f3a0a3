use Rattle.std.proofs.Common.{refl}
use Rattle.desk_outside.specs.Seen.{shelf}
use Rattle.desk_files.specs.declared.stop.Stop.TheVariants as kept
use Rattle.desk_top.specs.Meaning.{merge_meaning}
use Rattle.desk_top.specs.Works.{Works}
use Rattle.desk_files.proofs.InTurn.{files_handed_on, memory_after}
use Rattle.desk_top.proofs.OnSheets.{merge_works, merge_stopped, merge_memory}
use Rattle.desk_top.proofs.Reporting.{handed_on}
use Rattle.desk_top.proofs.sheets.merge_outcome.Goals as goal

pub returns-in_err-sheet-clause-works : goal.returns-in_err-sheet-clause-works
returns-in_err-sheet-clause-works g c =
    let files = shelf (g.F.Shelf.state c.args.files.now) (g.F.Shelf.state c.load_merged.new.files) in
    λ cells. handed_on (Works (merge_meaning c.args.sheets.now) files cells cells) c.from_residual.result _ c.from_residual.ensures.1 (merge_stopped c.args.sheets.now c.load_merged.ensures.some files cells _ c.in_err-sheet.ensures.gives)

pub returns-in_err-sheet-clause-reads : goal.returns-in_err-sheet-clause-reads
returns-in_err-sheet-clause-reads g c = files_handed_on _ _ c.from_residual.result c.in_err-sheet.field-0.0 c.from_residual.ensures.1 c.in_err-sheet.ensures.reads

pub returns-in_err-text-clause-works : goal.returns-in_err-text-clause-works
returns-in_err-text-clause-works g c =
    let files = shelf (g.F.Shelf.state c.args.files.now) (g.F.Shelf.state c.load_merged.new.files) in
    λ cells. handed_on (Works (merge_meaning c.args.sheets.now) files cells cells) c.from_residual-in_err-text.result kept.Memory c.from_residual-in_err-text.ensures.1 (merge_memory c.args.sheets.now c.load_merged.ensures.some files cells kept.Memory refl)

pub returns-in_err-text-clause-reads : goal.returns-in_err-text-clause-reads
returns-in_err-text-clause-reads g c = memory_after _ _ c.from_residual-in_err-text.result c.from_residual-in_err-text.ensures.1 c.in_ok-sheet.ensures.reads

pub returns-clause-works : goal.returns-clause-works
returns-clause-works g c =
    let files = shelf (g.F.Shelf.state c.args.files.now) (g.F.Shelf.state c.load_merged.new.files) in
    λ cells. merge_works c.args.sheets.now c.load_merged.ensures.some files cells c.in_ok-sheet.sheet c.in_ok-text.text c.in_ok-sheet.ensures.gives c.valid.ensures c.in_ok-text.ensures
