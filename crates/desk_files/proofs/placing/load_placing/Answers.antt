use Rattle.std.proofs.Common.{◌≡◌, ◌∙◌, subst}
use Rattle.std.specs.Prelude.{Ok, IfSome}
use Rattle.std.proofs.lemmas.Result.{IfOk-from_err}
use Rattle.std.proofs.Math.Nat.{le_trans}
use Rattle.desk_files.specs.Outcome.{Stops}
use Rattle.desk_files.specs.Placings.{placing_sources, sheet_file}
use Rattle.desk_files.specs.Sheets.{sheet_in}
use Rattle.desk_files.proofs.InTurn.{file_opened, reads_all, reads_one, reads_then, files_handed_on}
use Rattle.desk_files.proofs.Lacking.{lack_extent, sheet_comes, sheet_missing, sheet_stops}
use Rattle.desk_files.proofs.Then.{opens_for_desk, opens_all_and_last, desk_makes_none, last_makes_none, comes_to_both}
use Rattle.desk_files.proofs.placing.load_placing.Goals as goal

pub returns-in_err-desk-clause-makes : goal.returns-in_err-desk-clause-makes
returns-in_err-desk-clause-makes g c =
    let placing = c.args.placing.now in
    desk_makes_none (placing_sources placing) (sheet_file placing) (g.F.Shelf.state c.args.files.now).files (g.F.Shelf.state c.args.files.now).faults (g.F.Shelf.state c.load_desk.new.files).faults c.from_residual.result c.in_err-desk.field-0.0 c.from_residual.ensures.1 c.in_err-desk.ensures.makes

pub returns-in_err-sheet-clause-makes : goal.returns-in_err-sheet-clause-makes
returns-in_err-sheet-clause-makes g c =
    let known = (g.F.Shelf.state c.args.files.now).files in
    let between = (g.F.Shelf.state c.load_desk.new.files).faults in
    let now = (g.F.Shelf.state c.load_sheet.new.files).faults in
    let placing = c.args.placing.now in
    let stop = c.in_err-sheet.field-0.0 in
    let made = c.in_ok-desk.ensures.makes in
    let stopped : Stops known between now stop (λ held. sheet_in held placing.sheet) = subst (λ k. Stops k between now stop (λ held. sheet_in held placing.sheet)) c.load_desk.ensures.files (rw c.as_str-path.ensures at c.in_err-sheet.ensures.gives) in
    last_makes_none (placing_sources placing) (sheet_file placing) known (g.F.Shelf.state c.args.files.now).faults between now made.0 c.from_residual-in_err-sheet.result stop c.from_residual-in_err-sheet.ensures.1 c.load_desk.ensures.later made.1
    (sheet_missing known between now placing.sheet made.0 stop stopped)

pub returns-in_err-check_places-clause-makes : goal.returns-in_err-check_places-clause-makes
returns-in_err-check_places-clause-makes g c =
    let known = (g.F.Shelf.state c.args.files.now).files in
    let between = (g.F.Shelf.state c.load_desk.new.files).faults in
    let now = (g.F.Shelf.state c.load_sheet.new.files).faults in
    let placing = c.args.placing.now in
    let sheet = c.in_ok-sheet.sheet in
    let stop = c.in_err-check_places.field-0.0 in
    let made = c.in_ok-desk.ensures.makes in
    let read : IfSome known (λ held. sheet_in held placing.sheet ≡ Ok sheet) = subst (λ k. IfSome k (λ held. sheet_in held placing.sheet ≡ Ok sheet)) c.load_desk.ensures.files (rw c.as_str-path.ensures at c.in_ok-sheet.ensures.gives) in
    last_makes_none (placing_sources placing) (sheet_file placing) known (g.F.Shelf.state c.args.files.now).faults between now made.0 c.from_residual-in_err-check_places.result stop c.from_residual-in_err-check_places.ensures.1 c.load_desk.ensures.later made.1
    (sheet_stops known between now placing.sheet made.0 c.in_ok-desk.desk sheet stop made.2 read (rw c.as_str-path.ensures at c.in_err-check_places.ensures.first))

pub returns-clause-makes : goal.returns-clause-makes
returns-clause-makes g c =
    let known = (g.F.Shelf.state c.args.files.now).files in
    let placing = c.args.placing.now in
    let sheet = c.in_ok-sheet.sheet in
    let made = c.in_ok-desk.ensures.makes in
    let read : IfSome known (λ held. sheet_in held placing.sheet ≡ Ok sheet) = subst (λ k. IfSome k (λ held. sheet_in held placing.sheet ≡ Ok sheet)) c.load_desk.ensures.files (rw c.as_str-path.ensures at c.in_ok-sheet.ensures.gives) in
    (made.0, comes_to_both (placing_sources placing) (sheet_file placing) known made.0 sheet made.1 (sheet_comes known placing.sheet made.0 c.in_ok-desk.desk sheet made.2 read c.in_ok-check_places.ensures.all), made.2)

pub returns-in_err-desk-clause-placed : goal.returns-in_err-desk-clause-placed
returns-in_err-desk-clause-placed g c = IfOk-from_err c.from_residual.result _ c.from_residual.ensures.0

pub returns-in_err-sheet-clause-placed : goal.returns-in_err-sheet-clause-placed
returns-in_err-sheet-clause-placed g c = IfOk-from_err c.from_residual-in_err-sheet.result _ c.from_residual-in_err-sheet.ensures.0

pub returns-in_err-check_places-clause-placed : goal.returns-in_err-check_places-clause-placed
returns-in_err-check_places-clause-placed g c = IfOk-from_err c.from_residual-in_err-check_places.result _ c.from_residual-in_err-check_places.ensures.0

pub returns-clause-placed : goal.returns-clause-placed
returns-clause-placed g c = c.in_ok-check_places.ensures.all

pub returns-in_err-desk-clause-files : goal.returns-in_err-desk-clause-files
returns-in_err-desk-clause-files g c = c.load_desk.ensures.files

pub returns-in_err-desk-clause-later : goal.returns-in_err-desk-clause-later
returns-in_err-desk-clause-later g c = c.load_desk.ensures.later

pub returns-in_err-sheet-clause-files : goal.returns-in_err-sheet-clause-files
returns-in_err-sheet-clause-files g c = c.load_sheet.ensures.files ∙ c.load_desk.ensures.files

pub returns-in_err-sheet-clause-later : goal.returns-in_err-sheet-clause-later
returns-in_err-sheet-clause-later g c = le_trans c.load_desk.ensures.later c.load_sheet.ensures.later

pub returns-in_err-check_places-clause-files : goal.returns-in_err-check_places-clause-files
returns-in_err-check_places-clause-files g c = c.load_sheet.ensures.files ∙ c.load_desk.ensures.files

pub returns-in_err-check_places-clause-later : goal.returns-in_err-check_places-clause-later
returns-in_err-check_places-clause-later g c = le_trans c.load_desk.ensures.later c.load_sheet.ensures.later

pub returns-clause-files : goal.returns-clause-files
returns-clause-files g c = c.load_sheet.ensures.files ∙ c.load_desk.ensures.files

pub returns-clause-later : goal.returns-clause-later
returns-clause-later g c = le_trans c.load_desk.ensures.later c.load_sheet.ensures.later

pub returns-in_err-desk-clause-opened : goal.returns-in_err-desk-clause-opened
returns-in_err-desk-clause-opened g c = opens_for_desk (placing_sources c.args.placing.now) c.args.placing.now.sheet (g.F.Shelf.state c.args.files.now).files _ _ c.load_desk.ensures.opened

pub returns-in_err-sheet-clause-opened : goal.returns-in_err-sheet-clause-opened
returns-in_err-sheet-clause-opened g c =
    let made = c.in_ok-desk.ensures.makes in
    opens_all_and_last (placing_sources c.args.placing.now) c.args.placing.now.sheet (g.F.Shelf.state c.args.files.now).files made.0 _ _ _ made.1 c.in_ok-desk.ensures.all (file_opened _ _ _ _ (rw c.as_str-path.ensures at c.load_sheet.ensures.reads))

pub returns-in_err-check_places-clause-opened : goal.returns-in_err-check_places-clause-opened
returns-in_err-check_places-clause-opened g c =
    let made = c.in_ok-desk.ensures.makes in
    opens_all_and_last (placing_sources c.args.placing.now) c.args.placing.now.sheet (g.F.Shelf.state c.args.files.now).files made.0 _ _ _ made.1 c.in_ok-desk.ensures.all (file_opened _ _ _ _ (rw c.as_str-path.ensures at c.load_sheet.ensures.reads))

pub returns-clause-opened : goal.returns-clause-opened
returns-clause-opened g c =
    let made = c.in_ok-desk.ensures.makes in
    opens_all_and_last (placing_sources c.args.placing.now) c.args.placing.now.sheet (g.F.Shelf.state c.args.files.now).files made.0 _ _ _ made.1 c.in_ok-desk.ensures.all (file_opened _ _ _ _ (rw c.as_str-path.ensures at c.load_sheet.ensures.reads))

pub returns-in_err-desk-clause-reads : goal.returns-in_err-desk-clause-reads
returns-in_err-desk-clause-reads g c = files_handed_on _ _ c.from_residual.result c.in_err-desk.field-0.0 c.from_residual.ensures.1 c.in_err-desk.ensures.reads

pub returns-in_err-sheet-clause-reads : goal.returns-in_err-sheet-clause-reads
returns-in_err-sheet-clause-reads g c =
    files_handed_on _ _ c.from_residual-in_err-sheet.result c.in_err-sheet.field-0.0 c.from_residual-in_err-sheet.ensures.1
    (reads_then _ _ _ _ c.in_ok-desk.ensures.reads (reads_one _ _ _ _ c.in_err-sheet.ensures.reads))

pub returns-in_err-check_places-clause-reads : goal.returns-in_err-check_places-clause-reads
returns-in_err-check_places-clause-reads g c =
    files_handed_on _ _ c.from_residual-in_err-check_places.result c.in_err-check_places.field-0.0 c.from_residual-in_err-check_places.ensures.1
    (reads_all _ _ _ (reads_then _ _ _ _ c.in_ok-desk.ensures.reads (reads_one _ _ _ _ c.in_ok-sheet.ensures.reads))
    (lack_extent c.as_str-path.result.now c.in_ok-desk.desk c.in_ok-sheet.sheet c.in_err-check_places.field-0.0 c.in_err-check_places.ensures.first))

pub returns-clause-reads : goal.returns-clause-reads
returns-clause-reads g c = reads_then _ _ _ _ c.in_ok-desk.ensures.reads (reads_one _ _ _ _ c.in_ok-sheet.ensures.reads)
