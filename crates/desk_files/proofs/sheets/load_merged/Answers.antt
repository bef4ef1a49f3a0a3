use Rattle.std.proofs.Common.{◌≡◌, ◌+◌, [], ◌∷◌, drop, refl, ap, sym, subst, ◌∙◌, arith}
use Rattle.std.proofs.lemmas.List.{drop_more, drop_all}
use Rattle.std.proofs.Math.Nat.{le_refl, le_trans}
use Rattle.desk_outside.specs.Calls.{opened_in}
use Rattle.desk_files.specs.Sheets.{with_sheet_in, merge_of, sheets_in_turn}
use Rattle.desk_files.proofs.InTurn.{file_opened, reads_none, reads_one, reads_then, files_handed_on}
use Rattle.desk_files.proofs.Stopping.{gives_handed_on, if_some_at}
use Rattle.desk_files.proofs.Merging.{MergesOn, opens_sheets, merges_first, merges_more, merge_stops}
use Rattle.desk_files.proofs.Opening.{OpensSoFar, opens_none, opens_more, opens_last, opens_all}
use Rattle.desk_files.proofs.sheets.load_merged.Goals as goal

pub loop-path-init : goal.loop-path-init
loop-path-init g c =
    let told = (g.F.Shelf.state c.args.files.now).files in
    let had = opened_in (g.F.Shelf.state c.args.files.now).calls in
    let paths = c.as_slice-path-items.result.now in
    record {
      files = refl;
      later = le_refl (g.F.Shelf.state c.args.files.now).faults;
      opened = subst (λ rows. OpensSoFar sheets_in_turn told [] paths rows paths had had) (sym c.empty-all.ensures) (opens_none sheets_in_turn [] paths told had);
      left = subst (λ rows. MergesOn told paths rows paths) (sym c.empty-all.ensures) (merges_first told paths);
      reads = reads_none (g.F.Shelf.state c.args.files.now).calls;
    }

pub loop-path-preserved : goal.loop-path-preserved
loop-path-preserved g c =
    let paths = c.as_slice-path-items.result.now in
    let i = c.loop-path.path-index in
    let path = c.path-item.result in
    let kept = c.loop-path.invariant in
    let told = (g.F.Shelf.state c.args.files.now).files in
    let rows = c.merge_next.new.all in
    let split : drop i paths ≡ path ∷ drop (i + 1) paths = drop_more paths i path (omega arith) ∙ ap (λ p. p ∷ drop (i + 1) paths) (sym c.path-item.is) in
    let gives = rw (c.as_str.ensures, kept.files) at c.in_ok-merge_next.ensures.gives in
    let reads = rw c.as_str.ensures at c.in_ok-merge_next.ensures.reads in
    record {
      files = c.in_ok-merge_next.ensures.files ∙ kept.files;
      later = le_trans kept.later c.in_ok-merge_next.ensures.later;
      opened = opens_more sheets_in_turn [] paths c.loop-path.all path (drop (i + 1) paths) _ _ _ told rows (rw split at kept.opened) (file_opened path _ _ _ reads) gives;
      left = merges_more paths c.loop-path.all path (drop (i + 1) paths) told rows (rw split at kept.left) gives;
      reads = reads_then _ _ _ _ kept.reads (reads_one path _ _ _ reads);
    }

pub returns-in_err-merge_next-clause-gives : goal.returns-in_err-merge_next-clause-gives
returns-in_err-merge_next-clause-gives g c =
    let paths = c.as_slice-path-items.result.now in
    let i = c.loop-path.path-index in
    let path = c.path-item.result in
    let kept = c.loop-path.invariant in
    let told = (g.F.Shelf.state c.args.files.now).files in
    let before = c.loop-path.files in
    let had = c.loop-path.all in
    let split : drop i paths ≡ path ∷ drop (i + 1) paths = drop_more paths i path (omega arith) ∙ ap (λ p. p ∷ drop (i + 1) paths) (sym c.path-item.is) in
    let left : MergesOn told paths had (path ∷ drop (i + 1) paths) = rw split at kept.left in
    rw (sym c.as_slice-path-items.ensures.paths) (gives_handed_on told (g.F.Shelf.state before).files (g.F.Shelf.state c.args.files.now).faults (g.F.Shelf.state before).faults (g.F.Shelf.state c.merge_next.new.files).faults (λ sheet. sheet) c.from_residual.result c.in_err-merge_next.field-0.0
    (λ held. with_sheet_in held had path) (λ held. merge_of held [] paths) kept.files c.from_residual.ensures.1 kept.later (rw c.as_str.ensures at c.in_err-merge_next.ensures.gives)
    (λ held why is stop. merge_stops paths had path (drop (i + 1) paths) held why (if_some_at told (λ held. merge_of held [] paths ≡ merge_of held had (path ∷ drop (i + 1) paths)) held left is) stop))

pub returns-in_err-merge_next-clause-files : goal.returns-in_err-merge_next-clause-files
returns-in_err-merge_next-clause-files g c = c.merge_next.ensures.files ∙ c.loop-path.invariant.files

pub returns-in_err-merge_next-clause-later : goal.returns-in_err-merge_next-clause-later
returns-in_err-merge_next-clause-later g c = le_trans c.loop-path.invariant.later c.merge_next.ensures.later

pub returns-in_err-merge_next-clause-opened : goal.returns-in_err-merge_next-clause-opened
returns-in_err-merge_next-clause-opened g c =
    let paths = c.as_slice-path-items.result.now in
    let i = c.loop-path.path-index in
    let path = c.path-item.result in
    let told = (g.F.Shelf.state c.args.files.now).files in
    let split : drop i paths ≡ path ∷ drop (i + 1) paths = drop_more paths i path (omega arith) ∙ ap (λ p. p ∷ drop (i + 1) paths) (sym c.path-item.is) in
    rw (sym c.as_slice-path-items.ensures.paths) (opens_sheets told paths _ _
    (opens_last sheets_in_turn [] paths c.loop-path.all path (drop (i + 1) paths) _ _ _ told (rw split at c.loop-path.invariant.opened) (file_opened path _ _ _ (rw c.as_str.ensures at c.in_err-merge_next.ensures.reads))))

pub returns-in_err-merge_next-clause-reads : goal.returns-in_err-merge_next-clause-reads
returns-in_err-merge_next-clause-reads g c = files_handed_on _ _ c.from_residual.result c.in_err-merge_next.field-0.0 c.from_residual.ensures.1 (reads_then _ _ _ _ c.loop-path.invariant.reads (reads_one _ _ _ _ c.in_err-merge_next.ensures.reads))

pub returns-clause-gives : goal.returns-clause-gives
returns-clause-gives g c =
    let paths = c.as_slice-path-items.result.now in
    rw (sym c.as_slice-path-items.ensures.paths) (rw (drop_all c.loop-path.path-index paths (omega arith)) at c.loop-path.invariant.left)

pub returns-clause-files : goal.returns-clause-files
returns-clause-files g c = c.loop-path.invariant.files

pub returns-clause-later : goal.returns-clause-later
returns-clause-later g c = c.loop-path.invariant.later

pub returns-clause-opened : goal.returns-clause-opened
returns-clause-opened g c =
    let paths = c.as_slice-path-items.result.now in
    let told = (g.F.Shelf.state c.args.files.now).files in
    rw (sym c.as_slice-path-items.ensures.paths) (opens_sheets told paths _ _ (opens_all sheets_in_turn [] paths told c.loop-path.all _ _ (rw (drop_all c.loop-path.path-index paths (omega arith)) at c.loop-path.invariant.opened)))

pub returns-clause-reads : goal.returns-clause-reads
returns-clause-reads g c = c.loop-path.invariant.reads
