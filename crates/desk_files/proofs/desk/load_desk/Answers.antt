use Rattle.std.proofs.Common.{◌≡◌, ◌<◌, ◌≤◌, [], ◌∷◌, ◌++◌, arith, ap, sym, subst, ◌∙◌, length, vec_len}
use Rattle.std.specs.Prelude.{Result, Ok, Err, IfSome, OnOk}
use Rattle.std.proofs.lemmas.Result.{err_from_is_err_and, IfOk-from_err, IfOk-weaker}
use Rattle.std.proofs.Math.Nat.{le_trans}
use Rattle.qrels_reader.specs.Grouped.{qrels_of}
use Rattle.desk_model.specs.Desk.{Desk}
use Rattle.desk_outside.specs.Calls.{opened_in}
use Rattle.desk_files.specs.declared.stop.Stop.{Stop as KeptStop}
use Rattle.desk_files.specs.Files.{file_as}
use Rattle.desk_files.specs.Load.{runs_of, used_by, sources_for, paths_of}
use Rattle.desk_files.proofs.InTurn.{file_opened, reads_one, reads_then, reads_all, files_handed_on}
use Rattle.desk_files.proofs.Stopping.{if_some_at}
use Rattle.desk_files.proofs.Joining.{makes_joined, makes_err, stops_at_qrels, stops_at_runs}
use Rattle.desk_files.proofs.Opening.{opens_qrels, opens_desk, opened_desk}
use Rattle.desk_files.proofs.desk.load_desk.Goals as goal

-- what holds anyway, holds where there is a desk
if_loaded : (r : Result Desk KeptStop) (P : Type 0) → P → OnOk r P
if_loaded (Ok desk) P h = h
if_loaded (Err stop) P h = tt

pub returns-in_err-judged-clause-makes : goal.returns-in_err-judged-clause-makes
returns-in_err-judged-clause-makes g c =
    let p = err_from_is_err_and c.from_residual.result c.from_residual.ensures.1 in
    let from = sources_for c.args.tables c.args.qrels.now c.args.runs.now in
    makes_err (g.F.Shelf.state c.args.files.now).files _ _ _ from c.from_residual.result c.in_err-judged.field-0.0 (λ held. file_as qrels_of held c.args.qrels.now)
    (p.1 ∙ ap Err p.2) (omega arith) (rw c.as_str.ensures at c.in_err-judged.ensures.gives) (λ files why t stop. stops_at_qrels files from why stop)

pub returns-in_err-ranked-clause-makes : goal.returns-in_err-ranked-clause-makes
returns-in_err-ranked-clause-makes g c =
    let p = err_from_is_err_and c.from_residual-in_err-ranked.result c.from_residual-in_err-ranked.ensures.1 in
    let from = sources_for c.args.tables c.args.qrels.now c.args.runs.now in
    let told = (g.F.Shelf.state c.args.files.now).files in
    let qrels = c.in_ok-judged.judged in
    let read : IfSome told (λ held. file_as qrels_of held c.args.qrels.now ≡ Ok qrels) = rw c.as_str.ensures at c.in_ok-judged.ensures.gives in
    let stops = rw (c.load_qrels.ensures.files, c.as_slice.ensures.runs) at c.in_err-ranked.ensures.gives in
    makes_err told _ (g.F.Shelf.state c.load_qrels.new.files).faults _ from c.from_residual-in_err-ranked.result c.in_err-ranked.field-0.0 (λ held. runs_of held qrels (used_by qrels) c.args.runs.now)
    (p.1 ∙ ap Err p.2) (omega (arith, c.load_qrels.ensures.later)) stops (λ files why t stop. stops_at_runs files from qrels why (if_some_at told (λ held. file_as qrels_of held c.args.qrels.now ≡ Ok qrels) files read t) stop)

pub returns-clause-makes : goal.returns-clause-makes
returns-clause-makes g c =
    let from = sources_for c.args.tables c.args.qrels.now c.args.runs.now in
    let told = (g.F.Shelf.state c.args.files.now).files in
    let qrels = c.in_ok-judged.judged in
    let runs = c.in_ok-ranked.ranked in
    let read : IfSome told (λ held. file_as qrels_of held c.args.qrels.now ≡ Ok qrels) = rw c.as_str.ensures at c.in_ok-judged.ensures.gives in
    let loaded = rw (c.load_qrels.ensures.files, c.as_slice.ensures.runs) at c.in_ok-ranked.ensures.gives in
    makes_joined from qrels runs.items told _ _ c.join.result read loaded c.join.ensures.joins

pub returns-in_err-judged-clause-opened : goal.returns-in_err-judged-clause-opened
returns-in_err-judged-clause-opened g c = opens_qrels _ (sources_for c.args.tables c.args.qrels.now c.args.runs.now) _ _ (rw c.as_str.ensures at (file_opened _ _ _ _ c.load_qrels.ensures.reads))

pub returns-in_err-ranked-clause-opened : goal.returns-in_err-ranked-clause-opened
returns-in_err-ranked-clause-opened g c =
    let from = sources_for c.args.tables c.args.qrels.now c.args.runs.now in
    let told = (g.F.Shelf.state c.args.files.now).files in
    let qrels = c.in_ok-judged.judged in
    let read : IfSome told (λ held. file_as qrels_of held c.args.qrels.now ≡ Ok qrels) = rw c.as_str.ensures at c.in_ok-judged.ensures.gives in
    opens_desk told from qrels _ _ _ (rw c.as_str.ensures at (file_opened _ _ _ _ c.load_qrels.ensures.reads)) read (rw (c.load_qrels.ensures.files, c.as_slice.ensures.runs) at c.load_runs.ensures.opened)

pub returns-clause-opened : goal.returns-clause-opened
returns-clause-opened g c =
    let from = sources_for c.args.tables c.args.qrels.now c.args.runs.now in
    let told = (g.F.Shelf.state c.args.files.now).files in
    let qrels = c.in_ok-judged.judged in
    let read : IfSome told (λ held. file_as qrels_of held c.args.qrels.now ≡ Ok qrels) = rw c.as_str.ensures at c.in_ok-judged.ensures.gives in
    opens_desk told from qrels _ _ _ (rw c.as_str.ensures at (file_opened _ _ _ _ c.load_qrels.ensures.reads)) read (rw (c.load_qrels.ensures.files, c.as_slice.ensures.runs) at c.load_runs.ensures.opened)

pub returns-in_err-judged-clause-runs : goal.returns-in_err-judged-clause-runs
returns-in_err-judged-clause-runs g c = IfOk-from_err c.from_residual.result _ c.from_residual.ensures.0

pub returns-in_err-judged-clause-all : goal.returns-in_err-judged-clause-all
returns-in_err-judged-clause-all g c = IfOk-from_err c.from_residual.result _ c.from_residual.ensures.0

pub returns-in_err-ranked-clause-runs : goal.returns-in_err-ranked-clause-runs
returns-in_err-ranked-clause-runs g c = IfOk-from_err c.from_residual-in_err-ranked.result _ c.from_residual-in_err-ranked.ensures.0

pub returns-in_err-ranked-clause-all : goal.returns-in_err-ranked-clause-all
returns-in_err-ranked-clause-all g c = IfOk-from_err c.from_residual-in_err-ranked.result _ c.from_residual-in_err-ranked.ensures.0

pub returns-in_err-ranked-clause-files : goal.returns-in_err-ranked-clause-files
returns-in_err-ranked-clause-files g c = c.load_runs.ensures.files ∙ c.load_qrels.ensures.files

pub returns-in_err-ranked-clause-later : goal.returns-in_err-ranked-clause-later
returns-in_err-ranked-clause-later g c = le_trans c.load_qrels.ensures.later c.load_runs.ensures.later

pub returns-clause-runs : goal.returns-clause-runs
returns-clause-runs g c =
    IfOk-weaker c.join.result (λ desk. length desk.runs ≡ vec_len c.in_ok-ranked.ranked) (λ desk. length desk.runs ≡ length c.args.runs.now) (λ desk is. is ∙ c.in_ok-ranked.ensures.count ∙ ap length c.as_slice.ensures.runs) c.join.ensures.runs

pub returns-clause-files : goal.returns-clause-files
returns-clause-files g c = c.load_runs.ensures.files ∙ c.load_qrels.ensures.files

pub returns-clause-all : goal.returns-clause-all
returns-clause-all g c =
    let before = (opened_in (g.F.Shelf.state c.args.files.now).calls) in
    let between = (opened_in (g.F.Shelf.state c.load_qrels.new.files).calls) in
    let now = (opened_in (g.F.Shelf.state c.load_runs.new.files).calls) in
    let path = c.args.qrels.now in
    let first : between ≡ before ++ path ∷ [] = rw c.as_str.ensures at (file_opened _ _ _ _ c.load_qrels.ensures.reads) in
    let all : now ≡ between ++ paths_of c.args.runs.now = rw c.as_slice.ensures.runs at c.in_ok-ranked.ensures.all in
    if_loaded c.join.result (now ≡ before ++ path ∷ paths_of c.args.runs.now) (opened_desk path c.args.runs.now before between now first all)

pub returns-clause-later : goal.returns-clause-later
returns-clause-later g c = le_trans c.load_qrels.ensures.later c.load_runs.ensures.later

pub join-requires-clause-some : goal.join-requires-clause-some
join-requires-clause-some g c = subst (λ n. 0 < n) (sym (c.in_ok-ranked.ensures.count ∙ ap length c.as_slice.ensures.runs)) c.as_slice.ensures.some

pub join-requires-clause-few : goal.join-requires-clause-few
join-requires-clause-few g c = subst (λ n. n ≤ 256) (sym (c.in_ok-ranked.ensures.count ∙ ap length c.as_slice.ensures.runs)) c.as_slice.ensures.few

pub returns-in_err-judged-clause-files : goal.returns-in_err-judged-clause-files
returns-in_err-judged-clause-files g c = c.load_qrels.ensures.files

pub returns-in_err-judged-clause-later : goal.returns-in_err-judged-clause-later
returns-in_err-judged-clause-later g c = c.load_qrels.ensures.later

pub join-requires-clause-rows : goal.join-requires-clause-rows
join-requires-clause-rows g c = c.in_ok-ranked.ensures.rows

pub returns-in_err-judged-clause-reads : goal.returns-in_err-judged-clause-reads
returns-in_err-judged-clause-reads g c = files_handed_on _ _ c.from_residual.result c.in_err-judged.field-0.0 c.from_residual.ensures.1 (reads_one _ _ _ _ c.in_err-judged.ensures.reads)

pub returns-in_err-ranked-clause-reads : goal.returns-in_err-ranked-clause-reads
returns-in_err-ranked-clause-reads g c =
    files_handed_on _ _ c.from_residual-in_err-ranked.result c.in_err-ranked.field-0.0 c.from_residual-in_err-ranked.ensures.1
    (reads_then _ _ _ _ (reads_one _ _ _ _ c.in_ok-judged.ensures.reads) c.in_err-ranked.ensures.reads)

pub returns-clause-reads : goal.returns-clause-reads
returns-clause-reads g c = reads_all _ _ _ (reads_then _ _ _ _ (reads_one _ _ _ _ c.in_ok-judged.ensures.reads) c.in_ok-ranked.ensures.reads) c.join.ensures.whole

pub returns-in_err-judged-clause-cells : goal.returns-in_err-judged-clause-cells
returns-in_err-judged-clause-cells g c = IfOk-from_err c.from_residual.result _ c.from_residual.ensures.0

pub returns-in_err-ranked-clause-cells : goal.returns-in_err-ranked-clause-cells
returns-in_err-ranked-clause-cells g c = IfOk-from_err c.from_residual-in_err-ranked.result _ c.from_residual-in_err-ranked.ensures.0

pub returns-clause-cells : goal.returns-clause-cells
returns-clause-cells g c = c.join.ensures.cells

pub join-requires-clause-tables : goal.join-requires-clause-tables
join-requires-clause-tables g c = c.requires
