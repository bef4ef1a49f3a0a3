use Rattle.std.proofs.Common.{◌≡◌, ◌+◌, ◌≤◌, [], ◌∷◌, length, drop, refl, inr, ap, sym, subst, ◌∙◌, arith, length-append}
use Rattle.std.proofs.lemmas.List.{drop_more, drop_all}
use Rattle.std.proofs.Math.Nat.{le_refl, le_trans}
use Rattle.std.proofs.lemmas.Result.{IfOk-from_err}
use Rattle.file_rows.specs.Grouped.{row_count}
use Rattle.run_reader.specs.declared.used.Used.{Used}
use Rattle.run_reader.specs.declared.limits.TheConstants.{MOST_RUN_ROWS}
use Rattle.run_reader.specs.Run.{run_of}
use Rattle.topics_pool.specs.Rows.{total_rows}
use Rattle.desk_outside.specs.Calls.{opened_in}
use Rattle.desk_files.specs.Files.{file_as}
use Rattle.desk_files.specs.Load.{used_by, runs_of, runs_in_turn}
use Rattle.desk_files.proofs.InTurn.{file_opened, reads_none, reads_one, reads_then, reads_all, files_handed_on}
use Rattle.desk_files.proofs.Stopping.{gives_handed_on, gives_memory, if_some_at}
use Rattle.desk_files.proofs.Runs.{Reaches, with_rest, reaches_first, reaches_more, reaches_all, stops_all, total_rows-push}
use Rattle.desk_files.proofs.Opening.{OpensSoFar, opens_none, opens_more, opens_last, opens_all, opened_all}
use Rattle.desk_files.proofs.load.load_runs.Goals as goal

pub loop-word-preserved : goal.loop-word-preserved
loop-word-preserved g c =
    let words = c.args.words.now in
    let i = c.loop-word.word-index in
    let word = c.word-item.result in
    let kept = c.loop-word.invariant in
    let told = (g.F.Shelf.state c.args.files.now).files in
    let split : drop i words ≡ word ∷ drop (i + 1) words = drop_more words i word (omega arith) ∙ ap (λ w. w ∷ drop (i + 1) words) (sym c.word-item.is) in
    let left = rw split at kept.left in
    let gives = rw kept.files at c.in_ok-run.ensures.gives in
    let more = reaches_more c.args.qrels.now (used_by c.args.qrels.now) words c.loop-word.used c.loop-word.runs.items word (drop (i + 1) words) told c.in_ok-run.run' left gives in
    let pushed = c.in_ok-push_run.ensures in
    record {
      files = c.in_ok-run.ensures.files ∙ kept.files;
      later = omega (arith, c.in_ok-run.ensures.later, kept.later);
      within = c.used-used.ensures.within;
      count = omega (arith, ap length pushed, length-append c.loop-word.runs.items (c.in_ok-run.run' ∷ []), kept.count);
      rows = rw pushed (ap (λ (u : Used). u.rows) c.used-used.ensures.value ∙ c.in_ok-run.ensures.rows ∙ ap (λ n. n + row_count c.in_ok-run.run'.topics) kept.rows ∙ sym (total_rows-push c.loop-word.runs.items c.in_ok-run.run'));
      opened = rw c.used-used.ensures.value (opens_more (runs_in_turn c.args.qrels.now) (used_by c.args.qrels.now) words c.loop-word.used word (drop (i + 1) words) _ _ _ told c.in_ok-run.run' (rw split at kept.opened) (file_opened _ _ _ _ c.in_ok-run.ensures.reads) gives);
      left = rw (c.used-used.ensures.value, pushed) more;
      reads = reads_then _ _ _ _ kept.reads (reads_one _ _ _ _ c.in_ok-run.ensures.reads);
    }

pub returns-in_err-run-clause-opened : goal.returns-in_err-run-clause-opened
returns-in_err-run-clause-opened g c =
    let words = c.args.words.now in
    let i = c.loop-word.word-index in
    let word = c.word-item.result in
    let split : drop i words ≡ word ∷ drop (i + 1) words = drop_more words i word (omega arith) ∙ ap (λ w. w ∷ drop (i + 1) words) (sym c.word-item.is) in
    opens_last (runs_in_turn c.args.qrels.now) (used_by c.args.qrels.now) words c.loop-word.used word (drop (i + 1) words) _ _ _ (g.F.Shelf.state c.args.files.now).files (rw split at c.loop-word.invariant.opened) (file_opened _ _ _ _ c.load_run.ensures.reads)

pub returns-in_err-push_run-clause-opened : goal.returns-in_err-push_run-clause-opened
returns-in_err-push_run-clause-opened g c =
    let words = c.args.words.now in
    let i = c.loop-word.word-index in
    let word = c.word-item.result in
    let split : drop i words ≡ word ∷ drop (i + 1) words = drop_more words i word (omega arith) ∙ ap (λ w. w ∷ drop (i + 1) words) (sym c.word-item.is) in
    opens_last (runs_in_turn c.args.qrels.now) (used_by c.args.qrels.now) words c.loop-word.used word (drop (i + 1) words) _ _ _ (g.F.Shelf.state c.args.files.now).files (rw split at c.loop-word.invariant.opened) (file_opened _ _ _ _ c.load_run.ensures.reads)

pub returns-clause-opened : goal.returns-clause-opened
returns-clause-opened g c =
    let words = c.args.words.now in
    opens_all (runs_in_turn c.args.qrels.now) (used_by c.args.qrels.now) words (g.F.Shelf.state c.args.files.now).files c.loop-word.used _ _ (rw (drop_all c.loop-word.word-index words (omega arith)) at c.loop-word.invariant.opened)

pub returns-clause-all : goal.returns-clause-all
returns-clause-all g c =
    let words = c.args.words.now in
    opened_all (runs_in_turn c.args.qrels.now) (used_by c.args.qrels.now) words (g.F.Shelf.state c.args.files.now).files c.loop-word.used _ _ (rw (drop_all c.loop-word.word-index words (omega arith)) at c.loop-word.invariant.opened)

pub returns-in_err-run-clause-gives : goal.returns-in_err-run-clause-gives
returns-in_err-run-clause-gives g c =
    let words = c.args.words.now in
    let qrels = c.args.qrels.now in
    let i = c.loop-word.word-index in
    let word = c.word-item.result in
    let kept = c.loop-word.invariant in
    let told = (g.F.Shelf.state c.args.files.now).files in
    let used = c.loop-word.used in
    let done = c.loop-word.runs.items in
    let before = c.loop-word.files in
    let split : drop i words ≡ word ∷ drop (i + 1) words = drop_more words i word (omega arith) ∙ ap (λ w. w ∷ drop (i + 1) words) (sym c.word-item.is) in
    let left : Reaches told qrels (used_by qrels) words used done (word ∷ drop (i + 1) words) = rw split at kept.left in
    gives_handed_on told (g.F.Shelf.state before).files (g.F.Shelf.state c.args.files.now).faults (g.F.Shelf.state before).faults (g.F.Shelf.state c.load_run.new.files).faults (λ runs. runs.items) c.from_residual.result c.in_err-run.field-0.0
    (λ held. file_as (run_of word.name qrels used) held word.path) (λ held. runs_of held qrels (used_by qrels) words) kept.files c.from_residual.ensures.1 kept.later c.in_err-run.ensures.gives
    (λ held why is stop. stops_all qrels (used_by qrels) words used done word (drop (i + 1) words) held why
    (if_some_at told (λ held. runs_of held qrels (used_by qrels) words ≡ with_rest held qrels used done (word ∷ drop (i + 1) words)) held left is) stop)

pub returns-in_err-push_run-clause-gives : goal.returns-in_err-push_run-clause-gives
returns-in_err-push_run-clause-gives g c =
    let qrels = c.args.qrels.now in
    gives_memory (g.F.Shelf.state c.args.files.now).files (g.F.Shelf.state c.args.files.now).faults (g.F.Shelf.state c.load_run.new.files).faults (λ runs. runs.items) c.from_residual-in_err-push_run.result (λ held. runs_of held qrels (used_by qrels) c.args.words.now) c.from_residual-in_err-push_run.ensures.1

pub returns-clause-gives : goal.returns-clause-gives
returns-clause-gives g c =
    let words = c.args.words.now in
    let qrels = c.args.qrels.now in
    reaches_all (g.F.Shelf.state c.args.files.now).files qrels (used_by qrels) words c.loop-word.used c.loop-word.runs.items (rw (drop_all c.loop-word.word-index words (omega arith)) at c.loop-word.invariant.left)

pub returns-in_err-run-clause-count : goal.returns-in_err-run-clause-count
returns-in_err-run-clause-count g c = IfOk-from_err c.from_residual.result _ c.from_residual.ensures.0

pub returns-in_err-run-clause-rows : goal.returns-in_err-run-clause-rows
returns-in_err-run-clause-rows g c = IfOk-from_err c.from_residual.result _ c.from_residual.ensures.0

pub returns-in_err-run-clause-all : goal.returns-in_err-run-clause-all
returns-in_err-run-clause-all g c = IfOk-from_err c.from_residual.result _ c.from_residual.ensures.0

pub returns-in_err-run-clause-files : goal.returns-in_err-run-clause-files
returns-in_err-run-clause-files g c = c.load_run.ensures.files ∙ c.loop-word.invariant.files

pub returns-in_err-run-clause-later : goal.returns-in_err-run-clause-later
returns-in_err-run-clause-later g c = le_trans c.loop-word.invariant.later c.load_run.ensures.later

pub returns-in_err-push_run-clause-count : goal.returns-in_err-push_run-clause-count
returns-in_err-push_run-clause-count g c = IfOk-from_err c.from_residual-in_err-push_run.result _ c.from_residual-in_err-push_run.ensures.0

pub returns-in_err-push_run-clause-rows : goal.returns-in_err-push_run-clause-rows
returns-in_err-push_run-clause-rows g c = IfOk-from_err c.from_residual-in_err-push_run.result _ c.from_residual-in_err-push_run.ensures.0

pub returns-in_err-push_run-clause-all : goal.returns-in_err-push_run-clause-all
returns-in_err-push_run-clause-all g c = IfOk-from_err c.from_residual-in_err-push_run.result _ c.from_residual-in_err-push_run.ensures.0

pub returns-in_err-push_run-clause-files : goal.returns-in_err-push_run-clause-files
returns-in_err-push_run-clause-files g c = c.load_run.ensures.files ∙ c.loop-word.invariant.files

pub returns-in_err-push_run-clause-later : goal.returns-in_err-push_run-clause-later
returns-in_err-push_run-clause-later g c = le_trans c.loop-word.invariant.later c.load_run.ensures.later

pub returns-clause-files : goal.returns-clause-files
returns-clause-files g c = c.loop-word.invariant.files

pub returns-clause-later : goal.returns-clause-later
returns-clause-later g c = c.loop-word.invariant.later

pub returns-clause-rows : goal.returns-clause-rows
returns-clause-rows g c = subst (λ n. n ≤ MOST_RUN_ROWS) c.loop-word.invariant.rows c.loop-word.invariant.within.rows

pub returns-clause-count : goal.returns-clause-count
returns-clause-count g c = omega (arith, c.loop-word-test.false, c.loop-word.invariant.count, c.loop-word.auto.word-index-end)

pub load_run-requires : goal.load_run-requires
load_run-requires g c = c.loop-word.invariant.within

pub loop-word-init : goal.loop-word-init
loop-word-init g c =
    let told = (g.F.Shelf.state c.args.files.now).files in
    let had = (opened_in (g.F.Shelf.state c.args.files.now).calls) in
    let words = c.args.words.now in
    let qrels = c.args.qrels.now in
    let used : Used = record { rows = 0; name_bytes = c.name_bytes.result } in
    let same : used ≡ used_by qrels = ap (λ n. record { rows = 0; name_bytes = n }) c.name_bytes.ensures.count in
    let left = subst (λ u. Reaches told qrels (used_by qrels) words u [] words) (sym same) (reaches_first told qrels (used_by qrels) words) in
    record {
      files = refl;
      later = le_refl (g.F.Shelf.state c.args.files.now).faults;
      within = record { rows = omega arith; name_bytes = c.name_bytes.ensures.most };
      count = c.new-runs.ensures.len;
      rows = sym (ap total_rows c.new-runs.ensures.items);
      opened = subst (λ u. OpensSoFar (runs_in_turn qrels) told (used_by qrels) words u words had had) (sym same) (opens_none (runs_in_turn qrels) (used_by qrels) words told had);
      left = subst (λ runs. Reaches told qrels (used_by qrels) words used runs words) (sym c.new-runs.ensures.items) left;
      reads = reads_none (g.F.Shelf.state c.args.files.now).calls;
    }

pub returns-in_err-run-clause-reads : goal.returns-in_err-run-clause-reads
returns-in_err-run-clause-reads g c = files_handed_on _ _ c.from_residual.result c.in_err-run.field-0.0 c.from_residual.ensures.1 (reads_then _ _ _ _ c.loop-word.invariant.reads (reads_one _ _ _ _ c.in_err-run.ensures.reads))

pub returns-in_err-push_run-clause-reads : goal.returns-in_err-push_run-clause-reads
returns-in_err-push_run-clause-reads g c =
    files_handed_on _ _ c.from_residual-in_err-push_run.result _ c.from_residual-in_err-push_run.ensures.1
    (reads_all _ _ _ (reads_then _ _ _ _ c.loop-word.invariant.reads (reads_one _ _ _ _ c.in_ok-run.ensures.reads)) (inr refl))

pub returns-clause-reads : goal.returns-clause-reads
returns-clause-reads g c = c.loop-word.invariant.reads
