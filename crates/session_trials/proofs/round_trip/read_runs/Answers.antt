use Rattle.std.proofs.Common.{[], ◌∷◌, ◌++◌, None, ap, ◌∙◌, arith}
use Rattle.std.proofs.lemmas.List.Sums.{sum_by-cons}
use Rattle.run_reader.specs.Run.{Run, run_of}
use Rattle.file_rows.specs.Grouped.{row_count}
use Rattle.run_reader.specs.declared.used.Used.{Used}
use Rattle.topics_pool.specs.Rows.{total_rows}
use Rattle.topics_pool.proofs.AddedUp.{added_up, answered}
use Rattle.session_trials.proofs.round_trip.read_runs.Goals as goal

pub returns-clause-rows : goal.returns-clause-rows
returns-clause-rows c =
    let first = c.in_ok-first.first in
    let none : Used = record { rows = 0; name_bytes = 0 } in
    let whole = c.in_ok-push.ensures.items ∙ ap (λ runs. runs ++ first ∷ []) c.new-runs.ensures.items in
    let rows = added_up None c.args.qrels.now none c.args.run.now first (answered first (run_of None c.args.qrels.now none c.args.run.now) c.in_ok-first.ensures.run) in
    let used = ap (λ (u : Used). u.rows) c.used.ensures.value in
    omega (arith, ap total_rows whole, sum_by-cons (λ (run : Run). row_count run.topics) first [], rows, used, c.used.ensures.within.rows)
