use Rattle.std.proofs.Common.{[], ◌∷◌, ◌++◌, None, ap, ◌∙◌, arith}
use Rattle.std.proofs.lemmas.List.Sums.{sum_by-cons}
use Rattle.run_reader.specs.Run.{Run, run_of}
use Rattle.file_rows.specs.Grouped.{row_count}
use Rattle.run_reader.specs.declared.used.Used.{Used}
use Rattle.topics_pool.specs.Rows.{total_rows}
use Rattle.topics_pool.proofs.AddedUp.{added_up, answered}
use Rattle.graded_trials.proofs.desks.read_runs.Goals as goal

pub returns-clause-rows : goal.returns-clause-rows
returns-clause-rows c =
    let none : Used = record { rows = 0; name_bytes = 0 } in
    let qrels = c.args.qrels.now in
    let first = c.in_ok-first.first in
    let second = c.in_ok-second.second in
    let count = λ (run : Run). row_count run.topics in
    let whole = c.in_ok-push-2.ensures.items ∙ ap (λ runs. runs ++ second ∷ []) (c.in_ok-push.ensures.items ∙ ap (λ runs. runs ++ first ∷ []) c.new-runs.ensures.items) in
    let first_rows = added_up None qrels none c.args.one.now first (answered first (run_of None qrels none c.args.one.now) c.in_ok-first.ensures.run) in
    let second_rows = added_up None qrels c.used.result c.args.other.now second (answered second (run_of None qrels c.used.result c.args.other.now) c.in_ok-second.ensures.run) in
    let used = ap (λ (u : Used). u.rows) c.used.ensures.value in
    let used-2 = ap (λ (u : Used). u.rows) c.used-2.ensures.value in
    omega (arith, ap total_rows whole, sum_by-cons count first (second ∷ []), sum_by-cons count second [], first_rows, second_rows, used, used-2, c.used-2.ensures.within.rows)
