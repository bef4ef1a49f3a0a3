use Rattle.std.proofs.Common.{[], ◌∷◌, ◌++◌, ap, ◌∙◌, arith}
use Rattle.std.proofs.lemmas.List.Sums.{sum_by-cons}
use Rattle.run_reader.specs.Run.{Run}
use Rattle.file_rows.specs.Grouped.{row_count}
use Rattle.run_reader.specs.declared.used.Used.{Used}
use Rattle.topics_pool.specs.Rows.{total_rows}
use Rattle.next_trials.proofs.desks.read_three.Goals as goal

pub returns-clause-rows : goal.returns-clause-rows
returns-clause-rows c =
    let first = c.in_ok-first.first in
    let second = c.in_ok-second.second in
    let third = c.in_ok-third.third in
    let count = λ (run : Run). row_count run.topics in
    let whole = c.in_ok-push-3.ensures.items ∙ ap (λ runs. runs ++ third ∷ [])
    (c.in_ok-push-2.ensures.items ∙ ap (λ runs. runs ++ second ∷ []) (c.in_ok-push.ensures.items ∙ ap (λ runs. runs ++ first ∷ []) c.new-runs.ensures.items)) in
    let used = ap (λ (u : Used). u.rows) c.used.ensures.value in
    let used-2 = ap (λ (u : Used). u.rows) c.used-2.ensures.value in
    let used-3 = ap (λ (u : Used). u.rows) c.used-3.ensures.value in
    let sum = ap total_rows whole in
    omega (
      arith,
      sum,
      sum_by-cons count first (second ∷ third ∷ []),
      sum_by-cons count second (third ∷ []),
      sum_by-cons count third [],
      c.in_ok-first.ensures,
      c.in_ok-second.ensures,
      c.in_ok-third.ensures,
      used,
      used-2,
      used-3,
      c.used-3.ensures.within.rows,
    )
