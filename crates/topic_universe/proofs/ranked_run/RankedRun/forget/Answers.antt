use Rattle.std.proofs.Common.{ap, sym, subst, ◌∙◌, arith}
use Rattle.file_rows.specs.Grouped.{names_of, row_count, rows_in}
use Rattle.file_rows.proofs.Forgetting.{names_of-without_rows, rows_in-forgotten, rows_in-other, row_count-without_rows}
use Rattle.run_reader.specs.Run.{Run, IsRun}
use Rattle.run_reader.proofs.Forgetting.{is_run-without_rows}
use Rattle.topic_universe.proofs.ranked_run.RankedRun.forget.Goals as goal

pub invariant_of-self : goal.invariant_of-self
invariant_of-self c =
    (c.self.invariant.0, subst IsRun (sym c.forget.ensures) (is_run-without_rows c.args.topic.now c.self.inside.topics c.self.invariant.1), c.self.invariant.2)

pub returns-clause-gone : goal.returns-clause-gone
returns-clause-gone c = ap (rows_in c.args.topic.now) c.forget.ensures ∙ rows_in-forgotten c.args.topic.now c.self.inside.topics

pub returns-clause-others : goal.returns-clause-others
returns-clause-others c other differs =
    ap (rows_in other) c.forget.ensures ∙ rows_in-other c.args.topic.now other c.self.inside.topics differs ∙ ap (λ (run : Run). rows_in other run.topics) c.self.view_is

pub returns-clause-topics : goal.returns-clause-topics
returns-clause-topics c =
    ap names_of c.forget.ensures ∙ names_of-without_rows c.args.topic.now c.self.inside.topics ∙ ap (λ (run : Run). names_of run.topics) c.self.view_is

pub returns-clause-rows : goal.returns-clause-rows
returns-clause-rows c =
    let new = ap row_count c.forget.ensures in
    let old = ap (λ (run : Run). row_count run.topics) c.self.view_is in
    omega (arith, new, old, row_count-without_rows c.args.topic.now c.self.inside.topics)
