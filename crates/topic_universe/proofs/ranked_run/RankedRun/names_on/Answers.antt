use Rattle.std.proofs.Common.{◌≡◌, [], List, ◌≤◌, true, All, length, ap, subst, arith}
use Rattle.std.specs.Prelude.{map, MatchOption}
use Rattle.std.specs.List.{IsDistinct}
use Rattle.std.specs.Str.{bytes_eq}
use Rattle.desk_model.specs.Name.{is_name}
use Rattle.run_reader.specs.declared.limits.TheConstants.{MOST_RANKS}
use Rattle.run_reader.specs.Run.{Run, IsRun}
use Rattle.file_rows.specs.Grouped.{Valued, TopicRows, rows_in}
use Rattle.run_reader.proofs.Right.{rows_in_right}
use Rattle.topic_universe.specs.Order.{IsTrecOrder}
use Rattle.topic_universe.proofs.ranked_run.RankedRun.names_on.Goals as goal

pub returns-clause-distinct : goal.returns-clause-distinct
unfolding IsDistinct
returns-clause-distinct c =
    let right = subst IsRun (ap (λ (run : Run). run.topics) c.self.view_is) c.self.invariant.1 in
    rows_in_right (λ rows. IsDistinct bytes_eq (map (λ (row : Valued). row.document) rows)) tt c.args.self.now.topics right.distinct_documents c.args.topic.now

pub returns-clause-few : goal.returns-clause-few
returns-clause-few c =
    let right = subst IsRun (ap (λ (run : Run). run.topics) c.self.view_is) c.self.invariant.1 in
    rows_in_right (λ rows. length rows ≤ MOST_RANKS) (omega arith) c.args.self.now.topics right.depth c.args.topic.now

pub returns-clause-names : goal.returns-clause-names
returns-clause-names c =
    let right = subst IsRun (ap (λ (run : Run). run.topics) c.self.view_is) c.self.invariant.1 in
    rows_in_right (All (λ row. is_name row.document ≡ true)) (λ k d lt. absurd (omega arith)) c.args.self.now.topics right.documents c.args.topic.now

pub returns-clause-order : goal.returns-clause-order
returns-clause-order c =
    subst (λ (topics : List TopicRows). MatchOption c.names_on.result (rows_in c.args.topic.now topics ≡ []) (λ names. IsTrecOrder (rows_in c.args.topic.now topics) names.now))
    (ap (λ (run : Run). run.topics) c.self.view_is) c.names_on.ensures
