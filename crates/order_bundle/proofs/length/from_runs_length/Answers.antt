use Rattle.std.proofs.Common.{length, map, arith}
use Rattle.std.specs.Prelude.{codes}
use Rattle.order_bundle.specs.Bundle.{run_line, topics_lines}
use Rattle.order_bundle.proofs.Counting.{counted_rows}
use Rattle.order_bundle.proofs.length.from_runs_length.Goals as goal

pub returns-clause-count : goal.returns-clause-count
returns-clause-count c =
    let runs = c.args.runs.now in
    let digits = c.digits.ensures.count in
    omega (arith, digits, c.names_length.ensures.count, c.from_topics_length.ensures.count, counted_rows (codes "runs ") (length runs) (map run_line runs) (topics_lines c.args.topics.now c.args.claims.now))
