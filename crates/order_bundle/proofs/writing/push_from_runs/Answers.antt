use Rattle.std.proofs.Common.{length, map}
use Rattle.std.specs.Prelude.{codes}
use Rattle.std.proofs.lemmas.Result.{on_ok_weaker}
use Rattle.order_bundle.specs.Bundle.{number_line, run_line, topics_lines}
use Rattle.order_bundle.proofs.WrittenParts.{line_rows_and_rest}
use Rattle.order_bundle.proofs.writing.push_from_runs.Goals as goal

pub returns : goal.returns
returns c =
    let runs = c.args.runs.now in
    on_ok_weaker c.push_from_topics.result
    (line_rows_and_rest c.args.out.now.items c.push_number_line.new.out.items c.push_runs.new.out.items c.push_from_topics.new.out.items (number_line (codes "runs ") (length runs)) (map run_line runs) (topics_lines c.args.topics.now c.args.claims.now) c.in_ok-push_number_line.ensures c.in_ok-push_runs.ensures) c.push_from_topics.ensures
