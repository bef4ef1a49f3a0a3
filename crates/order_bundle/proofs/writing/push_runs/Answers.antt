use Rattle.std.proofs.Common.{refl, arith, map}
use Rattle.line_forms.proofs.Joins.{one_line_more, all_written}
use Rattle.order_bundle.specs.Bundle.{run_line}
use Rattle.order_bundle.proofs.writing.push_runs.Goals as goal

pub loop-run-preserved : goal.loop-run-preserved
loop-run-preserved c =
    let line = rw c.as_bytes.ensures.bytes at c.in_ok-push_line.ensures in
    one_line_more run_line _ _ _ c.args.runs.now c.loop-run.run-index c.run-item.result (omega arith) c.run-item.is c.loop-run.invariant line

pub returns : goal.returns
returns c = all_written (map run_line) _ _ c.args.runs.now c.loop-run.run-index refl (omega arith) c.loop-run.invariant
