use Rattle.std.proofs.Common.{refl, arith, map}
use Rattle.line_forms.proofs.Joins.{one_line_more, all_written}
use Rattle.order_bundle.specs.Bundle.{both_bounds_line}
use Rattle.order_bundle.proofs.WrittenParts.{same_item}
use Rattle.order_bundle.proofs.writing.push_both_bounds.Goals as goal

pub loop-bound-preserved : goal.loop-bound-preserved
loop-bound-preserved c =
    let bounds = c.args.bounds.now in
    let i = c.loop-bound.bound-index in
    one_line_more both_bounds_line _ _ _ bounds i _ (omega arith) (same_item bounds i _ _ (omega arith)) c.loop-bound.invariant c.in_ok-push_both_bounds_line.ensures

pub returns : goal.returns
returns c = all_written (map both_bounds_line) _ _ c.args.bounds.now c.loop-bound.bound-index refl (omega arith) c.loop-bound.invariant
