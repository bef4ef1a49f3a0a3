use Rattle.std.proofs.Common.{refl, arith, map}
use Rattle.line_forms.proofs.Joins.{one_line_more, all_written}
use Rattle.order_bundle.specs.Bundle.{pick_line}
use Rattle.order_bundle.proofs.WrittenParts.{same_item}
use Rattle.order_bundle.proofs.writing.push_picks.Goals as goal

pub loop-pick-preserved : goal.loop-pick-preserved
loop-pick-preserved c =
    let picks = c.args.picks.now in
    let i = c.loop-pick.pick-index in
    one_line_more pick_line _ _ _ picks i _ (omega arith) (same_item picks i _ _ (omega arith)) c.loop-pick.invariant c.in_ok-push_pick_line.ensures

pub returns : goal.returns
returns c = all_written (map pick_line) _ _ c.args.picks.now c.loop-pick.pick-index refl (omega arith) c.loop-pick.invariant
