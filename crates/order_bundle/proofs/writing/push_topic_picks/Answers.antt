use Rattle.std.proofs.Common.{refl, arith, flat_map}
use Rattle.line_forms.proofs.Joins.{lines_more, all_written}
use Rattle.order_bundle.specs.Bundle.{picks_lines}
use Rattle.order_bundle.proofs.writing.push_topic_picks.Goals as goal

pub loop-lists-preserved : goal.loop-lists-preserved
loop-lists-preserved c = lines_more picks_lines _ _ _ c.args.picks.now c.loop-lists.lists-index c.lists-item.result (omega arith) c.lists-item.is c.loop-lists.invariant c.in_ok-push_lists.ensures

pub returns : goal.returns
returns c = all_written (flat_map picks_lines) _ _ c.args.picks.now c.loop-lists.lists-index refl (omega arith) c.loop-lists.invariant
