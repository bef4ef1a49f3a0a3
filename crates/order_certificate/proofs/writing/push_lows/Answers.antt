use Rattle.std.proofs.Common.{refl, arith, map}
use Rattle.order_certificate.specs.Certificate.{low_line}
use Rattle.line_forms.proofs.Joins.{one_line_more, all_written}
use Rattle.order_certificate.proofs.writing.push_lows.Goals as goal

pub loop-bound-preserved : goal.loop-bound-preserved
loop-bound-preserved c = one_line_more low_line _ _ _ c.args.bounds.now c.loop-bound.bound-index c.bound-item.result (omega arith) c.bound-item.is c.loop-bound.invariant c.in_ok-push_low_line.ensures

pub returns : goal.returns
returns c = all_written (map low_line) _ _ c.args.bounds.now c.loop-bound.bound-index refl (omega arith) c.loop-bound.invariant
