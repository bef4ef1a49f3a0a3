use Rattle.std.proofs.Common.{refl, arith, flat_map}
use Rattle.line_forms.proofs.Joins.{lines_more, all_written}
use Rattle.order_bundle.specs.Bundle.{claim_lines}
use Rattle.order_bundle.proofs.writing.push_claims.Goals as goal

pub loop-claim-preserved : goal.loop-claim-preserved
loop-claim-preserved c = lines_more claim_lines _ _ _ c.args.claims.now c.loop-claim.claim-index c.claim-item.result (omega arith) c.claim-item.is c.loop-claim.invariant c.in_ok-push_claim.ensures

pub returns : goal.returns
returns c = all_written (flat_map claim_lines) _ _ c.args.claims.now c.loop-claim.claim-index refl (omega arith) c.loop-claim.invariant
