use Rattle.std.proofs.Common.{refl, arith, flat_map}
use Rattle.order_certificate.specs.Certificate.{witness_lines}
use Rattle.line_forms.proofs.Joins.{lines_more, all_written}
use Rattle.order_certificate.proofs.writing.push_witnesses.Goals as goal

pub loop-witness-preserved : goal.loop-witness-preserved
loop-witness-preserved c = lines_more witness_lines _ _ _ c.args.witnesses.now c.loop-witness.witness-index c.witness-item.result (omega arith) c.witness-item.is c.loop-witness.invariant c.in_ok-push_witness.ensures

pub returns : goal.returns
returns c = all_written (flat_map witness_lines) _ _ c.args.witnesses.now c.loop-witness.witness-index refl (omega arith) c.loop-witness.invariant
