use Rattle.std.proofs.Common.{refl, arith, map}
use Rattle.order_certificate.specs.Certificate.{document_line}
use Rattle.line_forms.proofs.Joins.{one_line_more, all_written}
use Rattle.order_certificate.proofs.writing.push_documents.Goals as goal

pub loop-name-preserved : goal.loop-name-preserved
loop-name-preserved c =
    let line = rw c.as_bytes.ensures.bytes at c.in_ok-push_line.ensures in
    one_line_more document_line _ _ _ c.args.names.now c.loop-name.name-index c.name-item.result (omega arith) c.name-item.is c.loop-name.invariant line

pub returns : goal.returns
returns c = all_written (map document_line) _ _ c.args.names.now c.loop-name.name-index refl (omega arith) c.loop-name.invariant
