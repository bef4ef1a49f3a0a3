use Rattle.std.proofs.Common.{◌++◌, codes}
use Rattle.std.proofs.lemmas.Result.{on_ok_weaker}
use Rattle.order_certificate.specs.Certificate.{evidence_lines}
use Rattle.order_certificate.proofs.Joins.{runs_and_evidence}
use Rattle.order_certificate.proofs.writing.push_from_first.Goals as goal

pub returns : goal.returns
returns c =
    let it = c.args.certificate.now in
    let runs = rw (c.as_bytes.ensures.bytes, c.as_bytes-2.ensures.bytes) at c.in_ok-push_runs.ensures in
    on_ok_weaker c.push_line.result (runs_and_evidence c.args.out.now.items c.push_runs.new.out.items c.push_evidence.new.out.items c.push_line.new.out.items
    (evidence_lines it.evidence) (codes "first " ++ it.first) (codes "second " ++ it.second) (codes "end") runs c.in_ok-push_evidence.ensures) c.push_line.ensures
