use Rattle.std.proofs.lemmas.Result.{err_from_is_err_and}
use Rattle.line_forms.proofs.Sequel.{then_reads, stop_reads}
use Rattle.order_certificate.specs.Places.{evidence_places, from_end}
use Rattle.order_certificate.proofs.Whole.{evidence_plain}
use Rattle.order_certificate.proofs.reading.from_evidence.Goals as goal

pub returns-in_err-evidence : goal.returns-in_err-evidence
returns-in_err-evidence c =
    let p = err_from_is_err_and c.from_residual.result c.from_residual.ensures.1 in
    rw (p.1, p.2) (stop_reads evidence_places (from_end c.args.measure c.args.level c.args.first c.args.second) c.args.lines.now.rest c.evidence.new.lines c.in_err-evidence.field-0.0 evidence_plain c.in_err-evidence.ensures)

pub returns : goal.returns
returns c = then_reads evidence_places (from_end c.args.measure c.args.level c.args.first c.args.second) c.args.lines.now.rest c.evidence.new.lines.rest c.in_ok-evidence.evidence c.from_end.new.lines c.from_end.result evidence_plain c.in_ok-evidence.ensures c.from_end.ensures
