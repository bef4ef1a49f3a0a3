use Rattle.std.proofs.lemmas.Result.{err_from_is_err_and}
use Rattle.line_forms.proofs.Sequel.{then_reads, stop_reads}
use Rattle.order_certificate.specs.Places.{claim_place, claim_places}
use Rattle.order_certificate.proofs.Whole.{claim_plain}
use Rattle.order_certificate.proofs.topics.evidence.Goals as goal

pub returns-in_err-claim : goal.returns-in_err-claim
returns-in_err-claim c =
    let p = err_from_is_err_and c.from_residual.result c.from_residual.ensures.1 in
    rw (p.1, p.2) (stop_reads claim_place claim_places c.args.lines.now.rest c.claim_line.new.lines c.in_err-claim.field-0.0 claim_plain c.in_err-claim.ensures)

pub returns : goal.returns
returns c = then_reads claim_place claim_places c.args.lines.now.rest c.claim_line.new.lines.rest c.in_ok-claim.claim c.claimed.new.lines c.claimed.result claim_plain c.in_ok-claim.ensures c.claimed.ensures
