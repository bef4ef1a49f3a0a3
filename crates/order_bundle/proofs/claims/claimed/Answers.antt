use Rattle.std.proofs.lemmas.Result.{err_from_is_err_and}
use Rattle.line_forms.specs.Form.{Whole}
use Rattle.line_forms.proofs.Sequel.{stop_reads, made_reads}
use Rattle.order_bundle.specs.Places.{evidence_places}
use Rattle.order_bundle.proofs.ClaimRows.{claim_of, evidence_plain}
use Rattle.order_bundle.proofs.claims.claimed.Goals as goal

pub returns-in_err-evidence : goal.returns-in_err-evidence
returns-in_err-evidence c =
    let p = err_from_is_err_and c.from_residual.result c.from_residual.ensures.1 in
    let h = c.args.head in
    rw (p.1, p.2) (stop_reads (evidence_places c.args.topics.now h.claim) (λ e. Whole (claim_of h e)) c.args.lines.now.rest c.evidence.new.lines c.in_err-evidence.field-0.0 (evidence_plain c.args.topics.now c.requires h.claim) c.in_err-evidence.ensures)

pub returns : goal.returns
returns c = made_reads (evidence_places c.args.topics.now c.args.head.claim) (claim_of c.args.head) c.args.lines.now.rest c.evidence.new.lines.rest c.in_ok-evidence.evidence c.in_ok-evidence.ensures
