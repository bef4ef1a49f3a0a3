use Rattle.order_certificate.specs.Places.{claim_line}
use Rattle.line_forms.proofs.Cuts.{above_free}
use Rattle.line_forms.proofs.Sequel.{read_part, read_none}
use Rattle.order_certificate.proofs.Whole.{evidence_plain}
use Rattle.order_certificate.proofs.places.claim_line.Goals as goal

pub returns-in-Some : goal.returns-in-Some
returns-in-Some c =
    read_part claim_line (λ _. Unit {0}) c.args.lines.now.rest c.in-Some.line.now c.next_line.new.self c.claim_of.result (λ p fits. above_free 10 (claim_line p) (evidence_plain.1 p fits)) c.next_line.ensures.last c.in-Some.ensures.some c.in-Some.ensures.feedless c.claim_of.ensures

pub returns-in-None : goal.returns-in-None
returns-in-None c = read_none claim_line (λ _. Unit {0}) c.args.lines.now.rest c.next_line.new.self.last c.next_line.ensures.last c.in-None.ensures.none
