use Rattle.std.proofs.Common.{◌++◌, ◌∙◌, ap, sym, subst}
use Rattle.order_certificate.specs.Certificate.{certificate_text}
use Rattle.order_certificate.specs.Places.{IsText}
use Rattle.order_certificate.proofs.Whole.{has_text}
use Rattle.order_certificate.proofs.writing.write_certificate.Goals as goal

pub returns : goal.returns
returns c = subst (λ z. IsText z c.args.certificate.now) (sym (c.in_ok-push_certificate.ensures ∙ ap (λ z. z ++ certificate_text c.args.certificate.now) c.new-out.ensures.items)) (has_text c.args.certificate.now c.requires)
