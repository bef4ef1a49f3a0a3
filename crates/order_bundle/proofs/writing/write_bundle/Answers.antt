use Rattle.std.proofs.Common.{◌∙◌, ap, length, sym, subst, ◌≤◌}
use Rattle.std.proofs.lemmas.Result.{IfOk-weaker, IfErr-weaker}
use Rattle.order_bundle.specs.Bundle.{Bundle}
use Rattle.order_bundle.specs.Places.{IsBundleText, unscoped}
use Rattle.order_bundle.specs.Scoped.{IsScopedFault}
use Rattle.order_bundle.specs.Writing.{IsWritingFault, TEXT_LIMIT}
use Rattle.order_bundle.specs.declared.any_certificate.AnyCertificate.TheVariants.{Many}
use Rattle.order_bundle.specs.declared.writing.BundleFault.{BundleFault}
use Rattle.order_bundle.specs.declared.writing.BundleFault.TheVariants.{TooLong, Memory}
use Rattle.order_bundle.proofs.Either.{any_has_text, unscoped_text}
use Rattle.order_bundle.proofs.writing.write_bundle.Goals as goal

-- without a depth the length is that of the bundle
same_fault : (b : Bundle) (fault : BundleFault) → IsScopedFault (unscoped (Many b)) fault → IsWritingFault b fault
same_fault b (TooLong bytes) h = (h.0 ∙ ap length (unscoped_text (Many b)), h.1)
same_fault b Memory h = subst (λ z. length z ≤ TEXT_LIMIT) (unscoped_text (Many b)) h

pub returns-clause-text : goal.returns-clause-text
returns-clause-text c =
    let b = c.args.bundle.now in
    IfOk-weaker c.bundle_under.result _ _ (λ text e. subst (λ z. IsBundleText z b) (sym (e ∙ unscoped_text (Many b))) (any_has_text (Many b) c.valid.ensures)) c.bundle_under.ensures.text

pub returns-clause-fault : goal.returns-clause-fault
returns-clause-fault c = IfErr-weaker c.bundle_under.result _ _ (same_fault c.args.bundle.now) c.bundle_under.ensures.fault
