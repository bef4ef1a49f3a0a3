use Rattle.std.proofs.Common.{◌≡◌, ◌∙◌, true, List, ℕ, ap, length, sym, subst}
use Rattle.std.specs.Prelude.{IfOk, IfErr}
use Rattle.std.proofs.lemmas.Result.{IfOk-weaker}
use Rattle.order_bundle.specs.Scoped.{IsScoped, IsScopedFault, IsScopedText, IsShortFor, scoped_text}
use Rattle.order_bundle.specs.declared.any_certificate.AnyCertificate.{AnyCertificate}
use Rattle.order_bundle.specs.declared.scoped.Scoped.{Scoped}
use Rattle.order_bundle.proofs.Either.{has_text}
use Rattle.order_bundle.proofs.writing.write_scoped.Goals as goal

-- the text of a certificate by its body
its_text : (s : Scoped) (a : AnyCertificate) (text : List ℕ) → IsScoped s → s.body ≡ a → text ≡ scoped_text (record { depth = s.depth; body = a }) → IsScopedText text s
its_text s a text h is e =
    subst (λ z. IsScopedText z s) (sym (e ∙ ap (λ (b : AnyCertificate). scoped_text (record { depth = s.depth; body = b })) (sym is))) (has_text true s h.scope h.body)

pub returns-in_ok-text-in-One-clause-text : goal.returns-in_ok-text-in-One-clause-text
returns-in_ok-text-in-One-clause-text c = its_text c.args.scoped.now _ c.in_ok-text-in-One.text.items c.requires c.in-One.is c.in_ok-text-in-One.ensures

pub returns-in-Many-clause-text : goal.returns-in-Many-clause-text
returns-in-Many-clause-text c = IfOk-weaker c.bundle_under.result _ _ (λ text e. its_text c.args.scoped.now _ text.items c.requires c.in-Many.is e) c.bundle_under.ensures.text
