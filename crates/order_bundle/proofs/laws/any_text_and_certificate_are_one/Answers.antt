use Rattle.std.proofs.Common.{ap, false}
use Rattle.order_bundle.specs.Places.{unscoped}
use Rattle.order_bundle.specs.declared.scoped.Scoped.{Scoped}
use Rattle.order_bundle.proofs.Either.{one_scoped, one_text}
use Rattle.order_bundle.proofs.laws.any_text_and_certificate_are_one.Goals as goal

pub returns-clause-certificate : goal.returns-clause-certificate
returns-clause-certificate c bytes a b ta tb = ap (λ (s : Scoped). s.body) (one_scoped false c.measure_of_text_is_unique.ensures bytes (unscoped a) (unscoped b) ta tb)

pub returns-clause-text : goal.returns-clause-text
returns-clause-text c x y a = one_text false x y (unscoped a)
