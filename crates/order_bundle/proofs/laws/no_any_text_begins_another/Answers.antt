use Rattle.std.proofs.Common.{ap, false}
use Rattle.order_bundle.specs.Places.{unscoped}
use Rattle.order_bundle.specs.declared.scoped.Scoped.{Scoped}
use Rattle.order_bundle.proofs.Either.{none_begins_scoped}
use Rattle.order_bundle.proofs.laws.no_any_text_begins_another.Goals as goal

pub returns : goal.returns
returns c bytes more a b ta tb =
    let h = none_begins_scoped false c.measure_of_text_is_unique.ensures bytes more (unscoped a) (unscoped b) ta tb in
    (h.0, ap (λ (s : Scoped). s.body) h.1)
