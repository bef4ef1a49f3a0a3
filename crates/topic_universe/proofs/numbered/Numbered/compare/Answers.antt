use Rattle.std.proofs.Common.{sym, ap₂, ◌∙◌}
use Rattle.desk_model.specs.Name.{name_cmp}
use Rattle.topic_universe.specs.Sorted.{Numbered}
use Rattle.topic_universe.proofs.Starts.{starts_decide}
use Rattle.topic_universe.proofs.numbered.Numbered.compare.Goals as goal

pub returns-in_default : goal.returns-in_default
returns-in_default c =
    starts_decide c.self.inside.name.now c.other.inside.name.now c.self.inside.start c.other.inside.start c.self.invariant c.other.invariant c.cmp.result (sym c.cmp.ensures) c.in_default.not-Equal
    ∙ ap₂ (λ (a b : Numbered). name_cmp a.0.now b.0.now) c.self.view_is c.other.view_is
