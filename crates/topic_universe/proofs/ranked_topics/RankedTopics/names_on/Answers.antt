use Rattle.std.proofs.Common.{sym, subst, ◌∙◌}
use Rattle.file_rows.proofs.Places.{at_name, no_place, members_on-none}
use Rattle.topic_universe.specs.Order.{IsTrecOrder}
use Rattle.topic_universe.proofs.ranked_topics.RankedTopics.names_on.Goals as goal

pub at-requires : goal.at-requires
at-requires c = (at_name c.args.self.now c.args.topic.now c.in-Some.t (sym c.place.ensures ∙ c.in-Some.is)).0

pub returns-in-Some : goal.returns-in-Some
returns-in-Some c =
    subst (λ rows. IsTrecOrder rows c.at.result.now) (at_name c.args.self.now c.args.topic.now c.in-Some.t (sym c.place.ensures ∙ c.in-Some.is)).1 c.at.ensures

pub returns-in-None : goal.returns-in-None
returns-in-None c = members_on-none c.args.topic.now c.args.self.now (no_place c.args.topic.now c.args.self.now (sym c.place.ensures ∙ c.in-None.is))
