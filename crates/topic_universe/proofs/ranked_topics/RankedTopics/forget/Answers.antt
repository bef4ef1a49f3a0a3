use Rattle.std.proofs.Common.{sym, ◌∙◌}
use Rattle.file_rows.proofs.Forgetting.{emptied_at, absent}
use Rattle.file_rows.proofs.Places.{at_name}
use Rattle.topic_universe.proofs.ranked_topics.RankedTopics.forget.Goals as goal

pub empty-requires : goal.empty-requires
empty-requires c = (at_name c.args.self.now c.args.topic.now c.in-Some.t (sym c.place.ensures ∙ c.in-Some.is)).0

pub returns-in-Some : goal.returns-in-Some
returns-in-Some c = c.empty.ensures ∙ emptied_at c.args.topic.now c.args.self.now c.in-Some.t (sym c.place.ensures ∙ c.in-Some.is)

pub returns-in-None : goal.returns-in-None
returns-in-None c = absent c.args.topic.now c.args.self.now (sym c.place.ensures ∙ c.in-None.is)
