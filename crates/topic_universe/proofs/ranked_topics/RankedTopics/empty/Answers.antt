use Rattle.std.proofs.Common.{refl, arith}
use Rattle.file_rows.proofs.Zipped.{in_place}
use Rattle.file_rows.proofs.Forgetting.{emptied_held}
use Rattle.topic_universe.proofs.Topics.{held_in}
use Rattle.topic_universe.proofs.ranked_topics.RankedTopics.empty.Goals as goal

pub index_mut-ranked-requires : goal.index_mut-ranked-requires
index_mut-ranked-requires c =
    let lt = in_place (held_in c.self.invariant c.self.view_is) c.args.t c.requires in omega (arith, lt)

pub invariant_of-self : goal.invariant_of-self
invariant_of-self c =
    (emptied_held (held_in c.self.invariant c.self.view_is) c.args.t c.index_mut-ranked.result.now c.requires c.index_mut-ranked.ensures.value c.new.result _ _ c.new.ensures refl refl).matched

pub returns : goal.returns
returns c =
    (emptied_held (held_in c.self.invariant c.self.view_is) c.args.t c.index_mut-ranked.result.now c.requires c.index_mut-ranked.ensures.value c.new.result _ _ c.new.ensures refl refl).topics_are
