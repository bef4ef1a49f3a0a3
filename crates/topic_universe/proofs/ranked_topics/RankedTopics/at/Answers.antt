use Rattle.std.proofs.Common.{sym, subst, arith}
use Rattle.file_rows.proofs.Zipped.{in_place, held}
use Rattle.topic_universe.specs.Order.{IsTrecOrder}
use Rattle.topic_universe.proofs.Topics.{held_in}
use Rattle.topic_universe.proofs.ranked_topics.RankedTopics.at.Goals as goal

pub index-requires : goal.index-requires
index-requires c =
    let lt = in_place (held_in c.self.invariant c.self.view_is) c.args.t c.requires in omega (arith, lt)

pub returns : goal.returns
returns c =
    subst (λ rows. IsTrecOrder rows c.names.result.now) (sym (held (held_in c.self.invariant c.self.view_is) c.args.t c.index.result.now c.requires c.index.ensures)) c.names.ensures
