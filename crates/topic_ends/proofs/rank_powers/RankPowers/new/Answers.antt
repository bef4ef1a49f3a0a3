use Rattle.measure_laws.proofs.Weights.{persistence-small}
use Rattle.topic_ends.proofs.rank_powers.RankPowers.new.Goals as goal

pub new-requires-clause-small : goal.new-requires-clause-small
new-requires-clause-small c = persistence-small c.args.top c.args.bottom c.requires
