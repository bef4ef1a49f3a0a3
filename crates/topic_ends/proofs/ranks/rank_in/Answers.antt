use Rattle.std.proofs.Common.{sym, subst}
use Rattle.measure_laws.specs.Ranks.{IsRankWithin}
use Rattle.measure_laws.proofs.Ranks.{rank_within}
use Rattle.topic_ends.proofs.ranks.rank_in.Goals as goal

pub returns-clause-within : goal.returns-clause-within
returns-clause-within c = subst (IsRankWithin 10000) (sym c.rank_of.ensures) (rank_within c.args.ranking.now 10000 c.args.doc c.requires)
