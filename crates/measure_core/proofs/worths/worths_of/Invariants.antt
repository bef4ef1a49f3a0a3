use Rattle.std.proofs.Common.{◌≡◌, ℕ, ◌<◌, length, get_or}
use Rattle.measure_core.specs.Worths.{rank_or_none}
use Rattle.measure_core.proofs.worths.worths_of.Given as goal

abbrev pub invariant-loop-rank : goal.invariant-loop-rank
invariant-loop-rank g l = record {
  count : length l.worths.items ≡ l.rank;
  each : (rank : ℕ) → rank < l.rank → get_or l.worths.items rank 0 ≡ g.W.RankWorth.worth l.ranks (rank_or_none rank);
}
