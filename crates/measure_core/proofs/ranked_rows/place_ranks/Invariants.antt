use Rattle.measure_core.proofs.Placing.{ArePlacedTo}
use Rattle.measure_core.proofs.ranked_rows.place_ranks.Given as goal

abbrev pub invariant-loop-place : goal.invariant-loop-place
invariant-loop-place l = ArePlacedTo l.ranking l.place-items l.ranks l.place-index
