use Rattle.std.proofs.Common.{◌-◌, length}
use Rattle.order_verifier.proofs.search.number_ranked.Given as goal

abbrev pub decreases-loop-place : goal.decreases-loop-place
decreases-loop-place l = length l.ranked - l.place
