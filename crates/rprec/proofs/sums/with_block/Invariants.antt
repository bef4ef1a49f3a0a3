use Rattle.std.proofs.Common.{◌≡◌, take, sum}
use Rattle.rprec.proofs.sums.with_block.Given as goal

abbrev pub invariant-loop-place : goal.invariant-loop-place
invariant-loop-place l = l.longer ≡ sum (take l.place l.counts)
