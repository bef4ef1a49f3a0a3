use Rattle.std.proofs.Common.{◌≡◌, ℕ, ◌*◌, ◌<◌, ◌≤◌, take, length, sum, slice_index_or}
use Rattle.rprec.proofs.sums.sum_shared.Given as goal

abbrev pub invariant-loop-block : goal.invariant-loop-block
invariant-loop-block l = record {
  number : l.number ≡ sum (take (10 * l.block) l.counts);
  long : l.depth < 10 * length l.sums;
  each : (block : ℕ) → block ≤ l.block → slice_index_or l.sums block 0 ≡ sum (take (10 * block) l.counts);
}
