use Rattle.std.proofs.Common.{◌≡◌, ℕ, ◌*◌, ◌≤◌, take, length, slice_index_or}
use Rattle.rprec.specs.Packed.{pack}
use Rattle.rprec.specs.Sums.{counts_of}
use Rattle.rprec.proofs.sums.sums_of_run.Given as goal

abbrev pub invariant-loop-block : goal.invariant-loop-block
invariant-loop-block l = record {
  number : l.number ≡ pack (counts_of l.run.marks.now (take (10 * l.block) l.run.docs.now));
  long : length l.numbers ≡ 1001;
  each : (block : ℕ) → block ≤ l.block → slice_index_or l.numbers block 0 ≡ pack (counts_of l.run.marks.now (take (10 * block) l.run.docs.now));
}
