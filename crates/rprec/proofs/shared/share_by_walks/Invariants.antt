use Rattle.std.proofs.Common.{◌+◌, ◌-◌, ◌≤◌, drop, length}
use Rattle.rprec.proofs.Strands.{AreCountedStrands, is_below, is_above}
use Rattle.rprec.proofs.shared.share_by_walks.Given as goal

abbrev pub invariant-loop-i : goal.invariant-loop-i
invariant-loop-i l = record {
  low_within : l.i ≤ length l.low;
  other_low_within : l.j ≤ length l.other_low;
  high_within : l.k ≤ length l.high;
  other_high_within : l.l ≤ length l.other_high;
  strands : AreCountedStrands l.marks (is_below l.middle) (is_above l.middle) l.known.a.now l.known.b.now (drop l.i l.low) (drop l.j l.other_low) (drop l.k l.high) (drop l.l l.other_high) l.counts;
}

abbrev pub decreases-loop-i : goal.decreases-loop-i
decreases-loop-i l = (length l.low - l.i) + (length l.other_low - l.j)
