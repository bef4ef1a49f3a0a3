use Rattle.std.proofs.Common.{◌-◌, ◌+◌, ◌≤◌, ℕ, Bool, List, drop, length}
use Rattle.rprec.specs.Walk.{IsCountedWalk}
use Rattle.rprec.proofs.shared.walk.Given as goal

abbrev pub invariant-loop-i : goal.invariant-loop-i
invariant-loop-i l = record {
  first_within : l.i ≤ length l.first;
  second_within : l.j ≤ length l.second;
  walk : (part elsewhere : ℕ → Bool) (xs ys : List ℕ) → IsCountedWalk l.marks part elsewhere xs ys (drop l.fn.from_first l.fn.first) (drop l.fn.from_second l.fn.second) l.initial.counts → IsCountedWalk l.marks part elsewhere xs ys (drop l.i l.first) (drop l.j l.second) l.counts;
}

abbrev pub decreases-loop-i : goal.decreases-loop-i
decreases-loop-i l = (length l.first - l.i) + (length l.second - l.j)
