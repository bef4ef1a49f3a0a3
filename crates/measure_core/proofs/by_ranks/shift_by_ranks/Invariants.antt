use Rattle.std.proofs.Common.{◌+◌, ◌-◌, ◌≤◌, drop, length}
use Rattle.measure_core.specs.Worths.{worths_apart}
use Rattle.measure_core.proofs.Walking.{AreBalanced}
use Rattle.measure_core.proofs.Apart.{apart, none_apart}
use Rattle.measure_core.proofs.by_ranks.shift_by_ranks.Given as goal

abbrev pub invariant-loop-i : goal.invariant-loop-i
invariant-loop-i g l =
    let worth = g.W.RankWorth.worth l.ranks in
    record {
      first_in : l.i ≤ length l.first;
      second_in : l.j ≤ length l.second;
      balanced : AreBalanced (apart worth) (none_apart worth) l.shift (worths_apart worth l.a l.b) l.initial.totals (drop l.i l.first) (drop l.j l.second) l.totals;
    }

abbrev pub decreases-loop-i : goal.decreases-loop-i
decreases-loop-i g l = (length l.first - l.i) + (length l.second - l.j)
