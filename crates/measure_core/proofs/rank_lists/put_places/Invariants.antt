use Rattle.std.proofs.Common.{◌≡◌, ◌+◌, ◌-◌, ◌≤◌, length, take}
use Rattle.measure_core.proofs.Placed.{AreWalked}
use Rattle.measure_core.proofs.rank_lists.put_places.Given as goal

abbrev pub invariant-loop-i : goal.invariant-loop-i
invariant-loop-i g l = record {
  first_in : l.i ≤ length l.first;
  second_in : l.j ≤ length l.second;
  walked : AreWalked l.marks (g.T.RankTest.test l.test) l.first l.second (take l.before l.initial.docs) l.i l.j (take l.count l.docs);
  size : length l.docs ≡ length l.initial.docs;
  room : l.count ≤ l.before + l.j;
}

abbrev pub decreases-loop-i : goal.decreases-loop-i
decreases-loop-i g l = (length l.first - l.i) + (length l.second - l.j)
