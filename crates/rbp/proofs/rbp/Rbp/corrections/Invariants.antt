use Rattle.std.proofs.Common.{◌≡◌, ◌+◌, ◌-◌, ◌≤◌, length, drop, ◌+ℤ◌}
use Rattle.measure_laws.specs.Shares.{low_share, high_share}
use Rattle.rbp.specs.Walk.{correction, is_in_least, is_in_most}
use Rattle.rbp.proofs.Walk.{left}
use Rattle.rbp.proofs.rbp.Rbp.corrections.Given as goal

abbrev pub invariant-loop-i : goal.invariant-loop-i
invariant-loop-i l =
    let least_low = correction (low_share l.self.top l.self.bottom) is_in_least in
    let least_high = correction (high_share l.self.top l.self.bottom) is_in_least in
    let most_low = correction (low_share l.self.top l.self.bottom) is_in_most in
    let most_high = correction (high_share l.self.top l.self.bottom) is_in_most in
    record {
      first_in : l.i ≤ length l.first;
      second_in : l.j ≤ length l.second;
      least_lo : l.sums.least.lo +ℤ left least_low l.marks (drop l.i l.first) (drop l.j l.second) ≡ left least_low l.marks l.first l.second;
      least_hi : l.sums.least.hi +ℤ left least_high l.marks (drop l.i l.first) (drop l.j l.second) ≡ left least_high l.marks l.first l.second;
      most_lo : l.sums.most.lo +ℤ left most_low l.marks (drop l.i l.first) (drop l.j l.second) ≡ left most_low l.marks l.first l.second;
      most_hi : l.sums.most.hi +ℤ left most_high l.marks (drop l.i l.first) (drop l.j l.second) ≡ left most_high l.marks l.first l.second;
    }

abbrev pub decreases-loop-i : goal.decreases-loop-i
decreases-loop-i l = (length l.first - l.i) + (length l.second - l.j)
