use Rattle.std.proofs.Common.{◌≡◌, ◌+◌, Some, true, map, take, drop, ◌+ℤ◌}
use Rattle.desk_model.specs.Score.{gained}
use Rattle.measure_laws.specs.Powers.{high_weight}
use Rattle.measure_laws.specs.Shares.{low_share, high_share}
use Rattle.rbp.specs.Added.{IsUpTo, least_low, least_high, most_low, most_high}
use Rattle.rbp.specs.Walk.{correction, correction_sum, is_in_least, is_in_most}
use Rattle.rbp.proofs.Passed.{from_rank}
use Rattle.rbp.proofs.rbp.Rbp.corrections_by_ranks.Given as goal

abbrev pub invariant-loop-place : goal.invariant-loop-place
invariant-loop-place l =
    let low = low_share l.self.top l.self.bottom in
    let high = high_share l.self.top l.self.bottom in
    record {
      least_lo : least_low l.sums +ℤ from_rank (correction low is_in_least) l.marks l.apart.a.now (l.place + 1) (drop l.place l.apart.b.now) ≡ correction_sum low is_in_least l.marks l.apart.a.now l.apart.b.now;
      least_hi : least_high l.sums +ℤ from_rank (correction high is_in_least) l.marks l.apart.a.now (l.place + 1) (drop l.place l.apart.b.now) ≡ correction_sum high is_in_least l.marks l.apart.a.now l.apart.b.now;
      most_lo : most_low l.sums +ℤ from_rank (correction low is_in_most) l.marks l.apart.a.now (l.place + 1) (drop l.place l.apart.b.now) ≡ correction_sum low is_in_most l.marks l.apart.a.now l.apart.b.now;
      most_hi : most_high l.sums +ℤ from_rank (correction high is_in_most) l.marks l.apart.a.now (l.place + 1) (drop l.place l.apart.b.now) ≡ correction_sum high is_in_most l.marks l.apart.a.now l.apart.b.now;
      small : IsUpTo (gained (λ rank. high_weight l.self.top l.self.bottom (Some rank)) 1 (map (λ _. true) (take l.place l.apart.b.now))) l.sums;
    }
