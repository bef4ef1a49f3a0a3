use Rattle.std.proofs.Common.{◌≡◌, ◌<◌, ℕ, Some, nat_eq, map, take, length, get_or}
use Rattle.desk_model.specs.Mark.{mark_at}
use Rattle.desk_model.specs.Score.{gained}
use Rattle.measure_laws.specs.Powers.{low_weight, high_weight}
use Rattle.rbp.specs.Walk.{number_of}
use Rattle.rbp.proofs.rbp.Rbp.kept_weights.Given as goal

abbrev pub invariant-loop-place : goal.invariant-loop-place
invariant-loop-place l = record {
  low_long : length l.low ≡ 3;
  high_long : length l.high ≡ 3;
  low : (k : ℕ) → k < 3 → get_or l.low k 0 ≡ gained (λ rank. low_weight l.self.top l.self.bottom (Some rank)) 1 (map (λ doc. nat_eq (number_of (mark_at l.marks doc)) k) (take l.place l.docs));
  high : (k : ℕ) → k < 3 → get_or l.high k 0 ≡ gained (λ rank. high_weight l.self.top l.self.bottom (Some rank)) 1 (map (λ doc. nat_eq (number_of (mark_at l.marks doc)) k) (take l.place l.docs));
}
