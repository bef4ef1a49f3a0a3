use Rattle.std.proofs.Common.{◌≡◌, ◌<◌, ◌-◌, ℕ, length, false, count_by, slice_index_or}
use Rattle.std.specs.List.{range_with_len}
use Rattle.desk_model.specs.Completion.{with_picked}
use Rattle.measure_laws.specs.Classes.{open_in}
use Rattle.measure_laws.specs.Prefixes.{only_second, neutral}
use Rattle.rprec.specs.Picks.{picks}
use Rattle.rprec.proofs.values.values.Given as goal

abbrev pub invariant-loop-place : goal.invariant-loop-place
invariant-loop-place l = record {
  count : length l.values.items ≡ l.place;
  second : l.left.second ≡ l.initial.left.second - count_by (open_in l.marks (only_second l.count l.a l.b)) (range_with_len 0 l.place);
  both : l.left.both ≡ l.initial.left.both - count_by (open_in l.marks (neutral l.count l.a l.b)) (range_with_len 0 l.place);
  first : l.left.first ≡ l.initial.left.first - count_by (open_in l.marks (only_second l.count l.b l.a)) (range_with_len 0 l.place);
  each : (d : ℕ) → d < l.place → slice_index_or l.values.items d false ≡ with_picked l.marks (picks l.initial.left l.marks l.a l.b l.count) d;
}
