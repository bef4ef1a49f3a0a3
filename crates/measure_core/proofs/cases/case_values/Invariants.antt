use Rattle.std.proofs.Common.{◌≡◌, ◌<◌, ℕ, length, false, slice_index_or}
use Rattle.desk_model.specs.Completion.{with_picked}
use Rattle.measure_core.proofs.cases.case_values.Given as goal

abbrev pub invariant-loop-place : goal.invariant-loop-place
invariant-loop-place g l = record {
  count : length l.values.items ≡ l.place;
  each : (d : ℕ) → d < l.place → slice_index_or l.values.items d false ≡ with_picked l.marks (g.P.Picks.picks l.picks) d;
}
