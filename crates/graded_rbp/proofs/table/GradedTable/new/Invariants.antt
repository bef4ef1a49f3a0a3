use Rattle.std.proofs.Common.{◌≡◌, ◌+◌, ◌*◌, length}
use Rattle.desk_model.specs.Desk.{pair_count}
use Rattle.graded_rbp.specs.Kept.{all_graded_totals, all_graded_bounds}
use Rattle.graded_rbp.specs.Score.{GradedMeasure, binary}
use Rattle.graded_rbp.proofs.Adding.{up_to}
use Rattle.graded_rbp.proofs.table.GradedTable.new.Given as goal

abbrev pub invariant-loop-done : goal.invariant-loop-done
invariant-loop-done g l = record {
  totals : (m : GradedMeasure) → l.measure ≡ binary m → l.totals.items ≡ all_graded_totals (up_to m l.done) l.desk;
  bounds : (m : GradedMeasure) → l.measure ≡ binary m → l.bounds.items ≡ all_graded_bounds (up_to m l.done) l.desk;
  steps : l.steps ≡ l.initial.steps + pair_count (length l.desk.runs) * length l.desk.topics * l.done;
}
