use Rattle.std.specs.List.{zip}
use Rattle.desk_model.specs.declared.types.Totals.{Totals}
use Rattle.measure_core.specs.declared.cell.Cell.{Cell}
use Rattle.pair_table.specs.Kept.{with_cell}
use Rattle.measure_core.proofs.Filling.{IsRefilled}
use Rattle.pair_table.proofs.sums.add_cells.Given as goal

abbrev pub invariant-loop-place : goal.invariant-loop-place
invariant-loop-place l = record { refilled : IsRefilled (λ (p : Totals × Cell). with_cell p.0 p.1) (λ _. Unit {0}) (zip l.initial.totals l.cells) l.totals l.initial.totals l.place }
