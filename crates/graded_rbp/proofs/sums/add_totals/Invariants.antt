use Rattle.std.specs.List.{zip}
use Rattle.desk_model.specs.declared.types.Totals.{Totals}
use Rattle.graded_rbp.specs.Kept.{with_totals}
use Rattle.measure_core.proofs.Filling.{IsRefilled}
use Rattle.graded_rbp.proofs.sums.add_totals.Given as goal

abbrev pub invariant-loop-place : goal.invariant-loop-place
invariant-loop-place l = record { refilled : IsRefilled (λ (p : Totals × Totals). with_totals p.0 p.1) (λ _. Unit {0}) (zip l.initial.totals l.more) l.totals l.initial.totals l.place }
