use Rattle.desk_model.specs.Verdict.{verdict}
use Rattle.measure_core.proofs.Filling.{IsFilled}
use Rattle.pair_table.proofs.table_sums.fill_verdicts.Given as goal

abbrev pub invariant-loop-place : goal.invariant-loop-place
invariant-loop-place l = record { filled : IsFilled verdict (λ _. Unit {0}) l.totals l.verdicts l.place }
