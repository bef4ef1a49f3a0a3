use Rattle.std.specs.List.{zip}
use Rattle.topic_counts.specs.declared.span.Span.{Span}
use Rattle.pair_table.specs.Kept.{with_span}
use Rattle.measure_core.proofs.Filling.{IsRefilled}
use Rattle.graded_rbp.proofs.sums.add_bounds.Given as goal

abbrev pub invariant-loop-run : goal.invariant-loop-run
invariant-loop-run l = record { refilled : IsRefilled (λ (p : Span × Span). with_span p.0 p.1) (λ _. Unit {0}) (zip l.initial.bounds l.more) l.bounds l.initial.bounds l.run }
