use Rattle.std.specs.List.{zip}
use Rattle.topic_counts.specs.declared.span.Span.{Span}
use Rattle.pair_table.specs.Kept.{without_span}
use Rattle.measure_core.proofs.Filling.{IsRefilled}
use Rattle.pair_table.proofs.sums.take_bounds_back.Given as goal

abbrev pub invariant-loop-run : goal.invariant-loop-run
invariant-loop-run l = record { refilled : IsRefilled (λ (p : Span × Span). without_span p.0 p.1) (λ _. Unit {0}) (zip l.initial.sums l.bounds) l.sums l.initial.sums l.run }
