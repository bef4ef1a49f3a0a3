use Rattle.std.proofs.Common.{◌≡◌, map, take, pos}
use Rattle.std.specs.Prelude.{if◌then◌else◌}
use Rattle.desk_model.specs.Extremes.{Ends}
use Rattle.measure_core.specs.Made.{ends_of}
use Rattle.pair_table.specs.Evidence.{bounds_of}
use Rattle.pair_table.proofs.certificates.bounds_of_cells.Given as goal

abbrev pub invariant-loop-topic : goal.invariant-loop-topic
invariant-loop-topic l = record {
  made : l.bounds.items ≡ take l.topic (bounds_of (λ (e : Ends). if l.upper then e.most_hi else pos 0) l.desk (map ends_of l.cells));
}
