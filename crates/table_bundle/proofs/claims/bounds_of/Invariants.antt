use Rattle.std.proofs.Common.{◌≡◌, take, map, pos}
use Rattle.std.specs.Prelude.{if◌then◌else◌}
use Rattle.desk_model.specs.Extremes.{Ends}
use Rattle.measure_core.specs.Made.{ends_of}
use Rattle.table_bundle.specs.Drafts.{bounds_by}
use Rattle.table_bundle.proofs.claims.bounds_of.Given as goal

abbrev pub invariant-loop-cell : goal.invariant-loop-cell
invariant-loop-cell l = record {
  made : l.made.items ≡ bounds_by (λ (e : Ends). if l.upper then e.most_hi else pos 0) (map ends_of (take l.cell-index l.cells));
}
