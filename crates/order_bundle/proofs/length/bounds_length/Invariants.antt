use Rattle.std.proofs.Common.{◌≡◌, ◌+◌, ◌*◌, ◌≤◌, drop, map}
use Rattle.order_bundle.specs.Bundle.{bound_line}
use Rattle.order_bundle.specs.Lengths.{text_length}
use Rattle.order_bundle.proofs.length.bounds_length.Given as goal

-- what is counted and what is left to count are all
abbrev pub invariant-loop-bound : goal.invariant-loop-bound
invariant-loop-bound l = record {
  counted : l.bytes + text_length (map bound_line (drop l.bound-index l.bounds)) ≡ text_length (map bound_line l.bounds);
  few : l.bytes ≤ 100 * l.bound-index;
}
