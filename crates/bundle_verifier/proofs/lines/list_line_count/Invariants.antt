use Rattle.std.proofs.Common.{◌≡◌, ◌*◌, ◌≤◌, ℕ, List, length, flat_map, take}
use Rattle.order_bundle.specs.Bundle.{picks_lines}
use Rattle.order_bundle.specs.declared.bundle.Picks.{Picks}
use Rattle.bundle_verifier.proofs.lines.list_line_count.Given as goal

pub record Counted (rows : List Picks) (index lines : ℕ) : Type 0 where
  pub counted : lines ≡ length (flat_map picks_lines (take index rows))
  pub small : lines ≤ index * 50000002

abbrev pub invariant-loop-list : goal.invariant-loop-list
invariant-loop-list l = Counted l.lists l.list-index l.lines
