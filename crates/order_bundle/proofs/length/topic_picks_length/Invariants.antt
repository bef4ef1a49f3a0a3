use Rattle.std.proofs.Common.{◌≡◌, ◌+◌, ◌*◌, ◌≤◌, drop, flat_map}
use Rattle.order_bundle.specs.Bundle.{picks_lines}
use Rattle.order_bundle.specs.Lengths.{text_length}
use Rattle.order_bundle.proofs.length.topic_picks_length.Given as goal

-- what is counted and what is left to count are all
abbrev pub invariant-loop-lists : goal.invariant-loop-lists
invariant-loop-lists l = record {
  counted : l.bytes + text_length (flat_map picks_lines (drop l.lists-index l.picks)) ≡ text_length (flat_map picks_lines l.picks);
  few : l.bytes ≤ 2300000200 * l.lists-index;
}
