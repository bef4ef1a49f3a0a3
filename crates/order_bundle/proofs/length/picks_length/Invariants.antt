use Rattle.std.proofs.Common.{◌≡◌, ◌+◌, ◌*◌, ◌≤◌, drop, map}
use Rattle.order_bundle.specs.Bundle.{pick_line}
use Rattle.order_bundle.specs.Lengths.{text_length}
use Rattle.order_bundle.proofs.length.picks_length.Given as goal

-- what is counted and what is left to count are all
abbrev pub invariant-loop-pick : goal.invariant-loop-pick
invariant-loop-pick l = record {
  counted : l.bytes + text_length (map pick_line (drop l.pick-index l.picks)) ≡ text_length (map pick_line l.picks);
  few : l.bytes ≤ 46 * l.pick-index;
}
