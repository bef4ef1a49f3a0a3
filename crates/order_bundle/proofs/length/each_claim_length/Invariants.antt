use Rattle.std.proofs.Common.{◌≡◌, ◌+◌, ◌*◌, ◌≤◌, drop, flat_map}
use Rattle.order_bundle.specs.Bundle.{claim_lines}
use Rattle.order_bundle.specs.Lengths.{text_length}
use Rattle.order_bundle.proofs.length.each_claim_length.Given as goal

-- what is counted and what is left to count are all
abbrev pub invariant-loop-claim : goal.invariant-loop-claim
invariant-loop-claim l = record {
  counted : l.bytes + text_length (flat_map claim_lines (drop l.claim-index l.claims)) ≡ text_length (flat_map claim_lines l.claims);
  few : l.bytes ≤ 23000002000200 * l.claim-index;
}
