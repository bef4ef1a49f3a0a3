use Rattle.std.proofs.Common.{◌≡◌, ◌*◌, ◌≤◌, ℕ, List, length, flat_map, take}
use Rattle.order_bundle.specs.Bundle.{claim_lines}
use Rattle.order_bundle.specs.declared.bundle.PairClaim.{PairClaim}
use Rattle.bundle_verifier.proofs.lines.claim_line_count.Given as goal

pub record Counted (rows : List PairClaim) (index lines : ℕ) : Type 0 where
  pub counted : lines ≡ length (flat_map claim_lines (take index rows))
  pub small : lines ≤ index * 1000000000001

abbrev pub invariant-loop-claim : goal.invariant-loop-claim
invariant-loop-claim l = Counted l.claims l.claim-index l.lines
