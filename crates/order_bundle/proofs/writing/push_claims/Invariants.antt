use Rattle.std.proofs.Common.{◌≡◌, ◌++◌, drop, flat_map}
use Rattle.line_forms.specs.Form.{text_of}
use Rattle.order_bundle.specs.Bundle.{claim_lines}
use Rattle.order_bundle.proofs.writing.push_claims.Given as goal

-- what is written and what is left to write are all
abbrev pub invariant-loop-claim : goal.invariant-loop-claim
invariant-loop-claim l = l.out.items ++ text_of (flat_map claim_lines (drop l.claim-index l.claims)) ≡ l.fn.out.items ++ text_of (flat_map claim_lines l.claims)
