use Rattle.std.proofs.Common.{[], ◌∷◌, length, flat_map, arith}
use Rattle.std.specs.Prelude.{codes}
use Rattle.order_bundle.specs.Bundle.{claim_lines}
use Rattle.order_bundle.proofs.Counting.{counted_rows}
use Rattle.order_bundle.proofs.length.from_claims_length.Goals as goal

pub returns-clause-count : goal.returns-clause-count
returns-clause-count c =
    let claims = c.args.claims.now in
    let digits = c.digits.ensures.count in
    omega (arith, digits, c.each_claim_length.ensures.count, counted_rows (codes "claims ") (length claims) (flat_map claim_lines claims) (codes "end" ∷ []))
