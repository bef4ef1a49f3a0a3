use Rattle.std.proofs.Common.{arith}
use Rattle.std.proofs.lemmas.List.Elements.{recursion_from_All}
use Rattle.small_lemmas.proofs.Lists.{all_there}
use Rattle.order_certificate.proofs.LinesOfPlaces.{length_more}
use Rattle.topic_ends.proofs.DeskPlaces.{item_there}
use Rattle.order_bundle.specs.Bundle.{claim_lines}
use Rattle.order_bundle.specs.declared.bundle.PairClaim.{PairClaim}
use Rattle.bundle_verifier.specs.Sizes.{HasFewRows}
use Rattle.bundle_verifier.proofs.lines.claim_line_count.Goals as goal

pub line_count-lines-requires : goal.line_count-lines-requires
line_count-lines-requires c =
    let claims = c.args.claims.now in
    let i = c.loop-claim.claim-index in
    let k = c.claim-item.result in
    all_there (λ (n : PairClaim). HasFewRows n.evidence) claims i k (recursion_from_All (λ (n : PairClaim). HasFewRows n.evidence) claims c.requires.rows) (item_there claims i k c.loop-claim-test.true c.claim-item.is)

pub loop-claim-preserved : goal.loop-claim-preserved
loop-claim-preserved c =
    let claims = c.args.claims.now in
    let i = c.loop-claim.claim-index in
    let k = c.claim-item.result in
    let at = item_there claims i k c.loop-claim-test.true c.claim-item.is in
    record {
      counted = omega (arith, c.loop-claim.invariant.counted, length_more claim_lines claims i k at, c.line_count-lines.ensures.count);
      small = omega (arith, c.loop-claim.invariant.small, c.line_count-lines.ensures.small);
    }
