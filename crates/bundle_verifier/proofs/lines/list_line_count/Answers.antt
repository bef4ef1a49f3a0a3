use Rattle.std.proofs.Common.{length, ap, arith}
use Rattle.std.proofs.lemmas.List.Elements.{recursion_from_All}
use Rattle.small_lemmas.proofs.Lists.{all_there}
use Rattle.order_certificate.proofs.LinesOfPlaces.{length_more}
use Rattle.topic_ends.proofs.DeskPlaces.{item_there}
use Rattle.order_bundle.specs.Bundle.{picks_lines}
use Rattle.bundle_verifier.specs.Sizes.{HasFewPicks}
use Rattle.bundle_verifier.proofs.Counted.{length-picks_lines}
use Rattle.bundle_verifier.proofs.lines.list_line_count.Goals as goal

pub loop-list-preserved : goal.loop-list-preserved
loop-list-preserved c =
    let lists = c.args.lists.now in
    let i = c.loop-list.list-index in
    let p = c.list-item.result in
    let at = item_there lists i p c.loop-list-test.true c.list-item.is in
    let few = all_there HasFewPicks lists i p (recursion_from_All HasFewPicks lists c.requires.picks) at in
    let low = ap length c.as_slice.ensures in
    let high = ap length c.as_slice-in-loop-list.ensures in
    record {
      counted = omega (arith, c.loop-list.invariant.counted, length_more picks_lines lists i p at, length-picks_lines p, low, high);
      small = let few_low = few.0 in let few_high = few.1 in omega (arith, c.loop-list.invariant.small, few_low, few_high, low, high);
    }
