use Rattle.std.proofs.Common.{length, ap, arith}
use Rattle.std.proofs.lemmas.List.Elements.{recursion_from_All}
use Rattle.small_lemmas.proofs.Lists.{all_there}
use Rattle.order_certificate.proofs.LinesOfPlaces.{length_more}
use Rattle.topic_ends.proofs.DeskPlaces.{item_there}
use Rattle.order_certificate.specs.Certificate.{AreDocuments}
use Rattle.order_bundle.specs.Bundle.{topic_lines}
use Rattle.order_bundle.specs.declared.bundle.TopicNames.{TopicNames}
use Rattle.bundle_verifier.proofs.Counted.{length-topic_lines}
use Rattle.bundle_verifier.proofs.lines.topic_line_count.Goals as goal

pub loop-topic-preserved : goal.loop-topic-preserved
loop-topic-preserved c =
    let topics = c.args.topics.now in
    let i = c.loop-topic.topic-index in
    let t = c.topic-item.result in
    let at = item_there topics i t c.loop-topic-test.true c.topic-item.is in
    let few = all_there (λ (n : TopicNames). AreDocuments n.docs) topics i t (recursion_from_All (λ (n : TopicNames). AreDocuments n.docs) topics c.requires.docs) at in
    let most = few.count in
    let docs = ap length c.as_slice.ensures in
    record {
      counted = omega (arith, c.loop-topic.invariant.counted, length_more topic_lines topics i t at, length-topic_lines t, docs);
      small = omega (arith, c.loop-topic.invariant.small, most, docs);
    }
