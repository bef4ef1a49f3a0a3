use Rattle.std.proofs.Common.{length, flat_map, arith}
use Rattle.std.specs.Prelude.{codes}
use Rattle.order_bundle.specs.Bundle.{claims_lines, topic_lines}
use Rattle.order_bundle.proofs.Counting.{counted_rows, topics_are_few, topics_have_few}
use Rattle.order_bundle.proofs.length.from_topics_length.Goals as goal

pub each_topic_length-requires-clause-count : goal.each_topic_length-requires-clause-count
each_topic_length-requires-clause-count c = topics_are_few c.args.topics.now c.requires.topics

pub each_topic_length-requires-clause-few : goal.each_topic_length-requires-clause-few
each_topic_length-requires-clause-few c = topics_have_few c.args.topics.now c.requires.topics

pub returns-clause-count : goal.returns-clause-count
returns-clause-count c =
    let topics = c.args.topics.now in
    let digits = c.digits.ensures.count in
    omega (arith, digits, c.each_topic_length.ensures.count, c.from_claims_length.ensures.count, counted_rows (codes "topics ") (length topics) (flat_map topic_lines topics) (claims_lines c.args.claims.now))
