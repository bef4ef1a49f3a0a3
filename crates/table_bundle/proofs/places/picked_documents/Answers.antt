use Rattle.std.proofs.Common.{◌≤◌, length, ◌∙◌, arith}
use Rattle.std.proofs.lemmas.List.{length-map, take_all}
use Rattle.pair_table.proofs.Listing.{grown}
use Rattle.table_bundle.specs.Drafts.{all_documents, picked_places, picked_topics}
use Rattle.table_bundle.proofs.Listed.{whole}
use Rattle.table_bundle.proofs.Replacing.{length-picked, length-places}
use Rattle.table_bundle.proofs.places.picked_documents.Goals as goal

pub loop-topic-preserved : goal.loop-topic-preserved
loop-topic-preserved c =
    record {
      topics = c.in_ok-push.ensures.items ∙ grown _ _ c.loop-topic.topic _ c.in_ok-names.ensures.names c.loop-topic.invariant.topics;
      places = c.in_ok-push-2.ensures.items ∙ grown _ _ c.loop-topic.topic _ c.in_ok-names.ensures.places c.loop-topic.invariant.places;
    }

pub returns-clause-topics : goal.returns-clause-topics
returns-clause-topics c =
    let desk = c.args.desk.now in
    let claims = c.args.claims.now in
    let end : length (picked_topics claims (all_documents desk)) ≤ c.loop-topic.topic = omega (arith, c.loop-topic-test.false, c.topic_count-topic-end.ensures.count, length-picked claims (all_documents desk), length-map desk.topics whole) in
    c.loop-topic.invariant.topics ∙ take_all c.loop-topic.topic _ end

pub returns-clause-places : goal.returns-clause-places
returns-clause-places c =
    let desk = c.args.desk.now in
    let claims = c.args.claims.now in
    let end : length (picked_places claims (all_documents desk)) ≤ c.loop-topic.topic = omega (arith, c.loop-topic-test.false, c.topic_count-topic-end.ensures.count, length-places claims (all_documents desk), length-map desk.topics whole) in
    c.loop-topic.invariant.places ∙ take_all c.loop-topic.topic _ end
