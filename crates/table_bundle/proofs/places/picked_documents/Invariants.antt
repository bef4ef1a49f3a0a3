use Rattle.std.proofs.Common.{◌≡◌, take}
use Rattle.table_bundle.specs.Drafts.{all_documents, picked_places, picked_topics}
use Rattle.table_bundle.proofs.places.picked_documents.Given as goal

abbrev pub invariant-loop-topic : goal.invariant-loop-topic
invariant-loop-topic l = record {
  topics : l.topics.items ≡ take l.topic (picked_topics l.claims (all_documents l.desk));
  places : l.places.items ≡ take l.topic (picked_places l.claims (all_documents l.desk));
}
