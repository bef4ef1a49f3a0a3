use Rattle.std.proofs.Common.{◌≡◌, ◌+◌, ◌≤◌, take, count_by, true, false}
use Rattle.desk_model.specs.Completion.{with_picked}
use Rattle.topic_counts.proofs.counts.prefix_documents.Given as goal

abbrev pub invariant-loop-doc : goal.invariant-loop-doc
invariant-loop-doc l = record {
  least : l.counts.relevant ≡ count_by (with_picked l.marks (λ _. false)) (take l.doc-index l.doc-items);
  most : l.counts.relevant + l.counts.unjudged ≡ count_by (with_picked l.marks (λ _. true)) (take l.doc-index l.doc-items);
  few : l.counts.relevant + l.counts.unjudged ≤ l.doc-index;
}
