use Rattle.std.proofs.Common.{◌≡◌, ◌≤◌, take, count_by}
use Rattle.topic_ends.proofs.counts.relevant_by_rank.Given as goal

abbrev pub invariant-loop-doc : goal.invariant-loop-doc
invariant-loop-doc g l = record {
  count : l.count ≡ count_by (g.T.Relevance.truth l.relevant) (take l.doc-index l.doc-items);
  few : l.count ≤ l.doc-index;
}
