use Rattle.std.proofs.Common.{◌≡◌, ◌+◌, drop, map}
use Rattle.desk_model.specs.Precisions.{true_ranks}
use Rattle.measure_laws.specs.Parts.{ranked_sum}
use Rattle.topic_ends.specs.PartSums.{IsBefore, whole, worth_of}
use Rattle.topic_ends.proofs.average.sum_in.Given as goal

abbrev pub invariant-loop-doc : goal.invariant-loop-doc
invariant-loop-doc g l = record {
  rank : l.rank ≡ l.doc-index + 1;
  before : IsBefore l.rank l.sum;
  rest : whole (worth_of l.high) l.sum l.rank (map (g.T.Relevance.truth l.relevant) (drop l.doc-index l.docs)) ≡ ranked_sum (worth_of l.high) 1 (true_ranks 1 (map (g.T.Relevance.truth l.relevant) l.docs));
}
