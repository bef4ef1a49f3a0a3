use Rattle.std.proofs.Common.{◌≡◌, ◌+◌, drop}
use Rattle.topic_ends.specs.Candidates.{along, candidate_sum, gains_by}
use Rattle.topic_ends.specs.PartSums.{IsBefore, whole, worth_of}
use Rattle.topic_ends.proofs.candidate.sum_of.Given as goal

abbrev pub invariant-loop-doc : goal.invariant-loop-doc
invariant-loop-doc l = record {
  rank : l.rank ≡ l.doc-index + 1;
  before : IsBefore l.rank l.sum;
  rest : whole (worth_of l.high) l.sum l.rank (gains_by l.high (along l.run.marks.now (drop l.doc-index l.run.docs.now)) l.left) ≡ candidate_sum l.high (along l.run.marks.now l.run.docs.now) l.fn.count;
}
