use Rattle.std.proofs.Common.{◌≡◌, ◌+◌, drop}
use Rattle.precision_candidates.specs.Sums.{IsBefore, whole, worth_of}
use Rattle.precision_candidates.specs.Side.{along, gains_by, candidate_sum}
use Rattle.precision_candidates.proofs.candidate.sum_of.Given as goal

abbrev pub invariant-loop-doc : goal.invariant-loop-doc
invariant-loop-doc l = record {
  rank : l.rank ≡ l.doc-index + 1;
  before : IsBefore l.rank l.sum;
  rest : whole (worth_of l.side.high) l.sum l.rank (gains_by l.side.high (along l.side.marks.now (drop l.doc-index l.side.docs.now)) l.left) ≡ candidate_sum l.side.high (along l.side.marks.now l.side.docs.now) l.fn.count;
}
