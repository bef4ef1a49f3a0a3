use Rattle.std.proofs.Common.{◌≡◌, ◌+◌, ◌*◌, ◌≤◌, drop}
use Rattle.desk_model.specs.Limits.{PARTS_OF_ONE}
use Rattle.desk_model.specs.Precisions.{true_ranks}
use Rattle.precision_candidates.specs.Sums.{IsBefore, whole, worth_of}
use Rattle.precision_candidates.specs.Side.{along, gains_by, candidate_sum}
use Rattle.precision_candidates.specs.Walk.{inverse_sum}
use Rattle.precision_candidates.proofs.walk.totals_of.Given as goal

abbrev pub invariant-loop-doc : goal.invariant-loop-doc
invariant-loop-doc l = record {
  rank : l.rank ≡ l.doc-index + 1;
  before : IsBefore l.rank l.far;
  far : whole (worth_of l.side.high) l.far l.rank (gains_by l.side.high (along l.side.marks.now (drop l.doc-index l.side.docs.now)) 0) ≡ candidate_sum l.side.high (along l.side.marks.now l.side.docs.now) 0;
  inverses : l.inverses + inverse_sum (true_ranks l.rank (gains_by l.side.high (along l.side.marks.now (drop l.doc-index l.side.docs.now)) 0)) ≡ inverse_sum (true_ranks 1 (gains_by l.side.high (along l.side.marks.now l.side.docs.now) 0));
  small : l.inverses ≤ l.doc-index * PARTS_OF_ONE;
}
