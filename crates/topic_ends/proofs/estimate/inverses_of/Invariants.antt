use Rattle.std.proofs.Common.{◌≡◌, ◌+◌, ◌*◌, ◌≤◌, drop}
use Rattle.desk_model.specs.Limits.{PARTS_OF_ONE}
use Rattle.desk_model.specs.Precisions.{true_ranks}
use Rattle.topic_ends.specs.Candidates.{along, gains_by}
use Rattle.topic_ends.specs.Estimates.{inverse_sum}
use Rattle.topic_ends.proofs.estimate.inverses_of.Given as goal

abbrev pub invariant-loop-doc : goal.invariant-loop-doc
invariant-loop-doc l = record {
  rank : l.rank ≡ l.doc-index + 1;
  rest : l.sum + inverse_sum (true_ranks l.rank (gains_by l.high (along l.run.marks.now (drop l.doc-index l.run.docs.now)) 0)) ≡ inverse_sum (true_ranks 1 (gains_by l.high (along l.run.marks.now l.run.docs.now) 0));
  small : l.sum ≤ l.doc-index * PARTS_OF_ONE;
}
