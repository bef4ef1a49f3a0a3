use Rattle.std.proofs.Common.{◌≡◌, ◌+◌, ◌≤◌, length}
use Rattle.measure_laws.specs.Candidates.{open_docs}
use Rattle.topic_ends.specs.Estimates.{IsWalk}
use Rattle.topic_ends.proofs.run_bound.start_of.Given as goal

abbrev pub invariant-loop-doc : goal.invariant-loop-doc
invariant-loop-doc l = record {
  rank : l.rank ≡ l.doc-index + 1;
  walk : IsWalk l.high l.run.marks.now l.run.docs.now l.doc-index l.passed;
  best : l.best.count ≤ length (open_docs l.run.marks.now l.run.docs.now);
}
