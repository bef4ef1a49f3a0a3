use Rattle.std.proofs.Common.{◌≡◌, ◌+◌}
use Rattle.topic_ends.specs.Estimates.{IsBestSoFar, IsWalk}
use Rattle.topic_ends.proofs.run_bound.bound.Given as goal

abbrev pub invariant-loop-doc : goal.invariant-loop-doc
invariant-loop-doc l = record {
  rank : l.rank ≡ l.doc-index + 1;
  walk : IsWalk l.high l.run.marks.now l.run.docs.now l.doc-index l.passed;
  best : IsBestSoFar l.high l.run.marks.now l.run.docs.now l.passed.unjudged l.best;
}
