use Rattle.std.proofs.Common.{◌≡◌, ◌+◌}
use Rattle.precision_candidates.specs.Walk.{IsBestSoFar, IsWalk}
use Rattle.precision_candidates.proofs.pruned.pruned.Given as goal

abbrev pub invariant-loop-doc : goal.invariant-loop-doc
invariant-loop-doc l = record {
  rank : l.rank ≡ l.doc-index + 1;
  walk : IsWalk l.side.high l.side.marks.now l.side.docs.now l.doc-index l.walk;
  best : IsBestSoFar l.side.high l.side.marks.now l.side.docs.now l.walk.passed l.best;
}
