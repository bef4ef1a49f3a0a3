use Rattle.std.proofs.Common.{◌≡◌, ◌+◌, ◌≤◌, length}
use Rattle.measure_laws.specs.Candidates.{open_docs}
use Rattle.precision_candidates.specs.Walk.{IsWalk}
use Rattle.precision_candidates.proofs.pruned.first_guess.Given as goal

abbrev pub invariant-loop-doc : goal.invariant-loop-doc
invariant-loop-doc l = record {
  rank : l.rank ≡ l.doc-index + 1;
  walk : IsWalk l.side.high l.side.marks.now l.side.docs.now l.doc-index l.walk;
  best : l.best.count ≤ length (open_docs l.side.marks.now l.side.docs.now);
}
