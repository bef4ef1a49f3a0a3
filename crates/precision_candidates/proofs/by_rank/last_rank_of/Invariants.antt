use Rattle.std.proofs.Common.{◌≡◌, ◌+◌, drop}
use Rattle.precision_candidates.specs.Cuts.{last_rank}
use Rattle.precision_candidates.proofs.by_rank.last_rank_of.Given as goal

abbrev pub invariant-loop-doc : goal.invariant-loop-doc
invariant-loop-doc l = record {
  rank : l.rank ≡ l.doc-index + 1;
  last : last_rank l.run.marks.now l.last.rank l.rank (drop l.doc-index l.run.docs.now) l.last.left ≡ last_rank l.run.marks.now 0 1 l.run.docs.now l.count;
}
