use Rattle.std.proofs.Common.{◌≡◌, ◌+◌, drop}
use Rattle.std.specs.List.{position_from}
use Rattle.topic_ends.proofs.reciprocal.first_relevant.Given as goal

abbrev pub invariant-loop-place : goal.invariant-loop-place
invariant-loop-place g l = position_from (g.T.Relevance.truth l.relevant) 1 l.doc-items ≡ position_from (g.T.Relevance.truth l.relevant) (1 + l.place) (drop l.place l.doc-items)
