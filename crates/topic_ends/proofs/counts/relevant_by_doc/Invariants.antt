use Rattle.std.proofs.Common.{◌≡◌, ◌+◌, drop}
use Rattle.desk_model.specs.Score.{true_among}
use Rattle.topic_ends.proofs.ByDocument.{counted}
use Rattle.topic_ends.proofs.counts.relevant_by_doc.Given as goal

-- those counted and those from the place on are all
abbrev pub invariant-loop-place : goal.invariant-loop-place
invariant-loop-place g l = l.count + counted (g.T.Relevance.truth l.relevant) l.k (g.T.Relevance.universe l.relevant) (drop l.place-index l.place-items) ≡ true_among (g.T.Relevance.truth l.relevant) l.k l.ranking
