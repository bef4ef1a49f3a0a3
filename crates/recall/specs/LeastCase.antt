-- The least case of recall in counts of documents.
use Rattle.std.specs.Prelude.{ℕ, ◌+◌, ◌-◌, true, false, nat_lt, if◌then◌else◌, List, length, take}
use Rattle.desk_model.specs.Classes.{only_count}
use Rattle.desk_model.specs.Completion.{with_picked}
use Rattle.desk_model.specs.Ranking.{IsRanking}
use Rattle.desk_model.specs.Score.{true_count}
use Rattle.desk_model.specs.declared.types.Mark.{Mark}
use Rattle.topic_counts.specs.declared.counts.Counts.{Counts}
use Rattle.topic_counts.specs.Own.{AreCountsOf}

-- the counts of the documents that each of two rankings alone has among its first k, and of all documents
pub record AreCounts (k : ℕ) (marks : List Mark) (a b : List ℕ) (own other topic : Counts) : Type 0 where
  pub ranking_first : IsRanking (length marks) a
  pub ranking_second : IsRanking (length marks) b
  pub first : AreCountsOf (only_count false marks (take k a) (take k b)) (only_count true marks (take k a) (take k b)) own
  pub second : AreCountsOf (only_count false marks (take k b) (take k a)) (only_count true marks (take k b) (take k a)) other
  pub all : AreCountsOf (true_count (with_picked marks (λ _. false)) (length marks)) (true_count (with_picked marks (λ _. true)) (length marks)) topic

-- the number of relevant documents of the least case: where the first run leads, all that can be but its own unjudged ones
abbrev pub least_relevant : Counts → Counts → Counts → ℕ
least_relevant first second all =
    if nat_lt (second.relevant + second.unjudged) first.relevant then all.relevant + all.unjudged - first.unjudged else all.relevant + second.unjudged
