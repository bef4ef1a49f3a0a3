-- Documents that two rankings share among their first k, and those that one alone has there.
use Rattle.std.specs.Prelude.{◌≡◌, ℕ, ◌+◌, ◌≤◌, Bool, true, false, ◌&&◌, List, take, count_by}
use Rattle.desk_model.specs.Limits.{RANK_LIMIT}
use Rattle.desk_model.specs.Classes.{only_count}
use Rattle.desk_model.specs.Completion.{with_picked}
use Rattle.desk_model.specs.Ranking.{is_in}
use Rattle.desk_model.specs.declared.types.Mark.{Mark}
use Rattle.topic_counts.specs.declared.counts.Counts.{Counts}

-- the counts of some documents, from how many are true where no unjudged one is and where all are
pub record AreCountsOf (low high : ℕ) (counts : Counts) : Type 0 where
  pub least : counts.relevant ≡ low
  pub most : counts.relevant + counts.unjudged ≡ high

-- how many documents of a list are true and in another too, where the unjudged ones are all true or all false
abbrev pub shared_count : Bool → List Mark → List ℕ → List ℕ → ℕ
shared_count taken marks docs others = count_by (λ doc. with_picked marks (λ _. taken) doc && is_in others doc) docs

-- the counts of a ranking's first k documents that are not among another's first k
pub record AreOwnCounts (k : ℕ) (marks : List Mark) (ranking other : List ℕ) (counts : Counts) : Type 0 where
  pub least : counts.relevant ≡ only_count false marks (take k ranking) (take k other)
  pub most : counts.relevant + counts.unjudged ≡ only_count true marks (take k ranking) (take k other)
  pub few : counts.relevant + counts.unjudged ≤ RANK_LIMIT
