-- The marks of some documents alone.
use Rattle.std.specs.Prelude.{◌≡◌, ℕ, ◌+◌, ◌<◌, ◌≤◌, if◌then◌else◌, List, length, take, true, false}
use Rattle.desk_model.specs.Classes.{prefix_count}
use Rattle.desk_model.specs.Limits.{RANK_LIMIT}
use Rattle.desk_model.specs.Mark.{mark_at}
use Rattle.desk_model.specs.Ranking.{IsRanking, is_in}
use Rattle.desk_model.specs.declared.types.Mark.{Mark}
use Rattle.desk_model.specs.declared.types.Mark.TheVariants.{Other}
use Rattle.topic_counts.specs.declared.counts.Counts.{Counts}

-- the documents of a list have the marks that they have among others, and the rest of the universe has none that counts
pub record AreMarksIn (docs : List ℕ) (marks seen : List Mark) : Type 0 where
  pub long : length marks ≤ length seen
  pub each : (doc : ℕ) → doc < length marks → mark_at seen doc ≡ (if is_in docs doc then mark_at marks doc else Other)

-- the counts of a ranking's first k documents
pub record ArePrefix (k : ℕ) (marks : List Mark) (a : List ℕ) (counts : Counts) : Type 0 where
  pub least : counts.relevant ≡ prefix_count false k marks a
  pub most : counts.relevant + counts.unjudged ≡ prefix_count true k marks a
  pub few : counts.relevant + counts.unjudged ≤ RANK_LIMIT

-- the counts of two rankings' first k documents, and the marks of those of the first
pub record AreSeenCounts (k : ℕ) (marks : List Mark) (a b : List ℕ) (one two : Counts) (seen : List Mark) : Type 0 where
  pub ranking : IsRanking (length marks) a
  pub other : IsRanking (length marks) b
  pub first : ArePrefix k marks a one
  pub second : ArePrefix k marks b two
  pub alone : AreMarksIn (take k a) marks seen
