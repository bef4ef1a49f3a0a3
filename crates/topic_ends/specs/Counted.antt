-- The counts of all documents of topics.
use Rattle.std.specs.Prelude.{◌≡◌, ℕ, ◌≤◌, List, slice_get, Option, Some, None}
use Rattle.desk_model.specs.Limits.{DOCUMENT_LIMIT}
use Rattle.desk_model.specs.declared.types.Mark.{Mark}
use Rattle.measure_laws.specs.Classes.{judged_count}
use Rattle.measure_laws.specs.LeastDifference.{possible_count}
use Rattle.topic_ends.specs.declared.counts.RelevantCounts.{RelevantCounts}

-- how many documents of a topic are judged relevant, and how many can be relevant
pub record AreAllCounts (marks : List Mark) (counts : RelevantCounts) : Type 0 where
  pub relevant : counts.relevant ≡ judged_count marks
  pub possible : counts.possible ≡ possible_count marks
  pub order : counts.relevant ≤ counts.possible
  pub few : counts.possible ≤ DOCUMENT_LIMIT

-- counts that are there are those of a topic
abbrev pub AreCounted : List Mark → Option RelevantCounts → Type 0
AreCounted marks None = Unit {0}
AreCounted marks (Some counts) = AreAllCounts marks counts

-- counts of the first topics
abbrev pub AreCountsOf : List (List Mark) → List RelevantCounts → Type 0
AreCountsOf marks counts = (topic : ℕ) (m : List Mark) (c : RelevantCounts) → slice_get marks topic ≡ Some m → slice_get counts topic ≡ Some c → AreAllCounts m c
