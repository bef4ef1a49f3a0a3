-- What the cells of a topic are found by.
use Rattle.std.specs.Prelude.{◌≢◌, ℕ, ◌+◌, ◌<◌, ◌≤◌, true, false, List, length, take, slice_index_or}
use Rattle.desk_model.specs.Completion.{with_picked}
use Rattle.desk_model.specs.Limits.{DOCUMENT_LIMIT}
use Rattle.desk_model.specs.Score.{true_count}
use Rattle.desk_model.specs.declared.pairs.PairPlaces.{PairPlaces}
use Rattle.desk_model.specs.declared.types.Mark.{Mark}
use Rattle.measure_core.specs.Laws.{AreMet}
use Rattle.measure_core.specs.Pairs.{DeskTopic, ranking_on, runs_on}
use Rattle.topic_counts.specs.Own.{AreCountsOf, AreOwnCounts}
use Rattle.topic_counts.specs.Seen.{AreMarksIn, ArePrefix}
use Rattle.topic_counts.specs.declared.counts.Counts.{Counts}
use Rattle.topic_counts.specs.declared.counts.OwnCounts.{OwnCounts}

-- the counts of the documents that each of two rankings alone has among its first k, and of all documents
pub record AreTold (k : ℕ) (marks : List Mark) (a b : List ℕ) (own : OwnCounts) (all : Counts) : Type 0 where
  pub met : AreMet marks a b
  pub first : AreOwnCounts k marks a b own.first
  pub second : AreOwnCounts k marks b a own.second
  pub topic : AreCountsOf (true_count (with_picked marks (λ _. false)) (length marks)) (true_count (with_picked marks (λ _. true)) (length marks)) all
  pub few : all.relevant + all.unjudged ≤ DOCUMENT_LIMIT

-- the counts of each run's first k documents
abbrev pub AreRunCounts : ℕ → List Mark → DeskTopic → List Counts → Type 0
AreRunCounts k marks t counts = (run : ℕ) (none : Counts) → run < runs_on t → ArePrefix k marks (ranking_on t run) (slice_index_or counts run none)

-- the marks of the first run's first k documents, unless the pair is that run's first
abbrev pub AreSeenBefore : ℕ → List Mark → DeskTopic → PairPlaces → List Mark → Type 0
AreSeenBefore k marks t at seen = at.first + 1 ≢ at.second → AreMarksIn (take k (ranking_on t at.first)) marks seen
