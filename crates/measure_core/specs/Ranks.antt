-- What the cells of a topic are found by.
use Rattle.std.specs.Prelude.{◌≡◌, ◌≢◌, ℕ, ◌+◌, ◌<◌, ◌≤◌, true, false, List, length, slice_index, slice_index_or}
use Rattle.desk_model.specs.Completion.{with_picked}
use Rattle.desk_model.specs.Limits.{DOCUMENT_LIMIT}
use Rattle.desk_model.specs.Ranking.{rank}
use Rattle.desk_model.specs.Score.{true_count}
use Rattle.desk_model.specs.declared.pairs.PairPlaces.{PairPlaces}
use Rattle.desk_model.specs.declared.types.Mark.{Mark}
use Rattle.measure_core.specs.Pairs.{DeskTopic, ranking_on, runs_on}
use Rattle.measure_core.specs.declared.room.RunSums.{RunSums}
use Rattle.measure_core.specs.declared.room.RunWeights.{RunWeights}
use Rattle.topic_counts.specs.Own.{AreCountsOf}
use Rattle.topic_counts.specs.declared.counts.Counts.{Counts}
use Rattle.measure_core.specs.Bits.{AreBitsIn}
use Rattle.measure_core.specs.Worths.{rank_or_none}

-- for each document its rank in a ranking, from 1, and 0 where it has none
abbrev pub AreRanks : List ℕ → List ℕ → Type 0
AreRanks docs ranks = (doc : ℕ) → rank_or_none (slice_index ranks doc) ≡ rank docs doc

-- the same for each document of the universe
pub record AreRanksIn (marks : List Mark) (docs ranks : List ℕ) : Type 0 where
  pub long : length marks ≤ length ranks
  pub each : (doc : ℕ) → doc < length marks → rank_or_none (slice_index ranks doc) ≡ rank docs doc

-- the ranks of the first run's documents, unless the pair is that run's first
abbrev pub AreRanksBefore : DeskTopic → PairPlaces → List ℕ → Type 0
AreRanksBefore t at ranks = at.first + 1 ≢ at.second → AreRanks (ranking_on t at.first) ranks

-- the bits of the first run's documents, unless the pair is that run's first
abbrev pub AreBitsBefore : List Mark → DeskTopic → PairPlaces → List ℕ → Type 0
AreBitsBefore marks t at bits = at.first + 1 ≢ at.second → AreBitsIn (ranking_on t at.first) marks bits

-- the weights of each run
abbrev pub AreRunWeights : (List ℕ → RunWeights) → DeskTopic → List RunWeights → Type 0
AreRunWeights weights_of t weights = (run : ℕ) → run < runs_on t → (none : RunWeights) → slice_index_or weights run none ≡ weights_of (ranking_on t run)

-- the sums of each run
abbrev pub AreRunSums : (List ℕ → List ℕ → Type 0) → DeskTopic → List RunSums → Type 0
AreRunSums are_sums t sums = (run : ℕ) → run < runs_on t → (none : RunSums) → are_sums (ranking_on t run) (slice_index_or sums run none).numbers

-- the counts of all documents of the topic
pub record AreTopicCounts (marks : List Mark) (all : Counts) : Type 0 where
  pub topic : AreCountsOf (true_count (with_picked marks (λ _. false)) (length marks)) (true_count (with_picked marks (λ _. true)) (length marks)) all
  pub few : all.relevant + all.unjudged ≤ DOCUMENT_LIMIT
