-- What is known of two runs at the ends of blocks of 10 documents.
use Rattle.std.specs.Prelude.{◌≡◌, ℕ, ◌+◌, ◌*◌, ◌<◌, ◌≤◌, false, List, length, take, count_by, sum, slice_index_or}
use Rattle.desk_model.specs.Completion.{with_picked}
use Rattle.desk_model.specs.Limits.{DOCUMENT_LIMIT, RANK_LIMIT}
use Rattle.desk_model.specs.Mark.{is_unjudged, mark_at}
use Rattle.desk_model.specs.Ranking.{IsRanking}
use Rattle.desk_model.specs.declared.types.Mark.{Mark}
use Rattle.topic_counts.specs.declared.counts.Counts.{Counts}
use Rattle.rprec.specs.Greedy.{AreTopic, prefixes_of}
use Rattle.rprec.specs.Packed.{pack}

-- the counts of all documents of a list
abbrev pub counts_of : List Mark → List ℕ → Counts
counts_of marks docs = record { relevant = count_by (with_picked marks (λ _. false)) docs; unjudged = count_by (λ doc. is_unjudged (mark_at marks doc)) docs }

-- for each number of blocks, the counts of a run's documents up to there, in one number
pub record AreBlockSums (marks : List Mark) (docs numbers : List ℕ) : Type 0 where
  pub each : (block : ℕ) → block ≤ 1000 → slice_index_or numbers block 0 ≡ pack (counts_of marks (take (10 * block) docs))

-- the same for what is counted place by place, up to a depth
pub record AreSharedSums (counts numbers : List ℕ) (depth : ℕ) : Type 0 where
  pub each : (block : ℕ) → 10 * block ≤ depth → slice_index_or numbers block 0 ≡ sum (take (10 * block) counts)

-- at each depth, the unjudged documents of each of two runs that are not its own there are as many as are counted up to there
pub record AreSharedBelow (marks : List Mark) (a b counts : List ℕ) : Type 0 where
  pub first : (depth : ℕ) → depth ≤ RANK_LIMIT → (prefixes_of marks a b depth).first.unjudged + sum (take depth counts) ≡ (counts_of marks (take depth a)).unjudged
  pub second : (depth : ℕ) → depth ≤ RANK_LIMIT → (prefixes_of marks a b depth).second.unjudged + sum (take depth counts) ≡ (counts_of marks (take depth b)).unjudged

-- what is told of two runs is theirs: the sums of each, those of what both share and what they share place by place, how many documents the longer one has, and the counts of all documents
pub record IsPairOf (marks : List Mark) (docs others sums other_sums both_sums counts : List ℕ) (longest : ℕ) (all : Counts) : Type 0 where
  pub a : IsRanking (length marks) docs
  pub b : IsRanking (length marks) others
  pub first : AreBlockSums marks docs sums
  pub second : AreBlockSums marks others other_sums
  pub shared : AreSharedBelow marks docs others counts
  pub both : AreSharedSums counts both_sums longest
  pub places : longest ≤ length counts
  pub blocks : longest < 10 * length both_sums
  pub first_short : length docs ≤ longest
  pub second_short : length others ≤ longest
  pub some : 1 ≤ longest
  pub few : longest ≤ RANK_LIMIT
  pub topic : AreTopic marks all
  pub total : all.relevant + all.unjudged ≤ DOCUMENT_LIMIT

-- the same of the swapped runs
pub swapped_is : {marks : List Mark} {docs others sums other_sums both_sums counts : List ℕ} {longest : ℕ} {all : Counts} → IsPairOf marks docs others sums other_sums both_sums counts longest all → IsPairOf marks others docs other_sums sums both_sums counts longest all
swapped_is h = record {
  a = h.b;
  b = h.a;
  first = h.second;
  second = h.first;
  shared = record { first = h.shared.second; second = h.shared.first };
  both = h.both;
  places = h.places;
  blocks = h.blocks;
  first_short = h.second_short;
  second_short = h.first_short;
  some = h.some;
  few = h.few;
  topic = h.topic;
  total = h.total;
}
