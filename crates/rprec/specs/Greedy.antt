-- The greedy choices of R-precision in counts of documents.
use Rattle.std.specs.Prelude.{take, ◌≡◌, ℕ, ◌+◌, ◌-◌, ◌*◌, ◌<◌, ◌≤◌, min, max, nat_lt, Bool, true, false, not, if◌then◌else◌, List, length, slice_index, count_by}
use Rattle.desk_model.specs.Limits.{DOCUMENT_LIMIT, RANK_LIMIT}
use Rattle.desk_model.specs.Mark.{mark_at}
use Rattle.desk_model.specs.Completion.{picked_value, with_picked}
use Rattle.desk_model.specs.Ranking.{is_in}
use Rattle.desk_model.specs.Score.{true_among}
use Rattle.desk_model.specs.declared.types.Mark.{Mark}
use Rattle.measure_laws.specs.Classes.{open_in, size_of, judged_count}
use Rattle.measure_laws.specs.RprecCase.{greedy_truth, rprec_count}
use Rattle.topic_counts.specs.declared.counts.Counts.{Counts}
use Rattle.topic_counts.specs.Own.{AreCountsOf}
use Rattle.rprec.specs.declared.prefixes.Prefixes.{Prefixes}
use Rattle.rprec.specs.declared.greedy.DepthCandidate.{DepthCandidate}

-- one for a mark that is relevant, or that can be
abbrev pub one_of : Bool → Mark → ℕ
one_of taken mark = if picked_value taken mark then 1 else 0

-- the counts of a list: of its relevant documents, and of the unjudged ones that another list has not
abbrev pub own_counts : List Mark → List ℕ → List ℕ → Counts
own_counts marks docs others = record { relevant = count_by (with_picked marks (λ _. false)) docs; unjudged = count_by (open_in marks (λ doc. not (is_in others doc))) docs }

-- those of the first documents of two runs
abbrev pub prefixes_of : List Mark → List ℕ → List ℕ → ℕ → Prefixes
prefixes_of marks a b depth = record { first = own_counts marks (take depth a) (take depth b); second = own_counts marks (take depth b) (take depth a) }

-- the counts of the document at a place of a list, and none where the list ends before it
pub record AreNext (marks : List Mark) (docs : List ℕ) (place : ℕ) (counts : Counts) : Type 0 where
  pub here : place < length docs → AreCountsOf (one_of false (mark_at marks (slice_index docs place))) (one_of true (mark_at marks (slice_index docs place))) counts
  pub past : length docs ≤ place → AreCountsOf 0 0 counts

-- the counts of the lists swapped
abbrev pub swapped : Prefixes → Prefixes
swapped f = record { first = f.second; second = f.first }

-- the counts of all documents of a topic
pub record AreTopic (marks : List Mark) (all : Counts) : Type 0 where
  pub relevant : all.relevant ≡ judged_count marks
  pub unjudged : all.unjudged ≡ size_of (length marks) (open_in marks (λ _. true))

-- as many relevant documents apart as the two runs are, where a number of relevant documents is chosen greedily
pub record AreGains (marks : List Mark) (a b : List ℕ) (c : DepthCandidate) : Type 0 where
  pub same : true_among (greedy_truth marks a b c.count) c.count a + c.second ≡ true_among (greedy_truth marks a b c.count) c.count b + c.first

-- whether the difference of one candidate is smaller than that of another
abbrev pub beats : DepthCandidate → DepthCandidate → Bool
beats c best = nat_lt (c.first * max 1 best.count + best.second * max 1 c.count) (best.first * max 1 c.count + c.second * max 1 best.count)

-- the one of two candidates with the smaller difference, and of equal ones the second
abbrev pub better_of : DepthCandidate → DepthCandidate → DepthCandidate
better_of c best = if beats c best then c else best

-- the greedy choice of some of the unjudged documents, by the counts of two prefixes
abbrev pub candidate : Prefixes → Counts → ℕ → DepthCandidate
candidate prefixes all chosen = record {
  count = all.relevant + chosen;
  first = prefixes.first.relevant + (chosen - (all.unjudged - prefixes.first.unjudged));
  second = prefixes.second.relevant + min chosen prefixes.second.unjudged;
}

-- counts that are no more than a run and a topic have
pub record AreFew (prefixes : Prefixes) (all : Counts) : Type 0 where
  pub first : prefixes.first.relevant + prefixes.first.unjudged ≤ RANK_LIMIT
  pub second : prefixes.second.relevant + prefixes.second.unjudged ≤ RANK_LIMIT
  pub within : prefixes.first.unjudged + prefixes.second.unjudged ≤ all.unjudged
  pub total : all.relevant + all.unjudged ≤ DOCUMENT_LIMIT

-- a candidate with no more than a run and a topic have
pub record IsSmallCandidate (c : DepthCandidate) : Type 0 where
  pub few : c.count ≤ DOCUMENT_LIMIT
  pub first_few : c.first ≤ RANK_LIMIT
  pub second_few : c.second ≤ RANK_LIMIT

-- a candidate whose difference is from -1 to 1
pub record IsWithinOne (c : DepthCandidate) : Type 0 where
  pub low : c.second ≤ c.first + max 1 c.count
  pub high : c.first ≤ c.second + max 1 c.count

-- the best so far, against the choices where the second run's own unjudged documents are used up, and all but the first run's own
abbrev pub best_beyond : Prefixes → Counts → ℕ → DepthCandidate → DepthCandidate
best_beyond prefixes all chosen best =
    better_of (candidate prefixes all (max chosen (all.unjudged - prefixes.first.unjudged))) (better_of (candidate prefixes all (max chosen prefixes.second.unjudged)) best)

-- it is the smallest number of relevant documents with the least difference, one that the topic can have
pub record IsLeast (marks : List Mark) (a b : List ℕ) (c : DepthCandidate) : Type 0 where
  pub gains : AreGains marks a b c
  pub chosen : c.count ≡ rprec_count marks a b
  pub low : judged_count marks ≤ c.count
  pub high : c.count ≤ judged_count marks + size_of (length marks) (open_in marks (λ _. true))
