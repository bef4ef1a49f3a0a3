-- What is known of each candidate where a walk along the ranking stands: a number which its sum is near.
use Rattle.std.specs.Prelude.{◌≡◌, ℕ, ◌+◌, ◌-◌, ◌*◌, ◌<◌, ◌≤◌, Bool, true, false, if◌then◌else◌, List, [], ◌∷◌, length, drop}
use Rattle.desk_model.specs.Completion.{picked_value}
use Rattle.desk_model.specs.Limits.{PARTS_OF_ONE, RANK_LIMIT}
use Rattle.desk_model.specs.Mark.{is_unjudged}
use Rattle.desk_model.specs.Precisions.{true_ranks}
use Rattle.desk_model.specs.declared.types.Mark.{Mark}
use Rattle.measure_laws.specs.Candidates.{open_docs}
use Rattle.measure_laws.specs.Parts.{high_part}
use Rattle.topic_ends.specs.Candidates.{along, candidate_sum, gains_by, number_of, value_at}
use Rattle.topic_ends.specs.PartSums.{IsBefore, added, whole, worth_of}
use Rattle.topic_ends.specs.declared.estimate.Passed.{Passed}
use Rattle.topic_ends.specs.declared.estimate.Totals.{Totals}

-- the sum of one over each of some ranks, in parts, each rounded up
abbrev pub inverse_sum : List ℕ → ℕ
inverse_sum [] = 0
inverse_sum (rank ∷ ranks) = high_part 1 rank + inverse_sum ranks

-- one over a rank, where its document is relevant
abbrev pub inverse_if : Bool → ℕ → ℕ
inverse_if true rank = high_part 1 rank
inverse_if false rank = 0

-- ---- a walk
-- what is known with the next document
abbrev pub walked : Bool → Passed → Mark → ℕ → Passed
walked high passed mark rank = record {
  unjudged = passed.unjudged + (if is_unjudged mark then 1 else 0);
  near = added (worth_of high) passed.near (picked_value (value_at high 1) mark) rank;
  far = added (worth_of high) passed.far (picked_value (value_at high 0) mark) rank;
  inverses = passed.inverses + inverse_if (picked_value (value_at high 0) mark) rank;
}

-- by how many relevant documents the two sums of a walk differ
abbrev pub AreApart : Bool → Passed → Type 0
AreApart true passed = passed.near.found ≡ passed.far.found + passed.unjudged
AreApart false passed = passed.far.found ≡ passed.near.found + passed.unjudged

-- what is known before a place of a ranking
pub record IsWalk (high : Bool) (marks : List Mark) (docs : List ℕ) (place : ℕ) (passed : Passed) : Type 0 where
  pub near_before : IsBefore (place + 1) passed.near
  pub far_before : IsBefore (place + 1) passed.far
  pub inverses_before : passed.inverses ≤ place * PARTS_OF_ONE
  pub apart : AreApart high passed
  pub opens : passed.unjudged + length (open_docs marks (drop place docs)) ≡ length (open_docs marks docs)
  pub near : (left : ℕ) → whole (worth_of high) passed.near (place + 1) (gains_by high (along marks (drop place docs)) left) ≡ candidate_sum high (along marks docs) (passed.unjudged + left)
  pub far : whole (worth_of high) passed.far (place + 1) (gains_by high (along marks (drop place docs)) 0) ≡ candidate_sum high (along marks docs) 0
  pub inverses : passed.inverses + inverse_sum (true_ranks (place + 1) (gains_by high (along marks (drop place docs)) 0)) ≡ inverse_sum (true_ranks 1 (gains_by high (along marks docs) 0))

-- the totals of a whole ranking
pub record AreTotals (high : Bool) (marks : List Mark) (docs : List ℕ) (totals : Totals) : Type 0 where
  pub far : totals.far ≡ candidate_sum high (along marks docs) 0
  pub inverses : totals.inverses ≡ inverse_sum (true_ranks 1 (gains_by high (along marks docs) 0))
  pub far_small : totals.far ≤ RANK_LIMIT * PARTS_OF_ONE
  pub inverses_small : totals.inverses ≤ RANK_LIMIT * PARTS_OF_ONE

-- ---- the estimate
-- a sum is at most so many parts beyond an estimate, above it on the high side, below it on the low one
abbrev pub IsNear : Bool → ℕ → ℕ → ℕ → Type 0
IsNear true sum estimate slack = sum ≤ estimate + slack
IsNear false sum estimate slack = estimate ≤ sum + slack

-- that of the candidate whose first unjudged documents are those passed
abbrev pub estimate_of : Passed → Totals → ℕ
estimate_of passed totals = passed.near.parts + (totals.far - passed.far.parts)

abbrev pub slack_of : Passed → Totals → ℕ
slack_of passed totals = passed.unjudged * (totals.inverses - passed.inverses)

-- what is known of that candidate
pub record IsPassing (high : Bool) (marks : List Mark) (docs : List ℕ) (totals : Totals) (passed : Passed) : Type 0 where
  pub within : passed.unjudged ≤ length (open_docs marks docs)
  pub far : passed.far.parts ≤ totals.far
  pub inverses : passed.inverses ≤ totals.inverses
  pub near_small : passed.near.parts ≤ RANK_LIMIT * PARTS_OF_ONE
  pub far_small : totals.far ≤ RANK_LIMIT * PARTS_OF_ONE
  pub inverses_small : totals.inverses ≤ RANK_LIMIT * PARTS_OF_ONE
  pub near : IsNear high (candidate_sum high (along marks docs) passed.unjudged) (estimate_of passed totals) (slack_of passed totals)

-- ---- the best number
-- whether a number is at least as good as another: the high side wants the greatest, the low side the smallest
abbrev pub IsAsGood : Bool → ℕ → ℕ → Type 0
IsAsGood true x y = y ≤ x
IsAsGood false x y = x ≤ y

-- the number of some candidate
pub record IsReached (high : Bool) (marks : List Mark) (docs : List ℕ) (value : ℕ) : Type 0 where
  pub count : ℕ
  pub within : count ≤ length (open_docs marks docs)
  pub value_is : value ≡ number_of high marks docs count

-- the number of a candidate that is as good as each of the first so many
pub record IsBestSoFar (high : Bool) (marks : List Mark) (docs : List ℕ) (n value : ℕ) : Type 0 where
  pub reached : IsReached high marks docs value
  pub good : (k : ℕ) → k < n → IsAsGood high value (number_of high marks docs k)
  pub small : value ≤ RANK_LIMIT * PARTS_OF_ONE
