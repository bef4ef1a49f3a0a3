-- What is known of each candidate where a walk along the ranking stands: a number between which and a few parts its sum lies.
use Rattle.std.specs.Prelude.{◌≡◌, ℕ, ◌+◌, ◌-◌, ◌*◌, ◌≤◌, Bool, true, false, List, [], ◌∷◌, length, drop, if◌then◌else◌}
use Rattle.desk_model.specs.Completion.{picked_value}
use Rattle.desk_model.specs.Limits.{PARTS_OF_ONE, RANK_LIMIT}
use Rattle.desk_model.specs.Mark.{is_unjudged}
use Rattle.desk_model.specs.declared.types.Mark.{Mark}
use Rattle.desk_model.specs.Precisions.{true_ranks}
use Rattle.measure_laws.specs.Parts.{high_part}
use Rattle.measure_laws.specs.Candidates.{open_docs}
use Rattle.precision_candidates.specs.declared.choice.Choice.{Choice}
use Rattle.precision_candidates.specs.declared.walk.Totals.{Totals}
use Rattle.precision_candidates.specs.declared.walk.Walk.{Walk}
use Rattle.precision_candidates.specs.Firsts.{IsAsGood, IsBestOf, IsBetter, IsEarlier}
use Rattle.precision_candidates.specs.Sums.{IsBefore, added, whole, worth_of}
use Rattle.precision_candidates.specs.Side.{along, candidate_sum, gains_by, number_of, value_at}

-- the sum of one over each of some ranks, each in parts and rounded up
abbrev pub inverse_sum : List ℕ → ℕ
inverse_sum [] = 0
inverse_sum (rank ∷ ranks) = high_part 1 rank + inverse_sum ranks

-- the inverse of a rank, where its place is true
abbrev pub inverse_if : Bool → ℕ → ℕ
inverse_if true rank = high_part 1 rank
inverse_if false rank = 0

-- a walk with the next document
abbrev pub walked : Bool → Walk → Mark → ℕ → Walk
walked high walk mark rank = record {
  passed = walk.passed + (if is_unjudged mark then 1 else 0);
  near = added (worth_of high) walk.near (picked_value (value_at high 1) mark) rank;
  far = added (worth_of high) walk.far (picked_value (value_at high 0) mark) rank;
  inverses = walk.inverses + inverse_if (picked_value (value_at high 0) mark) rank;
}

-- by how many true places the two sums of a walk differ
abbrev pub AreApart : Bool → Walk → Type 0
AreApart true walk = walk.near.found ≡ walk.far.found + walk.passed
AreApart false walk = walk.far.found ≡ walk.near.found + walk.passed

-- a walk before a place of a ranking
pub record IsWalk (high : Bool) (marks : List Mark) (docs : List ℕ) (place : ℕ) (walk : Walk) : Type 0 where
  pub near_before : IsBefore (place + 1) walk.near
  pub far_before : IsBefore (place + 1) walk.far
  pub inverses_before : walk.inverses ≤ place * PARTS_OF_ONE
  pub apart : AreApart high walk
  pub opens : walk.passed + length (open_docs marks (drop place docs)) ≡ length (open_docs marks docs)
  pub near : (left : ℕ) → whole (worth_of high) walk.near (place + 1) (gains_by high (along marks (drop place docs)) left) ≡ candidate_sum high (along marks docs) (walk.passed + left)
  pub far : whole (worth_of high) walk.far (place + 1) (gains_by high (along marks (drop place docs)) 0) ≡ candidate_sum high (along marks docs) 0
  pub inverses : walk.inverses + inverse_sum (true_ranks (place + 1) (gains_by high (along marks (drop place docs)) 0)) ≡ inverse_sum (true_ranks 1 (gains_by high (along marks docs) 0))

-- the totals of the whole ranking
pub record AreTotals (high : Bool) (marks : List Mark) (docs : List ℕ) (totals : Totals) : Type 0 where
  pub far : totals.far ≡ candidate_sum high (along marks docs) 0
  pub inverses : totals.inverses ≡ inverse_sum (true_ranks 1 (gains_by high (along marks docs) 0))
  pub far_small : totals.far ≤ RANK_LIMIT * PARTS_OF_ONE
  pub inverses_small : totals.inverses ≤ RANK_LIMIT * PARTS_OF_ONE

-- a sum is at most so many parts beyond an estimate, above it on the high side, below it on the low one
abbrev pub IsNear : Bool → ℕ → ℕ → ℕ → Type 0
IsNear true sum estimate slack = sum ≤ estimate + slack
IsNear false sum estimate slack = estimate ≤ sum + slack

-- an estimate of the candidate that a walk has come to
abbrev pub estimate_of : Walk → Totals → ℕ
estimate_of walk totals = walk.near.parts + (totals.far - walk.far.parts)

abbrev pub slack_of : Walk → Totals → ℕ
slack_of walk totals = walk.passed * (totals.inverses - walk.inverses)

-- what is known of that candidate
pub record IsPassing (high : Bool) (marks : List Mark) (docs : List ℕ) (totals : Totals) (walk : Walk) : Type 0 where
  pub within : walk.passed ≤ length (open_docs marks docs)
  pub far : walk.far.parts ≤ totals.far
  pub inverses : walk.inverses ≤ totals.inverses
  pub near_small : walk.near.parts ≤ RANK_LIMIT * PARTS_OF_ONE
  pub far_small : totals.far ≤ RANK_LIMIT * PARTS_OF_ONE
  pub inverses_small : totals.inverses ≤ RANK_LIMIT * PARTS_OF_ONE
  pub near : IsNear high (candidate_sum high (along marks docs) walk.passed) (estimate_of walk totals) (slack_of walk totals)

-- a candidate that is not chosen before another
abbrev pub Loses : Bool → ℕ → ℕ → Choice → Type 0
Loses high value count best = IsAsGood high best.value value × (IsEarlier high count best.count → IsBetter high best.value value)

-- the best of the first so many candidates, with its number
pub record IsBestSoFar (high : Bool) (marks : List Mark) (docs : List ℕ) (n : ℕ) (choice : Choice) : Type 0 where
  pub best : IsBestOf high (number_of high marks docs) (length (open_docs marks docs)) n choice.count
  pub value : choice.value ≡ number_of high marks docs choice.count
