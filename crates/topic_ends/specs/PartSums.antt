-- Sums of precisions in parts, as they grow along a ranking.
use Rattle.std.specs.Prelude.{ℕ, ◌+◌, ◌*◌, ◌<◌, ◌≤◌, Bool, true, false, List}
use Rattle.desk_model.specs.Limits.{PARTS_OF_ONE}
use Rattle.desk_model.specs.Precisions.{true_ranks}
use Rattle.measure_laws.specs.Parts.{ranked_sum, low_part, high_part}
use Rattle.topic_ends.specs.declared.part_sum.PartSum.{PartSum}

-- a precision in parts, rounded up or down
abbrev pub worth_of : Bool → ℕ → ℕ → ℕ
worth_of true = high_part
worth_of false = low_part

-- a sum with the next document
abbrev pub added : (ℕ → ℕ → ℕ) → PartSum → Bool → ℕ → PartSum
added worth sum true rank = record { found = sum.found + 1; parts = sum.parts + worth (sum.found + 1) rank }
added worth sum false rank = sum

-- a sum of documents before a rank
pub record IsBefore (rank : ℕ) (sum : PartSum) : Type 0 where
  pub few : sum.found < rank
  pub small : sum.parts ≤ sum.found * PARTS_OF_ONE

-- a sum with that of the documents from a rank on, of which these are relevant
abbrev pub whole : (ℕ → ℕ → ℕ) → PartSum → ℕ → List Bool → ℕ
whole worth sum rank gains = sum.parts + ranked_sum worth (sum.found + 1) (true_ranks rank gains)
