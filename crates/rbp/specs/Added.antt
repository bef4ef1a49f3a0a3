-- What documents of two runs add to the sums of shares beyond what their ranks alone add.
use Rattle.std.specs.Prelude.{◌≡◌, ℕ, ◌+◌, ◌≤◌, Option, ℤ, pos, neg_ℤ, ◌-ℤ◌}
use Rattle.measure_laws.specs.Powers.{high_weight}
use Rattle.measure_laws.specs.Shares.{low_share, high_share}
use Rattle.desk_model.specs.declared.types.Mark.{Mark}
use Rattle.rbp.specs.Persistence.{IsLoose}
use Rattle.rbp.specs.Walk.{correction, is_in_least, is_in_most}
use Rattle.rbp.specs.declared.by_ranks.Added.{Added}
use Rattle.rbp.specs.declared.corrections.Shares.{Shares}

-- the four sums that they make
abbrev pub least_low : Added → ℤ
least_low s = pos (s.least_lo + s.relevant_lo)

abbrev pub least_high : Added → ℤ
least_high s = pos s.least_hi -ℤ pos s.relevant_hi

abbrev pub most_low : Added → ℤ
most_low s = pos s.relevant_lo -ℤ pos s.most_lo

abbrev pub most_high : Added → ℤ
most_high s = neg_ℤ (pos (s.most_hi + s.relevant_hi))

pub record AreAddedSums (s : Added) (sums : Shares) : Type 0 where
  pub least_lo : sums.least.lo ≡ least_low s
  pub least_hi : sums.least.hi ≡ least_high s
  pub most_lo : sums.most.lo ≡ most_low s
  pub most_hi : sums.most.hi ≡ most_high s
  pub least_loose : IsLoose sums.least
  pub most_loose : IsLoose sums.most

-- no part of it is greater
pub record IsUpTo (n : ℕ) (s : Added) : Type 0 where
  pub least_lo : s.least_lo ≤ n
  pub least_hi : s.least_hi ≤ n
  pub most_lo : s.most_lo ≤ n
  pub most_hi : s.most_hi ≤ n
  pub relevant_lo : s.relevant_lo ≤ n
  pub relevant_hi : s.relevant_hi ≤ n

-- what a document with this mark and these ranks adds; no part of it is more than the upper weight of the second rank
pub record IsAdded (top bottom : ℕ) (mark : Mark) (x y : Option ℕ) (s : Added) : Type 0 where
  pub least_lo : least_low s ≡ correction (low_share top bottom) is_in_least mark x y
  pub least_hi : least_high s ≡ correction (high_share top bottom) is_in_least mark x y
  pub most_lo : most_low s ≡ correction (low_share top bottom) is_in_most mark x y
  pub most_hi : most_high s ≡ correction (high_share top bottom) is_in_most mark x y
  pub small : IsUpTo (high_weight top bottom y) s

-- both added
abbrev pub added : Added → Added → Added
added s t = record {
  least_lo = s.least_lo + t.least_lo;
  least_hi = s.least_hi + t.least_hi;
  most_lo = s.most_lo + t.most_lo;
  most_hi = s.most_hi + t.most_hi;
  relevant_lo = s.relevant_lo + t.relevant_lo;
  relevant_hi = s.relevant_hi + t.relevant_hi;
}
