-- A difference of two counts out of a whole.
use Rattle.std.specs.Prelude.{◌≡◌, ℕ, ◌*◌, ◌≤◌, max, Option, ℤ, pos, ◌-ℤ◌, ◌*ℤ◌, ◌≤ℤ◌}
use Rattle.desk_model.specs.Extremes.{IsGreatest}
use Rattle.desk_model.specs.Limits.{PARTS_OF_ONE}
use Rattle.desk_model.specs.Score.{reciprocal}
use Rattle.topic_ends.specs.declared.difference.Difference.{Difference}

-- the first count less the second
abbrev pub lead_of : Difference → ℤ
lead_of d = pos d.first -ℤ pos d.second

-- what they are out of
abbrev pub whole_of : Difference → ℕ
whole_of d = max 1 d.whole

-- each number is at most 100,000,000
pub record IsSmallDifference (d : Difference) : Type 0 where
  pub first : d.first ≤ 100000000
  pub second : d.second ≤ 100000000
  pub whole : d.whole ≤ 100000000

-- the greatest whole number that is at most another and at most the difference in units
abbrev pub IsLowered : Difference → ℤ → ℤ → Type 0
IsLowered d low = IsGreatest (λ w. (w ≤ℤ low) × ((w *ℤ pos (whole_of d)) ≤ℤ (pos PARTS_OF_ONE *ℤ lead_of d)))

-- one over a rank less one over another, where an absent one gives 0: the numerator, and the denominator
abbrev pub rank_lead : Option ℕ → Option ℕ → ℤ
rank_lead x y = pos ((reciprocal x).num * (reciprocal y).den) -ℤ pos ((reciprocal y).num * (reciprocal x).den)

abbrev pub rank_whole : Option ℕ → Option ℕ → ℕ
rank_whole x y = (reciprocal x).den * (reciprocal y).den

-- that difference, of small numbers
pub record IsDifferenceOf (x y : Option ℕ) (d : Difference) : Type 0 where
  pub small : IsSmallDifference d
  pub lead : lead_of d ≡ rank_lead x y
  pub whole : whole_of d ≡ rank_whole x y
