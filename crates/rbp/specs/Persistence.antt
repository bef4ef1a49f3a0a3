-- The persistence of a measure, and the terms of its sums.
use Rattle.std.specs.Prelude.{◌≡◌, ℕ, ◌<◌, ◌^◌, List, pos, neg_ℤ, ◌≤ℤ◌}
use Rattle.desk_model.specs.Limits.{RANK_LIMIT}
use Rattle.desk_model.specs.MeasureText.{IsPersistence}
use Rattle.topic_counts.specs.Places.{Known}
use Rattle.measure_laws.specs.Powers.{low_weight, high_weight}
use Rattle.measure_core.specs.Worths.{AreWorths}
use Rattle.topic_counts.specs.declared.span.Span.{Span}

-- top over bottom
pub record Persistence : Type 0 where
  pub top : ℕ
  pub bottom : ℕ

-- the kept powers are those of the persistence, up to the 10,000th, and ranks are worth their weights, rounded down and up
pub record AreKnown (top bottom : ℕ) (known : Known) (worths high_worths : List ℕ) : Type 0 where
  pub persistence : IsPersistence top bottom
  pub below : top < bottom
  pub top_is : known.top ≡ top
  pub bottom_is : known.bottom ≡ bottom
  pub last_is : known.last ≡ RANK_LIMIT
  pub worths_are : AreWorths (low_weight top bottom) worths
  pub high_worths_are : AreWorths (high_weight top bottom) high_worths

-- from -10^27 to 10^27
abbrev pub IsLoose : Span → Type 0
IsLoose s = ((neg_ℤ (pos (10 ^ 27)) ≤ℤ s.lo) × (s.lo ≤ℤ pos (10 ^ 27))) × ((neg_ℤ (pos (10 ^ 27)) ≤ℤ s.hi) × (s.hi ≤ℤ pos (10 ^ 27)))
