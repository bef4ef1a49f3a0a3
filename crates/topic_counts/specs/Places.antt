-- The kept powers and weights.
use Rattle.std.specs.Prelude.{◌≡◌, ℕ, ◌+◌, ◌-◌, ◌*◌, ◌/◌, ◌<◌, ◌≤◌, List, length, slice_index_or}
use Rattle.measure_laws.specs.Powers.{ceil_div, low_power, high_power}
use Rattle.topic_counts.specs.declared.powers.Place.{Place}

-- which powers are kept: those of top over bottom, from the 0th to the last
pub record Known : Type 0 where
  pub top : ℕ
  pub bottom : ℕ
  pub last : ℕ

-- the i-th power, and the weight of the rank after i others
abbrev pub place_of : ℕ → ℕ → ℕ → Place
place_of a b i = record { low = low_power a b i; high = high_power a b i; weight_low = low_power a b i * (b - a) / b; weight_high = ceil_div (high_power a b i * (b - a)) b }

-- the places are those of the powers up to the last
pub record ArePlaces (top bottom last : ℕ) (places : List Place) : Type 0 where
  pub below : top < bottom
  pub count : length places ≡ last + 1
  pub each : (i : ℕ) (p : Place) → i ≤ last → slice_index_or places i p ≡ place_of top bottom i
