-- Tiers and covering pairs of so many runs, by a relation that says which is above which.
use Rattle.std.specs.Prelude.{◌≡◌, ◌⊎◌, ℕ, ◌+◌, ◌<◌, ◌≤◌, List, slice_index_or, All}
use Rattle.std.specs.List.{Contains}

-- none of so many runs is above this one
abbrev pub HasNoneAbove : (ℕ → ℕ → Type 0) → ℕ → ℕ → Type 0
HasNoneAbove Over runs b = (a : ℕ) → a < runs → Over a b → ⊥

-- the tier is 1 more than that of a run that is above this one
pub record IsNextTier (Over : ℕ → ℕ → Type 0) (runs : ℕ) (tier_of : ℕ → ℕ) (b tier : ℕ) : Type 0 where
  pub above : ℕ
  pub within : above < runs
  pub over : Over above b
  pub next : tier ≡ tier_of above + 1

-- the tier of a run by the tiers of the others: 1 where no run is above it, else 1 more than the greatest tier of a run that is
pub record IsTierOf (Over : ℕ → ℕ → Type 0) (runs : ℕ) (tier_of : ℕ → ℕ) (b tier : ℕ) : Type 0 where
  pub greater : (a : ℕ) → a < runs → Over a b → tier_of a < tier
  pub reached : ((tier ≡ 1) × HasNoneAbove Over runs b) ⊎ IsNextTier Over runs tier_of b tier

-- each of so many runs has its tier
abbrev pub AreTiers : (ℕ → ℕ → Type 0) → ℕ → (ℕ → ℕ) → Type 0
AreTiers Over runs tier_of = (b : ℕ) → b < runs → IsTierOf Over runs tier_of b (tier_of b)

-- the tier of a run in a list of them, by the run's number
abbrev pub tier_in : List ℕ → ℕ → ℕ
tier_in tiers run = slice_index_or tiers run 0

-- a tier that some run has and none exceeds
pub record IsGreatestTier (tiers : List ℕ) (tier : ℕ) : Type 0 where
  pub reached : Contains tiers tier
  pub others : All (λ each. each ≤ tier) tiers

-- a run is above another, and none of so many runs is between the two
pub record IsCovering (Over : ℕ → ℕ → Type 0) (runs a b : ℕ) : Type 0 where
  pub above : Over a b
  pub none_between : (c : ℕ) → c < runs → Over a c → Over c b → ⊥
