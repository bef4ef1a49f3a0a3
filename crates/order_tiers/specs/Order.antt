-- The order of the runs of a table: which are certified above which, their tiers, and the covering pairs.
use Rattle.std.specs.Prelude.{◌≡◌, ◌⊎◌, ℕ, ◌<◌, true, Bool, List, length, map, slice_get, Some, All, AllPairs, Contains, count_by, int_lt, pos, ◌↔◌}
use Rattle.desk_model.specs.Desk.{Desk, topics_under}
use Rattle.desk_model.specs.Extremes.{Ends}
use Rattle.desk_model.specs.Order.{Topic}
use Rattle.desk_model.specs.Pairs.{pairs_of}
use Rattle.desk_model.specs.Verdict.{verdict}
use Rattle.desk_model.specs.declared.types.Mark.{Mark}
use Rattle.desk_model.specs.declared.types.MeasureName.{MeasureName}
use Rattle.desk_model.specs.declared.types.Totals.{Totals}
use Rattle.desk_model.specs.declared.types.Verdict.{Verdict}
use Rattle.desk_model.specs.declared.types.Verdict.TheVariants.{Above, Below}
use Rattle.measure_core.specs.Made.{HasEnds}
use Rattle.pair_table.specs.Numbers.{HaveEnds, AreEndsBy, AreAllPairNumbers}
use Rattle.pair_table.specs.Sums.{run_numbers}
use Rattle.order_tiers.specs.Chains.{IsCertifiedAbove}
use Rattle.order_tiers.specs.Rows.{is_above, IsSquare}
use Rattle.order_tiers.specs.Tiers.{AreTiers, IsGreatestTier, IsCovering, tier_in}
use Rattle.order_tiers.specs.declared.cover.Cover.{Cover}

-- ---- what is compared
-- so many runs over topics, with the verdict of each pair, in pair order
pub record ComparedRuns : Type 0 where
  pub runs : ℕ
  pub topics : List Topic
  pub verdicts : List Verdict

-- the runs of a desk under marks, with these sums of each pair
abbrev pub compared : Desk → List (List Mark) → List Totals → ComparedRuns
compared desk marks totals = record { runs = length desk.runs; topics = topics_under desk marks; verdicts = map verdict totals }

-- the pair of two of so many runs, the first before the second, has this verdict
pub record HasVerdict (runs : ℕ) (verdicts : List Verdict) (first second : ℕ) (v : Verdict) : Type 0 where
  pub number : ℕ
  pub pair : slice_get (pairs_of (run_numbers runs)) number ≡ Some (first, second)
  pub said : slice_get verdicts number ≡ Some v

-- a verdict of a first run on a second says that a is above b
abbrev pub IsSaidAbove : ℕ → ℕ → Verdict → ℕ → ℕ → Type 0
IsSaidAbove first second v a b = ((v ≡ Above) × (a ≡ first) × (b ≡ second)) ⊎ ((v ≡ Below) × (a ≡ second) × (b ≡ first))

-- a run is above another by the verdict of their pair, where below is read from the other side
abbrev pub IsAbovePair : ℕ → List Verdict → ℕ → ℕ → Type 0
IsAbovePair runs verdicts a b = HasVerdict runs verdicts a b Above ⊎ HasVerdict runs verdicts b a Below

-- the same of compared runs
abbrev pub IsAboveIn : ComparedRuns → ℕ → ℕ → Type 0
IsAboveIn t = IsAbovePair t.runs t.verdicts

-- a run is certified above another by a chain of such verdicts
abbrev pub IsCertifiedIn : ComparedRuns → ℕ → ℕ → Type 0
IsCertifiedIn t = IsCertifiedAbove (IsAboveIn t)

-- ---- covering pairs
-- on how many topics the first run's score is greater by the least difference, and on how many the second's is by the greatest
abbrev pub wins_in : List Ends → ℕ
wins_in ends = count_by (λ (e : Ends). int_lt (pos 0) e.least_lo) ends

abbrev pub losses_in : List Ends → ℕ
losses_in ends = count_by (λ (e : Ends). int_lt e.most_hi (pos 0)) ends

-- a covering pair under a relation, with its wins and losses by the ends that its runs have on each topic
pub record IsCover (Over : ℕ → ℕ → Type 0) (Has : HaveEnds) (t : ComparedRuns) (c : Cover) : Type 0 where
  pub covering : IsCovering Over t.runs c.first c.second
  pub ends : List Ends
  pub named : AreEndsBy Has t.topics c.first c.second ends
  pub wins : c.wins ≡ wins_in ends
  pub losses : c.losses ≡ losses_in ends

-- two runs come before two others: by the first run's number, then by the second's
abbrev pub AreEarlier : ℕ → ℕ → ℕ → ℕ → Type 0
AreEarlier a b first second = (a < first) ⊎ ((a ≡ first) × (b < second))

-- a covering pair comes before another
abbrev pub IsEarlierCover : Cover → Cover → Type 0
IsEarlierCover c d = AreEarlier c.first c.second d.first d.second

-- the list has the covering pair of two runs
pub record HasCoverOf (covers : List Cover) (a b : ℕ) : Type 0 where
  pub cover : Cover
  pub listed : Contains covers cover
  pub first : cover.first ≡ a
  pub second : cover.second ≡ b

-- all covering pairs and no others, ascending
pub record AreCovers (Over : ℕ → ℕ → Type 0) (Has : HaveEnds) (t : ComparedRuns) (covers : List Cover) : Type 0 where
  pub ascending : AllPairs IsEarlierCover covers
  pub each : All (IsCover Over Has t) covers
  pub every : (a b : ℕ) → IsCovering Over t.runs a b → HasCoverOf covers a b

-- ---- the order
-- which run is certified above which, the tier of each run, the greatest tier, and the covering pairs
pub record Ordered : Type 0 where
  pub above : List (List Bool)
  pub tiers : List ℕ
  pub greatest : ℕ
  pub covers : List Cover

-- the order of compared runs, where two rankings have these ends on a topic
pub record IsOrderBy (Has : HaveEnds) (t : ComparedRuns) (order : Ordered) : Type 0 where
  pub square : IsSquare t.runs order.above
  pub certified : (a b : ℕ) → (is_above order.above a b ≡ true) ↔ IsCertifiedIn t a b
  pub count : length order.tiers ≡ t.runs
  pub tiers : AreTiers (IsCertifiedIn t) t.runs (tier_in order.tiers)
  pub greatest : IsGreatestTier order.tiers order.greatest
  pub covers : AreCovers (IsCertifiedIn t) Has t order.covers

-- the order of the runs of a desk under marks by a measure's name
pub record IsOrderIn (name : MeasureName) (desk : Desk) (marks : List (List Mark)) (order : Ordered) : Type 0 where
  pub totals : List Totals
  pub numbers : AreAllPairNumbers name desk marks totals
  pub is : IsOrderBy (HasEnds name) (compared desk marks totals) order

-- a covering pair is of so many runs
pub record CoverIsWithin (runs : ℕ) (c : Cover) : Type 0 where
  pub first : c.first < runs
  pub second : c.second < runs

-- what is kept of an order: a row and a tier for each run, and covering pairs of these runs
pub record IsKeptOrder (above : List (List Bool)) (tiers : List ℕ) (covers : List Cover) : Type 0 where
  pub square : IsSquare (length tiers) above
  pub within : All (CoverIsWithin (length tiers)) covers
