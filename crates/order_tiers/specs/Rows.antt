-- Which runs are above which, as one row of truth values for each run.
use Rattle.std.specs.Prelude.{◌≡◌, ℕ, ◌+◌, ◌<◌, ◌≤◌, Bool, true, false, List, [], map, length, slice_index_or, All, count_by}
use Rattle.desk_model.specs.Limits.{RUN_LIMIT}
use Rattle.measure_core.specs.Bits.{has_bit}
use Rattle.measure_core.specs.Pairs.{run_numbers}
use Rattle.order_tiers.specs.Chains.{IsTransitive, IsIrreflexive}
use Rattle.order_tiers.specs.Tiers.{IsTierOf, tier_in}

-- whether a row has a run
abbrev pub has : List Bool → ℕ → Bool
has row run = slice_index_or row run false

-- a row of so many runs that has none of them
pub record IsEmptyRow (runs : ℕ) (row : List Bool) : Type 0 where
  pub long : length row ≡ runs
  pub none : (run : ℕ) → has row run ≡ false

-- the row of so many runs that bits stand for
unfoldable pub row_of : ℕ → List ℕ → List Bool
row_of runs bits = map (has_bit bits) (run_numbers runs)

-- words have a bit for each of so many runs
pub record AreWords (runs : ℕ) (words : List ℕ) : Type 0 where
  pub few : runs ≤ RUN_LIMIT
  pub enough : length words ≡ 4

-- whether the first run is above the second
abbrev pub is_above : List (List Bool) → ℕ → ℕ → Bool
is_above rows a b = has (slice_index_or rows a []) b

-- the relation that rows stand for
abbrev pub AboveBy : List (List Bool) → ℕ → ℕ → Type 0
AboveBy rows a b = is_above rows a b ≡ true

-- so many rows of so many runs
pub record IsSquare (runs : ℕ) (rows : List (List Bool)) : Type 0 where
  pub few : runs ≤ RUN_LIMIT
  pub count : length rows ≡ runs
  pub wide : All (λ row. length row ≡ runs) rows

-- rows are those of a strict order: above leads on, and no run is above itself
pub record IsStrictOrder (rows : List (List Bool)) : Type 0 where
  pub square : IsSquare (length rows) rows
  pub leads : IsTransitive (AboveBy rows)
  pub never : IsIrreflexive (AboveBy rows)

-- how many runs are above a run
abbrev pub count_above : List (List Bool) → ℕ → ℕ
count_above rows run = count_by (λ row. has row run) rows

-- a number for each run: how many runs are above it
pub record AreCountsAbove (rows : List (List Bool)) (counts : List ℕ) : Type 0 where
  pub long : length counts ≡ length rows
  pub each : (run : ℕ) → run < length rows → tier_in counts run ≡ count_above rows run

-- each run with fewer than so many runs above it has its tier, and no tier exceeds that number by more than 1
pub record HaveTiersBelow (rows : List (List Bool)) (tiers : List ℕ) (count : ℕ) : Type 0 where
  pub long : length tiers ≡ length rows
  pub each : (run : ℕ) → run < length rows → count_above rows run < count → IsTierOf (AboveBy rows) (length rows) (tier_in tiers) run (tier_in tiers run)
  pub small : (run : ℕ) → run < length rows → tier_in tiers run ≤ count_above rows run + 1
