-- Where the numbers of two runs are among those of all pairs.
use Rattle.std.specs.Prelude.{◌≡◌, ℕ, slice_get, Some}
use Rattle.desk_model.specs.Pairs.{pairs_of}
use Rattle.pair_table.specs.Sums.{run_numbers}
use Rattle.pair_table.specs.declared.two_runs.PairPlace.{PairPlace}
use Rattle.pair_table.specs.declared.two_runs.PairPlace.TheVariants.{InOrder, Swapped}

-- beside the pair of them, or beside the pair of the swapped runs
abbrev pub IsPlaceOf : ℕ → ℕ → ℕ → PairPlace → Type 0
IsPlaceOf runs first second (InOrder place) = slice_get (pairs_of (run_numbers runs)) place ≡ Some (first, second)
IsPlaceOf runs first second (Swapped place) = slice_get (pairs_of (run_numbers runs)) place ≡ Some (second, first)
