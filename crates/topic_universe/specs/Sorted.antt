-- Names that are sorted with their numbers.
use Rattle.std.specs.Prelude.{◌≡◌, ◌<◌, ℕ, All, List, [], length, map, IsPermutation, slice_index_or}
use Rattle.std.specs.Borrow.{Bor}
use Rattle.std.specs.List.{range_with_len}
use Rattle.desk_model.specs.Name.{AreAscending}

-- a name that is borrowed, and its number
abbrev pub Numbered : Type 0
Numbered = Bor (List ℕ) × ℕ

-- the names of a list in ascending order, each with its number in that list
pub record AreSorted (names : List (List ℕ)) (pairs : List Numbered) : Type 0 where
  pub ascending : AreAscending (map (λ pair. pair.0.now) pairs)
  pub moved : IsPermutation names (map (λ pair. pair.0.now) pairs)
  pub numbers : IsPermutation (range_with_len 0 (length names)) (map (λ pair. pair.1) pairs)
  pub linked : All (λ pair. slice_index_or names pair.1 [] ≡ pair.0.now) pairs

-- where a number stands
pub record IsPlaceOf (pairs : List Numbered) (number place : ℕ) : Type 0 where
  pub within : place < length pairs
  pub stands : (d : Numbered) → (slice_index_or pairs place d).1 ≡ number
