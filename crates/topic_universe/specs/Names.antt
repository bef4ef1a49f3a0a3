-- Names, each once.
use Rattle.std.specs.Prelude.{◌≡◌, ◌<◌, ◌≤◌, ◌+◌, ℕ, length, map, slice_index_or, true, All, List, [], ◌∷◌, ◌++◌, if◌then◌else◌}
use Rattle.std.specs.List.{list_any, IsDistinct}
use Rattle.std.specs.Str.{bytes_eq}
use Rattle.desk_model.specs.Name.{is_name}

-- names with one more at their end, where it is not among them
abbrev pub with_name : List (List ℕ) → List ℕ → List (List ℕ)
with_name names name = if list_any (bytes_eq name) names then names else names ++ name ∷ []

-- names with more at their end, each where it is not there yet
abbrev pub with_names : List (List ℕ) → List (List ℕ) → List (List ℕ)
with_names names [] = names
with_names names (name ∷ more) = with_names (with_name names name) more

-- two lists have the same names
abbrev pub HaveSameNames : List (List ℕ) → List (List ℕ) → Type 0
HaveSameNames xs ys = (name : List ℕ) → list_any (bytes_eq name) xs ≡ list_any (bytes_eq name) ys

-- each of some names is among others
abbrev pub AreAmong : List (List ℕ) → List (List ℕ) → Type 0
AreAmong names others = (name : List ℕ) → list_any (bytes_eq name) names ≡ true → list_any (bytes_eq name) others ≡ true

-- names that differ
pub record AreDistinctNames (names : List (List ℕ)) : Type 0 where
  pub named : All (λ name. is_name name ≡ true) names
  pub distinct : IsDistinct bytes_eq names

-- the names with these numbers
abbrev pub numbered_names : List (List ℕ) → List ℕ → List (List ℕ)
numbered_names names numbers = map (λ n. slice_index_or names n []) numbers

-- names to which more are added, each where it is not there yet: those that were there keep their numbers
pub record AddsNames (old more new : List (List ℕ)) : Type 0 where
  pub names : AreDistinctNames new
  pub same : HaveSameNames new (old ++ more)
  pub longer : length old ≤ length new
  pub few : length new ≤ length old + length more
  pub kept : (n : ℕ) → n < length old → slice_index_or new n [] ≡ slice_index_or old n []
