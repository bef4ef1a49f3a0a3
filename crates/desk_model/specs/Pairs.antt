-- The pairs of runs, in the order in which they are numbered.
use Rattle.std.specs.Prelude.{ℕ, ◌+◌, nat_lt, if◌then◌else◌, List, [], ◌∷◌, ◌++◌, map, drop, slice_get, Option, Some, None}
use Rattle.desk_model.specs.declared.pairs.PairPlaces.{PairPlaces}

-- the first with each later one, then the second with each later one, and so on
abbrev pub pairs_of : {X : Type 0} → List X → List (X × X)
pairs_of [] = []
pairs_of (x ∷ xs) = map (λ y. (x, y)) xs ++ pairs_of xs

-- the pairs of one with some others
abbrev pub pairs_with : {X : Type 0} → Option X → List X → List (X × X)
pairs_with None ys = []
pairs_with (Some x) ys = map (λ y. (x, y)) ys

-- the pairs from that of two places on
abbrev pub pairs_from : {X : Type 0} → PairPlaces → List X → List (X × X)
pairs_from at xs = pairs_with (slice_get xs at.first) (drop at.second xs) ++ pairs_of (drop (at.first + 1) xs)

-- the places after those of a pair
abbrev pub places_after : ℕ → PairPlaces → PairPlaces
places_after runs at = if nat_lt (at.second + 1) runs then record { first = at.first; second = at.second + 1 } else record { first = at.first + 1; second = at.first + 2 }
