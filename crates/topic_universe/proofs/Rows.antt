-- How many bytes the names of the first pairs have together.
use Rattle.std.proofs.Common.{◌≡◌, ℕ, ◌+◌, ◌<◌, ◌≤◌, List, [], ◌∷◌, ◌++◌, length, get_or, take, map, ap, sym, ◌∙◌, arith}
use Rattle.std.specs.Prelude.{sum_by}
use Rattle.std.proofs.lemmas.List.{get_or-map, length-map, take_all, take_more}
use Rattle.std.proofs.lemmas.List.Sums.{sum_by-take-le, sum_by_more}
use Rattle.topic_universe.specs.Sorted.{Numbered}
use Rattle.topic_universe.proofs.Placing.{name_of}

module _ (pairs : List Numbered) where
  abbrev pub first_names : ℕ → List (List ℕ)
  first_names i = take i (map name_of pairs)

  abbrev pub first_bytes : ℕ → ℕ
  first_bytes i = sum_by length (first_names i)

  -- one more pair
  module _ (i : ℕ) (pair : Numbered) (lt : i < length pairs) (is : pair ≡ get_or pairs i pair) where
    long : i < length (map name_of pairs)
    long = let same = length-map pairs name_of in omega (arith, same, lt)

    name_here : get_or (map name_of pairs) i [] ≡ name_of pair
    name_here = get_or-map name_of pairs i pair [] lt ∙ ap name_of (sym is)

    pub one_name_more : first_names (i + 1) ≡ first_names i ++ name_of pair ∷ []
    one_name_more = take_more (map name_of pairs) i [] long ∙ ap (λ n. first_names i ++ n ∷ []) name_here

    pub more_bytes : first_bytes (i + 1) ≡ first_bytes i + length (name_of pair)
    more_bytes = sum_by_more length (map name_of pairs) i [] long ∙ ap (λ n. first_bytes i + length n) name_here

  -- all pairs
  pub all_names : (i : ℕ) → length pairs ≤ i → first_names i ≡ map name_of pairs
  all_names i le = let same = length-map pairs name_of in take_all i (map name_of pairs) (omega (arith, same, le))

  pub all_bytes : (i : ℕ) → length pairs ≤ i → first_bytes i ≡ sum_by length (map name_of pairs)
  all_bytes i le = ap (sum_by length) (all_names i le)

  pub within_all : (i : ℕ) → first_bytes i ≤ sum_by length (map name_of pairs)
  within_all i = sum_by-take-le length (map name_of pairs) i
