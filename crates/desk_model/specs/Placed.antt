-- Documents with their ranks, ascending by document.
use Rattle.std.specs.Prelude.{◌≡◌, ℕ, ◌+◌, ◌<◌, ◌≤◌, nat_eq, if◌then◌else◌, List, [], ◌∷◌, length, Option, Some, None}
use Rattle.std.specs.List.{AllByRecursion, IsDistinct}
use Rattle.desk_model.specs.Limits.{RANK_LIMIT}
use Rattle.desk_model.specs.Ranking.{rank}
use Rattle.desk_model.specs.declared.placed.Placed.{Placed}

-- the rank that a list has for a document
abbrev pub lookup : List Placed → ℕ → Option ℕ
lookup [] doc = None
lookup (e ∷ es) doc = if nat_eq e.doc doc then Some e.rank else lookup es doc

-- each document comes before all that follow
abbrev pub IsAscending : List Placed → Type 0
IsAscending [] = Unit {0}
IsAscending (e ∷ es) = AllByRecursion (λ f. e.doc < f.doc) es × IsAscending es

-- documents with their ranks in order of the ranks, from a rank on
abbrev pub placed_from : ℕ → List ℕ → List Placed
placed_from n [] = []
placed_from n (doc ∷ docs) = (record { doc = doc; rank = n }) ∷ placed_from (n + 1) docs

-- what a ranking keeps: its documents by rank, and the same ascending by document
pub record KeepsPlaces (docs : List ℕ) (by_doc : List Placed) : Type 0 where
  pub short : length docs ≤ RANK_LIMIT
  pub distinct : IsDistinct nat_eq docs
  pub ascending : IsAscending by_doc
  pub looked_up : (doc : ℕ) → lookup by_doc doc ≡ rank docs doc
