-- The documents of a ranking with their ranks, as a walk over the documents of two rankings passes them.
use Rattle.std.specs.Prelude.{◌≡◌, ℕ, ◌≤◌, List, [], ◌∷◌, Option, Some, None}
use Rattle.std.specs.List.{AllByRecursion}
use Rattle.desk_model.specs.Placed.{lookup, IsAscending}
use Rattle.desk_model.specs.Ranking.{rank}
use Rattle.desk_model.specs.declared.placed.Placed.{Placed}

-- the documents of a ranking from one on, with their ranks, ascending by document
pub record AreFrom (doc : ℕ) (docs : List ℕ) (places : List Placed) : Type 0 where
  pub ascending : IsAscending places
  pub from : AllByRecursion (λ (e : Placed). doc ≤ e.doc) places
  pub ranks : (d : ℕ) → doc ≤ d → lookup places d ≡ rank docs d

-- the first document of some places
abbrev pub first_of : List Placed → Option ℕ
first_of [] = None
first_of (e ∷ es) = Some e.doc
