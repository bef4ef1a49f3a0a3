-- The walk over the documents of two runs, each ascending by document.
use Rattle.std.specs.Prelude.{◌≡◌, ℕ, ◌<◌, nat_eq, if◌then◌else◌, List, [], ◌∷◌, Option, None}
use Rattle.std.specs.List.{AllByRecursion}
use Rattle.desk_model.specs.Placed.{lookup, IsAscending}
use Rattle.desk_model.specs.declared.placed.Placed.{Placed}

-- a list without its first document, where that is this one
abbrev pub after : List Placed → ℕ → List Placed
after [] doc = []
after (x ∷ xs) doc = if nat_eq x.doc doc then xs else x ∷ xs

-- a document that no other of a list comes before, with its rank there, and the list after it
pub record Taken (es : List Placed) (doc : ℕ) (rank : Option ℕ) : Type 0 where
  pub here : rank ≡ lookup es doc
  pub below : (d : ℕ) → d < doc → lookup es d ≡ None
  pub above : (d : ℕ) → doc < d → lookup (after es doc) d ≡ lookup es d
  pub rest : AllByRecursion (λ (e : Placed). doc < e.doc) (after es doc)
  pub ascending : IsAscending (after es doc)
