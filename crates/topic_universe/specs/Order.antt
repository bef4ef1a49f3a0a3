-- The order in which trec_eval ranks the rows of a topic, with ties by name.
use Rattle.std.specs.Prelude.{◌≡◌, ℕ, List, map, IsPermutation}
use Rattle.std.specs.List.Sorted.{IsStrictlySortedBy}
use Rattle.std.specs.declared.cmp.Ordering.{Ordering}
use Rattle.std.specs.Ordering.{int_cmp, on, flip_args, then_cmp}
use Rattle.desk_model.specs.Name.{name_cmp}
use Rattle.file_rows.specs.Grouped.{Valued}

-- a row stands before another where it has the greater score, or an equal score and the greater name
abbrev pub trec_cmp : Valued → Valued → Ordering
trec_cmp = then_cmp (flip_args (on (λ row. row.value) int_cmp)) (flip_args (on (λ row. row.document) name_cmp))

-- the names of the rows, each once, in an order in which each row stands before those after it
pub record IsTrecOrder (rows : List Valued) (names : List (List ℕ)) : Type 0 where
  pub ranked : List Valued
  pub once : IsPermutation rows ranked
  pub ordered : IsStrictlySortedBy trec_cmp ranked
  pub are_names : names ≡ map (λ row. row.document) ranked
