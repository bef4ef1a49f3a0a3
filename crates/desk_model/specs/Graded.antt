-- Marks with the pools that they were made under.
use Rattle.std.specs.Prelude.{ℕ, Bool, true, List, [], length, map, slice_index_or, Option, Some, None, ℤ}
use Rattle.std.specs.List.{range_with_len}
use Rattle.desk_model.specs.Desk.{Desk, is_pooled, file_marks}
use Rattle.desk_model.specs.Mark.{mark_of}
use Rattle.desk_model.specs.Pool.{docs_of}
use Rattle.desk_model.specs.declared.types.Mark.{Mark}
use Rattle.desk_model.specs.Closing.{closed, closed_under}

-- which documents of each topic are in the pool, where there is a depth
abbrev pub Pools : Type 0
Pools = Option (List (List Bool))

-- the marks of all documents, and the pools
pub record Marked : Type 0 where
  pub rows : List (List Mark)
  pub pools : Pools

-- whether a document counts as one of the pool
abbrev pub is_in_pools : Pools → ℕ → ℕ → Bool
is_in_pools None topic doc = true
is_in_pools (Some pools) topic doc = slice_index_or (slice_index_or pools topic []) doc true

-- the mark of a document with a grade in force
abbrev pub mark_within : Option ℤ → ℕ → Bool → Mark
mark_within grade level pooled = closed pooled (mark_of grade level)

-- whether each document of each topic is in the pool of a depth
abbrev pub pool_rows : Desk → ℕ → List (List Bool)
pool_rows desk depth = map (λ topic. map (is_pooled desk topic depth) (docs_of desk topic)) (range_with_len 0 (length desk.topics))

-- the pools of a desk
abbrev pub pools_of : Desk → Option ℕ → Pools
pools_of desk None = None
pools_of desk (Some depth) = Some (pool_rows desk depth)

-- the marks of a desk by the grades of its judgements file, at a level and under a depth
abbrev pub marks_of_file : Desk → ℕ → Option ℕ → Marked
marks_of_file desk level depth = record { rows = closed_under desk depth (map (file_marks level) desk.topics); pools = pools_of desk depth }
