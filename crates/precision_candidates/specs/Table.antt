-- What the parts of a rank are computed from.
use Rattle.std.specs.Prelude.{◌≡◌, ℕ, ◌+◌, ◌-◌, ◌*◌, ◌<◌, ◌/◌, ◌%◌, List, length, slice_index_or}
use Rattle.desk_model.specs.Limits.{PARTS_OF_ONE, RANK_LIMIT}
use Rattle.precision_candidates.specs.Inverse.{inverse_of}
use Rattle.precision_candidates.specs.declared.table.Part.{Part}

pub record IsPart (rank : ℕ) (part : Part) : Type 0 where
  pub whole : part.whole ≡ PARTS_OF_ONE / rank
  pub rest : part.rest ≡ PARTS_OF_ONE % rank * inverse_of rank
  pub up : part.up ≡ (rank - 1) * inverse_of rank

-- the parts of the first ranks, so many of them
pub record ArePartsTo (n : ℕ) (parts : List Part) : Type 0 where
  pub long : length parts ≡ n
  pub each : (place : ℕ) → place < n → (none : Part) → IsPart (place + 1) (slice_index_or parts place none)

-- the parts of all ranks of a run
abbrev pub AreParts : List Part → Type 0
AreParts parts = ArePartsTo RANK_LIMIT parts
