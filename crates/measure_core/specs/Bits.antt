-- A bit for each document, 64 in each number.
use Rattle.std.specs.Prelude.{◌≡◌, ℕ, ◌<◌, ◌≤◌, ◌*◌, ◌/◌, ◌%◌, Bool, true, ◌&&◌, nat_eq, List, length, slice_index}
use Rattle.std.specs.Int.{bit_at}
use Rattle.desk_model.specs.Completion.{picked_value}
use Rattle.desk_model.specs.Mark.{mark_at}
use Rattle.desk_model.specs.Ranking.{is_in}
use Rattle.desk_model.specs.declared.types.Mark.{Mark}

-- whether the bit of a document is set
abbrev pub has_bit : List ℕ → ℕ → Bool
has_bit bits doc = nat_eq (bit_at (slice_index bits (doc / 64)) (doc % 64)) 1

-- whether a document with this mark may be relevant
abbrev pub may_be_relevant : Mark → Bool
may_be_relevant mark = picked_value true mark

-- the bits of those documents of a list are set that may be relevant, and no others
pub record AreBitsIn (docs : List ℕ) (marks : List Mark) (bits : List ℕ) : Type 0 where
  pub long : length marks ≤ 64 * length bits
  pub each : (doc : ℕ) → doc < length marks → has_bit bits doc ≡ (is_in docs doc && may_be_relevant (mark_at marks doc))
