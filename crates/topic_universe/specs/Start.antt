-- The first bytes of a name as one number.
use Rattle.std.specs.Prelude.{◌≡◌, ℕ, ◌*◌, ◌-◌, ◌<◌, ◌^◌, List, slice_index_or}
use Rattle.std.specs.List.{range_with_len, sum_by}

-- bytes, and the number whose digits to the base of 256 the first 16 of them are, the first the greatest; zeros stand for bytes that are missing
pub record IsStart (name : List ℕ) (start : ℕ) : Type 0 where
  pub bytes : (k : ℕ) → slice_index_or name k 0 < 256
  pub digits : start ≡ sum_by (λ k. slice_index_or name k 0 * 256 ^ (15 - k)) (range_with_len 0 16)
