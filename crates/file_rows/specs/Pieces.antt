-- The lines of bytes that arrive in pieces.
use Rattle.std.specs.Prelude.{◌≡◌, ℕ, ◌+◌, ◌<◌, Bool, false, List, [], ◌∷◌, ◌++◌, length, take, Option}
use Rattle.desk_text.specs.Lines.{whole_lines, unended, kept_line, HasNoLineFeed}

-- a reader has read the whole lines of bytes, and unless one of them has a fault, the line that has not ended is kept
pub record HasFed {R : Type 0} (has_read : R → List (List ℕ) → Type 0) (stopped : R → Bool) (reader : R) (line : Option (List ℕ)) (fed : List ℕ) : Type 0 where
  pub read : has_read reader (whole_lines fed)
  pub kept : stopped reader ≡ false → line ≡ kept_line (unended fed)

-- the first line of a piece ends at a place
pub record EndsLine (piece : List ℕ) (end : ℕ) : Type 0 where
  pub within : end < length piece
  pub in_line : HasNoLineFeed (take end piece)
  pub taken : take (end + 1) piece ≡ take end piece ++ 10 ∷ []
