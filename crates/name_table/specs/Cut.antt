-- Names as bytes and ends.
use Rattle.std.specs.Prelude.{◌≡◌, ◌≤◌, ℕ, zero, suc, List, [], ◌∷◌, length, slice_range}

-- the pieces of bytes from a place on, by their ends
abbrev pub cut : ℕ → List ℕ → List ℕ → List (List ℕ)
cut start [] bytes = []
cut start (end ∷ ends) bytes = slice_range bytes start end ∷ cut end ends bytes

-- the ends ascend, and the last is the end of the bytes
abbrev pub IsCut : ℕ → List ℕ → List ℕ → Type 0
IsCut start [] bytes = start ≡ length bytes
IsCut start (end ∷ ends) bytes = (start ≤ end) × IsCut end ends bytes

-- where a piece begins, by its number from 0
abbrev pub start_at : ℕ → List ℕ → ℕ → ℕ
start_at start [] i = start
start_at start (end ∷ ends) zero = start
start_at start (end ∷ ends) (suc i) = start_at end ends i
