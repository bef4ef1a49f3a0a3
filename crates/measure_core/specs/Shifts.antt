-- Totals of documents, to which weights are added or from which they are taken back.
use Rattle.std.specs.Prelude.{◌≡◌, ℕ, ◌+◌, ◌^◌, ◌<◌, ◌≤◌, List, length, slice_index}
use Rattle.measure_core.specs.declared.shift.Shift.{Shift}
use Rattle.measure_core.specs.declared.shift.Shift.TheVariants.{Add, TakeBack}

-- a total can be made greater or less by a weight
abbrev pub HasRoom : Shift → ℕ → ℕ → Type 0
HasRoom Add weight total = total + weight < 2 ^ 128
HasRoom TakeBack weight total = weight ≤ total

-- what a total is after a weight was added or taken back
abbrev pub IsShifted : Shift → ℕ → ℕ → ℕ → Type 0
IsShifted Add weight before after = after ≡ before + weight
IsShifted TakeBack weight before after = before ≡ after + weight

-- the total of each document can be made greater or less by the document's weight
abbrev pub HaveRoom : Shift → (ℕ → ℕ) → List ℕ → Type 0
HaveRoom shift weight totals = (doc : ℕ) → doc < length totals → HasRoom shift (weight doc) (slice_index totals doc)

-- the totals after the weight of each document was added to its total or taken back
pub record AreShifted (shift : Shift) (weight : ℕ → ℕ) (before after : List ℕ) : Type 0 where
  pub count : length after ≡ length before
  pub each : (doc : ℕ) → doc < length before → IsShifted shift (weight doc) (slice_index before doc) (slice_index after doc)
