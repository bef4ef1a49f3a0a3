-- Precision meets the laws of a measure.
use Rattle.std.specs.Prelude.{ℕ}
use Rattle.desk_model.specs.MeasureText.{IsMeasure}
use Rattle.desk_model.specs.declared.types.MeasureName.TheVariants.{Precision}
use Rattle.measure_core.specs.Laws.{MeetsLaws}
use Rattle.measure_core.specs.Made.{AreNumbersOfName}
use Rattle.measure_core.specs.Numbers.{exact_cell, exact_bounds}
use Rattle.measure_core.proofs.Exact as exact

pub laws : (k : ℕ) → IsMeasure (Precision k) → MeetsLaws (Precision k) (exact_cell (Precision k)) (exact_bounds (Precision k))
laws k valid = exact.exact_laws (Precision k) valid tt

pub numbers : (k : ℕ) → IsMeasure (Precision k) → AreNumbersOfName (Precision k) (exact_cell (Precision k)) (exact_bounds (Precision k))
numbers k valid = exact.exact_numbers (Precision k) valid tt
