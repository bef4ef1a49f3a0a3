-- Recall meets the laws of a measure.
use Rattle.std.specs.Prelude.{ℕ}
use Rattle.desk_model.specs.MeasureText.{IsMeasure}
use Rattle.desk_model.specs.declared.types.MeasureName.TheVariants.{Recall}
use Rattle.measure_core.specs.Laws.{MeetsLaws}
use Rattle.measure_core.specs.Made.{AreNumbersOfName}
use Rattle.measure_core.specs.Numbers.{exact_cell, exact_bounds}
use Rattle.measure_core.proofs.Exact as exact

pub laws : (k : ℕ) → IsMeasure (Recall k) → MeetsLaws (Recall k) (exact_cell (Recall k)) (exact_bounds (Recall k))
laws k valid = exact.exact_laws (Recall k) valid tt

pub numbers : (k : ℕ) → IsMeasure (Recall k) → AreNumbersOfName (Recall k) (exact_cell (Recall k)) (exact_bounds (Recall k))
numbers k valid = exact.exact_numbers (Recall k) valid tt
