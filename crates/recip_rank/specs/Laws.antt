-- Reciprocal rank meets the laws of a measure.
use Rattle.desk_model.specs.declared.types.MeasureName.TheVariants.{Reciprocal}
use Rattle.measure_core.specs.Laws.{MeetsLaws}
use Rattle.measure_core.specs.Made.{AreNumbersOfName}
use Rattle.measure_core.specs.Numbers.{exact_cell, exact_bounds}
use Rattle.measure_core.proofs.Exact as exact

pub laws : MeetsLaws Reciprocal (exact_cell Reciprocal) (exact_bounds Reciprocal)
laws = exact.exact_laws Reciprocal tt tt

pub numbers : AreNumbersOfName Reciprocal (exact_cell Reciprocal) (exact_bounds Reciprocal)
numbers = exact.exact_numbers Reciprocal tt tt
