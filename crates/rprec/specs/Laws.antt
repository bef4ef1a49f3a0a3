-- R-precision meets the laws of a measure.
use Rattle.desk_model.specs.declared.types.MeasureName.TheVariants.{RPrecision}
use Rattle.measure_core.specs.Laws.{MeetsLaws}
use Rattle.measure_core.specs.Made.{AreNumbersOfName}
use Rattle.measure_core.specs.Numbers.{exact_cell, exact_bounds}
use Rattle.measure_core.proofs.Exact as exact

pub laws : MeetsLaws RPrecision (exact_cell RPrecision) (exact_bounds RPrecision)
laws = exact.exact_laws RPrecision tt tt

pub numbers : AreNumbersOfName RPrecision (exact_cell RPrecision) (exact_bounds RPrecision)
numbers = exact.exact_numbers RPrecision tt tt
