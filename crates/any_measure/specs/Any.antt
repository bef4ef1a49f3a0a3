-- What a measure is and answers, by cases.
use Rattle.std.specs.Prelude.{ℕ, List}
use Rattle.desk_model.specs.MeasureText.{IsMeasure}
use Rattle.desk_model.specs.declared.types.Mark.{Mark}
use Rattle.desk_model.specs.declared.types.MeasureName.{MeasureName}
use Rattle.desk_model.specs.declared.types.MeasureName.TheVariants as name
use Rattle.topic_counts.specs.declared.span.Span.{Span}
use Rattle.measure_core.specs.declared.cell.Cell.{Cell}
use Rattle.measure_core.specs.Laws.{MeetsLaws}
use Rattle.measure_core.specs.Numbers.{exact_cell, exact_bounds}
use Rattle.precision.specs.Laws as precision
use Rattle.recall.specs.Laws as recall
use Rattle.recip_rank.specs.Laws as recip_rank
use Rattle.rprec.specs.Laws as rprec
use Rattle.rbp.specs.Laws as rbp
use Rattle.rbp.specs.Numbers.{biased_cell, biased_bounds}
use Rattle.average_precision.specs.Laws as average
use Rattle.average_precision.specs.Numbers.{average_cell, average_bounds}
use Rattle.any_measure.specs.declared.any.AnyMeasure.{AnyMeasure}
use Rattle.any_measure.specs.declared.any.AnyMeasure.TheVariants.{Precision, Recall, RPrecision, Reciprocal, Biased, Average}

-- the name that the measure is of
abbrev pub measured_by : AnyMeasure → MeasureName
measured_by (Precision k) = name.Precision k
measured_by (Recall k) = name.Recall k
measured_by (RPrecision r) = name.RPrecision
measured_by (Reciprocal r) = name.Reciprocal
measured_by (Biased r) = name.Biased r.top r.bottom
measured_by (Average m) = name.AveragePrecision

-- what its cells are
abbrev pub cell_by : AnyMeasure → List Mark → List ℕ → List ℕ → Cell
cell_by (Precision k) = exact_cell (name.Precision k)
cell_by (Recall k) = exact_cell (name.Recall k)
cell_by (RPrecision r) = exact_cell name.RPrecision
cell_by (Reciprocal r) = exact_cell name.Reciprocal
cell_by (Biased r) = biased_cell r.top r.bottom
cell_by (Average m) = average_cell

-- what its bounds are
abbrev pub bounds_by : AnyMeasure → List Mark → List ℕ → Span
bounds_by (Precision k) = exact_bounds (name.Precision k)
bounds_by (Recall k) = exact_bounds (name.Recall k)
bounds_by (RPrecision r) = exact_bounds name.RPrecision
bounds_by (Reciprocal r) = exact_bounds name.Reciprocal
bounds_by (Biased r) = biased_bounds r.top r.bottom
bounds_by (Average m) = average_bounds

pub laws : (m : AnyMeasure) → IsMeasure (measured_by m) → MeetsLaws (measured_by m) (cell_by m) (bounds_by m)
laws (Precision k) valid = precision.laws k valid
laws (Recall k) valid = recall.laws k valid
laws (RPrecision r) valid = rprec.laws
laws (Reciprocal r) valid = recip_rank.laws
laws (Biased r) valid = rbp.laws r.top r.bottom valid
laws (Average m) valid = average.laws
