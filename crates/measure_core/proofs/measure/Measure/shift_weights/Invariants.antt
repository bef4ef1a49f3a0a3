use Rattle.measure_laws.specs.Weights.{weight_of}
use Rattle.measure_core.proofs.Shifting.{AreShiftedTo}
use Rattle.measure_core.proofs.measure.Measure.shift_weights.Given as goal

abbrev pub invariant-loop-doc : goal.invariant-loop-doc
invariant-loop-doc g l = AreShiftedTo l.shift (weight_of (g.Self.Measure.measured l.self) l.marks l.a l.b) l.initial.totals l.totals l.doc
