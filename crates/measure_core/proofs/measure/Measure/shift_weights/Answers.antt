use Rattle.std.proofs.Common.{◌+◌, ℕ, List, get_or, sym, subst, arith}
use Rattle.measure_laws.specs.Weights.{weight_of}
use Rattle.measure_core.specs.Shifts.{IsShifted}
use Rattle.measure_core.proofs.Shifting.{AreShiftedTo, shifted_over, shifted_next}
use Rattle.measure_core.proofs.Weighing.{weighs_nothing, no_rank}
use Rattle.measure_core.proofs.measure.Measure.shift_weights.Goals as goal
use Rattle.measure_core.proofs.measure.Measure.shift_weights.Goals.{then-is_some, else-is_some+else-is_some-2}

pub loop-doc-preserved : goal.loop-doc-preserved
loop-doc-preserved g c =
    let marks = c.args.marks.now in
    let a = c.args.a.now in
    let b = c.args.b.now in
    let doc = c.loop-doc.doc in
    let measure = g.Self.Measure.measured c.args.self.now in
    let weight = λ (d : ℕ). weight_of measure marks a b d in
    let within = c.loop-doc-test.true in
    elim c.if-is_some.branch [
      | then-is_some w ↦
          subst (λ (now : List ℕ). AreShiftedTo c.args.shift weight c.args.totals.now now (doc + 1)) (sym w.totals-is)
          (shifted_next c.args.shift weight c.args.totals.now c.loop-doc.totals doc _ c.loop-doc.invariant (omega (arith, c.requires.count))
          (subst (λ (n : ℕ). IsShifted c.args.shift n (get_or c.loop-doc.totals doc 0) w.apply.result) w.weight-weight.ensures w.apply.ensures))
      | else-is_some+else-is_some-2 w ↦
          subst (λ (now : List ℕ). AreShiftedTo c.args.shift weight c.args.totals.now now (doc + 1)) (sym w.totals-is)
          (shifted_over c.args.shift weight c.args.totals.now c.loop-doc.totals doc c.loop-doc.invariant
          (weighs_nothing measure marks a b doc (no_rank _ c.rank_of.result c.is_some.result c.rank_of.ensures c.is_some.ensures w.if-is_some.false)
          (no_rank _ w.rank_of-else-is_some.result w.is_some-else-is_some.result w.rank_of-else-is_some.ensures w.is_some-else-is_some.ensures w.if-is_some-2.false)))
    ]
