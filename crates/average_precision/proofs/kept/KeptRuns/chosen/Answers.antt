use Rattle.std.proofs.Common.{arith}
use Rattle.measure_core.specs.Pairs.{ranking_on}
use Rattle.measure_laws.proofs.AverageBounds.{bound_hi-most, bound_lo-most}
use Rattle.average_precision.proofs.kept.KeptRuns.chosen.Goals as goal

pub invariant_of-low : goal.invariant_of-low
invariant_of-low c =
    let on = c.args.self.now.on in omega (arith, c.kept-own.ensures.lo, bound_lo-most on.marks.now (ranking_on on.rankings.now c.args.run) (on.met.each c.args.run c.requires))

pub invariant_of-high : goal.invariant_of-high
invariant_of-high c =
    let on = c.args.self.now.on in omega (arith, c.kept-own.ensures.hi, bound_hi-most on.marks.now (ranking_on on.rankings.now c.args.run) (on.met.each c.args.run c.requires))
