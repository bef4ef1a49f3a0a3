use Rattle.std.proofs.Common.{length, arith}
use Rattle.measure_core.specs.Pairs.{ranking_on}
use Rattle.measure_laws.specs.AverageEnds.{high_case, low_case}
use Rattle.measure_laws.proofs.AverageBounds.{bound_hi-most, bound_lo-most, high_average-most, low_average-most}
use Rattle.average_precision.proofs.CrossedPlaces.{crossed_at, high_small, low_small}
use Rattle.average_precision.proofs.cells.CrossedRuns.pair_run.Goals as goal

pub invariant_of-numbers : goal.invariant_of-numbers
invariant_of-numbers c =
    let on = c.args.self.now.kept.on in
    let marks = on.marks.now in
    let docs = ranking_on on.rankings.now c.args.run in
    let ranking = on.met.each c.args.run c.requires.run in
    let kept = c.kept-kept.ensures in
    record {
      lo_small = omega (arith, kept.lo, bound_lo-most marks docs ranking);
      hi_small = omega (arith, kept.hi, bound_hi-most marks docs ranking);
      in_high_small = omega (arith, kept.low_in_high, low_average-most (length marks) (high_case marks docs) docs ranking);
      in_low_small = omega (arith, kept.high_in_low, high_average-most (length marks) (low_case marks docs) docs ranking);
    }

pub invariant_of-result-clause-in_high_small : goal.invariant_of-result-clause-in_high_small
invariant_of-result-clause-in_high_small c =
    let on = c.args.self.now.kept.on in
    let t = on.rankings.now in
    let marks = on.marks.now in
    rw c.runs.ensures.count
    (high_small marks (ranking_on t c.args.run) (ranking_on t c.args.other) _ (on.met.each c.args.other c.requires.other)
    (crossed_at marks t c.args.run c.args.other c.args.self.now.crossed.now _ c.requires.run c.requires.other c.args.self.now.each))

pub invariant_of-result-clause-in_low_small : goal.invariant_of-result-clause-in_low_small
invariant_of-result-clause-in_low_small c =
    let on = c.args.self.now.kept.on in
    let t = on.rankings.now in
    let marks = on.marks.now in
    rw c.runs.ensures.count
    (low_small marks (ranking_on t c.args.run) (ranking_on t c.args.other) _ (on.met.each c.args.other c.requires.other)
    (crossed_at marks t c.args.run c.args.other c.args.self.now.crossed.now _ c.requires.run c.requires.other c.args.self.now.each))

pub returns : goal.returns
returns c =
    let on = c.args.self.now.kept.on in
    let kept = c.kept-kept.ensures in
    record {
      numbers = record { lo = kept.lo; hi = kept.hi; low_in_high = kept.low_in_high; high_in_low = kept.high_in_low };
      other = rw c.runs.ensures.count (crossed_at on.marks.now on.rankings.now c.args.run c.args.other c.args.self.now.crossed.now _ c.requires.run c.requires.other c.args.self.now.each);
    }
