use Rattle.std.proofs.Common.{sym, subst}
use Rattle.measure_laws.specs.RprecCase.{IsSmallestAttained}
use Rattle.measure_laws.proofs.RprecFirst.{rprec_smallest}
use Rattle.rprec.proofs.extremes.ExtremesPairFinding.find.Goals as goal

pub returns : goal.returns
returns c =
    let p = c.args.pair.now in
    let found = c.extremes.ensures in
    record {
      least = found.least;
      most = found.most;
      least_first = subst (IsSmallestAttained p.marks.now p.a.now p.b.now) (sym found.least.chosen) (rprec_smallest p.marks.now p.a.now p.b.now p.is.a p.is.b);
      most_first = subst (IsSmallestAttained p.marks.now p.b.now p.a.now) (sym found.most.chosen) (rprec_smallest p.marks.now p.b.now p.a.now p.is.b p.is.a);
    }
