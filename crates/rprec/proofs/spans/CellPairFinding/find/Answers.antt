use Rattle.rprec.proofs.Ends.{within_one}
use Rattle.rprec.proofs.spans.CellPairFinding.find.Goals as goal

pub span-requires : goal.span-requires
span-requires c = let p = c.args.pair.now in within_one p.marks.now p.a.now p.b.now _ c.find-extremes.ensures.least

pub span-requires-2 : goal.span-requires-2
span-requires-2 c = let p = c.args.pair.now in within_one p.marks.now p.b.now p.a.now _ c.find-extremes.ensures.most
