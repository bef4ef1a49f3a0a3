use Rattle.std.proofs.Common.{sym}
use Rattle.measure_laws.proofs.LeastDifferences.{open_size}
use Rattle.recall.proofs.recall.least_values.Goals as goal

pub leads-leads-requires-clause-own : goal.leads-leads-requires-clause-own
leads-leads-requires-clause-own c =
    let second = c.own_counts-own.result.second in
    sym (open_size c.args.marks.now c.args.b.now c.args.a.now c.args.k second.relevant second.unjudged c.requires.second c.own_counts-own.ensures.second.least c.own_counts-own.ensures.second.most)
