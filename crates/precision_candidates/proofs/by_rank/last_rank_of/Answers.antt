use Rattle.std.proofs.Common.{arith}
use Rattle.precision_candidates.proofs.LastRanks.{last_next}
use Rattle.precision_candidates.proofs.by_rank.last_rank_of.Goals as goal

pub loop-doc-preserved : goal.loop-doc-preserved
loop-doc-preserved c =
    let l = c.loop-doc in
    record {
      rank = omega (arith, l.invariant.rank);
      last = last_next c.args.run.now.marks.now c.args.run.now.docs.now l.doc-index l.last.rank l.rank l.last.left _ _ _ c.loop-doc-test.true c.with-last.ensures.rank c.with-last.ensures.left l.invariant.last;
    }
