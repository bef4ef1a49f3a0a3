use Rattle.std.proofs.Common.{arith}
use Rattle.topic_ends.proofs.counts.all_documents.Goals as goal

pub returns : goal.returns
returns c =
    let all = c.all_documents-all.ensures in
    record {
      relevant = all.least;
      possible = all.most;
      order = omega arith;
      few = omega (arith, all.few, c.requires);
    }
