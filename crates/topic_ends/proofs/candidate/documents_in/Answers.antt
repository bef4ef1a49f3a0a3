use Rattle.std.proofs.Common.{false, arith}
use Rattle.topic_ends.proofs.BestNumbers.{documents_fit, possible_fits, relevant_fits}
use Rattle.topic_ends.proofs.candidate.documents_in.Goals as goal

pub overflow_add-result : goal.overflow_add-result
overflow_add-result c =
    let run = c.args.run.now in omega (arith, relevant_fits run.marks.now run.docs.now run.all c.args.count run.ranking run.few run.counts c.requires)

pub overflow_sub-result : goal.overflow_sub-result
overflow_sub-result c =
    let run = c.args.run.now in possible_fits run.marks.now run.docs.now run.all c.args.count run.ranking run.counts c.requires

pub returns-then-high-clause-few : goal.returns-then-high-clause-few
returns-then-high-clause-few c =
    let run = c.args.run.now in relevant_fits run.marks.now run.docs.now run.all c.args.count run.ranking run.few run.counts c.requires

pub returns-else-high-clause-few : goal.returns-else-high-clause-few
returns-else-high-clause-few c =
    let run = c.args.run.now in documents_fit false run.marks.now run.docs.now run.all c.args.count run.ranking run.few run.counts c.requires
