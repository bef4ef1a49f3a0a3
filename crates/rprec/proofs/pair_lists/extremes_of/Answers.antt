use Rattle.rprec.proofs.Ends.{topic_is}
use Rattle.rprec.proofs.pair_lists.extremes_of.Goals as goal

pub invariant_of-find-clause-topic : goal.invariant_of-find-clause-topic
invariant_of-find-clause-topic c = let all = c.requires.all.topic in topic_is c.args.summed.now.marks.now c.args.all all.least all.most
