use Rattle.rprec.proofs.Ends.{topic_is}
use Rattle.rprec.proofs.rprec.topic.Goals as goal

pub returns-clause-topic : goal.returns-clause-topic
returns-clause-topic c = topic_is c.args.marks.now c.all_documents.result c.all_documents.ensures.least c.all_documents.ensures.most
