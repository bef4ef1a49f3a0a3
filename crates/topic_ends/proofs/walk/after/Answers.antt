use Rattle.topic_ends.proofs.Walks.{after_passed}
use Rattle.topic_ends.proofs.walk.after.Goals as goal

pub returns-clause-from : goal.returns-clause-from
returns-clause-from c = λ docs h. after_passed c.args.doc docs c.args.places.now c.begins_with.result c.from-passed.result h c.begins_with.ensures c.from-passed.ensures
