use Rattle.measure_laws.proofs.RefinedEnds.{ends_in_order, named_ends_close_in}
use Rattle.measure_laws.proofs.settled.ends_close_in.Goals as goal

pub returns-clause-least : goal.returns-clause-least
returns-clause-least c measure marks later a b before after valid ra rb h x y = (named_ends_close_in measure marks later a b before after valid ra rb h x y).0

pub returns-clause-most : goal.returns-clause-most
returns-clause-most c measure marks later a b before after valid ra rb h x y = (named_ends_close_in measure marks later a b before after valid ra rb h x y).1

pub returns-clause-order : goal.returns-clause-order
returns-clause-order c = ends_in_order
