use Rattle.measure_laws.proofs.Persistence.{ends_in_order, swapped_in_order, ends_swapped}
use Rattle.measure_laws.proofs.laws.biased_ends_are_in_order.Goals as goal

pub returns-clause-least : goal.returns-clause-least
returns-clause-least c = ends_in_order

pub returns-clause-most : goal.returns-clause-most
returns-clause-most c = swapped_in_order

pub returns-clause-mirror : goal.returns-clause-mirror
returns-clause-mirror c = ends_swapped
