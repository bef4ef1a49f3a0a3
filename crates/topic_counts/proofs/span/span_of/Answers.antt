use Rattle.topic_counts.proofs.Products.{positive_read, product_fits, product_low, product_high, product_floor, product_ceiling}
use Rattle.topic_counts.proofs.span.span_of.Goals as goal

pub overflow_mul-n : goal.overflow_mul-n
overflow_mul-n c = product_fits c.args.unit c.args.num c.requires.unit c.requires.unit_small c.requires.num_low c.requires.num_high c.ranges.unit c.ranges.num

pub floor-requires-clause-positive : goal.floor-requires-clause-positive
floor-requires-clause-positive c = positive_read c.args.den c.ranges.den c.requires.den

pub floor-requires-clause-low : goal.floor-requires-clause-low
floor-requires-clause-low c = product_low c.args.unit c.args.num c.requires.unit c.requires.unit_small c.requires.num_low c.requires.num_high

pub floor-requires-clause-high : goal.floor-requires-clause-high
floor-requires-clause-high c = product_high c.args.unit c.args.num c.requires.unit c.requires.unit_small c.requires.num_low c.requires.num_high

pub ceiling-requires-clause-positive : goal.ceiling-requires-clause-positive
ceiling-requires-clause-positive c = positive_read c.args.den c.ranges.den c.requires.den

pub ceiling-requires-clause-low : goal.ceiling-requires-clause-low
ceiling-requires-clause-low c = product_low c.args.unit c.args.num c.requires.unit c.requires.unit_small c.requires.num_low c.requires.num_high

pub ceiling-requires-clause-high : goal.ceiling-requires-clause-high
ceiling-requires-clause-high c = product_high c.args.unit c.args.num c.requires.unit c.requires.unit_small c.requires.num_low c.requires.num_high

pub returns-clause-floor : goal.returns-clause-floor
returns-clause-floor c = product_floor c.args.unit c.args.num c.requires.unit c.requires.unit_small c.requires.num_low c.requires.num_high c.args.den c.floor.result c.ranges.den (record { sfits = c.floor.type_inv }) c.floor.ensures.floor

pub returns-clause-ceiling : goal.returns-clause-ceiling
returns-clause-ceiling c = product_ceiling c.args.unit c.args.num c.requires.unit c.requires.unit_small c.requires.num_low c.requires.num_high c.args.den c.ceiling.result c.ranges.den (record { sfits = c.ceiling.type_inv }) c.ceiling.ensures
