use Rattle.pair_table.proofs.Refining.{least_rises_in_sums, most_falls_in_sums, named_bounds_close_in, low_rises, high_falls}
use Rattle.pair_table.proofs.settled.numbers_close_in.Goals as goal

pub returns-clause-least : goal.returns-clause-least
returns-clause-least c = least_rises_in_sums

pub returns-clause-most : goal.returns-clause-most
returns-clause-most c = most_falls_in_sums

pub returns-clause-topic : goal.returns-clause-topic
returns-clause-topic c = named_bounds_close_in

pub returns-clause-low : goal.returns-clause-low
returns-clause-low c = low_rises

pub returns-clause-high : goal.returns-clause-high
returns-clause-high c = high_falls
