use Rattle.desk_model.specs.Desk.{topics_under}
use Rattle.measure_laws.proofs.Refined.{always_above_stays, always_equal_stays}
use Rattle.pair_table.proofs.Refining.{topics_refined}
use Rattle.pair_table.proofs.settled.settled_orders_stay.Goals as goal

pub returns-clause-above : goal.returns-clause-above
returns-clause-above c measure desk marks later a b h always = always_above_stays measure (topics_under desk marks) (topics_under desk later) a b (topics_refined desk marks later h) always

pub returns-clause-equal : goal.returns-clause-equal
returns-clause-equal c measure desk marks later a b h always = always_equal_stays measure (topics_under desk marks) (topics_under desk later) a b (topics_refined desk marks later h) always
