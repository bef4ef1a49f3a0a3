use Rattle.desk_model.specs.Desk.{topics_under}
use Rattle.measure_laws.proofs.Refined.{always_above_stays, always_equal_stays}
use Rattle.pair_table.proofs.Refining.{topics_refined}
use Rattle.desk_model.specs.Closing.{closed_under}
use Rattle.pair_table.proofs.Deeper.{refines}
use Rattle.pair_table.proofs.smaller_depths.orders_hold_under_smaller_depths.Goals as goal

pub returns-clause-above : goal.returns-clause-above
returns-clause-above c measure desk marks deep depth a b le =
    always_above_stays measure (topics_under desk (closed_under desk deep marks)) (topics_under desk (closed_under desk depth marks)) a b
    (topics_refined desk (closed_under desk deep marks) (closed_under desk depth marks) (refines desk marks deep depth le))

pub returns-clause-equal : goal.returns-clause-equal
returns-clause-equal c measure desk marks deep depth a b le =
    always_equal_stays measure (topics_under desk (closed_under desk deep marks)) (topics_under desk (closed_under desk depth marks)) a b
    (topics_refined desk (closed_under desk deep marks) (closed_under desk depth marks) (refines desk marks deep depth le))
