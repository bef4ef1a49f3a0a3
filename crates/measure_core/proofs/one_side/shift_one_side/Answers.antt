use Rattle.std.proofs.Common.{sym}
use Rattle.measure_laws.specs.Weights.{one_side_weight}
use Rattle.measure_core.specs.OneSide.{by_worth}
use Rattle.measure_core.specs.Worths.{worths_apart}
use Rattle.measure_core.proofs.Sides.{room_same, shifted_same, side_by_ranks}
use Rattle.measure_core.proofs.one_side.shift_one_side.Goals as goal

pub shift_by_ranks-requires-clause-room : goal.shift_by_ranks-requires-clause-room
shift_by_ranks-requires-clause-room c =
    room_same c.args.shift (one_side_weight c.args.k c.args.a.now c.args.b.now) (worths_apart (by_worth c.args.k) c.args.a.now c.args.b.now) c.args.totals.now (side_by_ranks c.args.k c.args.a.now c.args.b.now) c.requires.room

pub returns-else-k-le-LOOKED_UP : goal.returns-else-k-le-LOOKED_UP
returns-else-k-le-LOOKED_UP c =
    shifted_same c.args.shift (worths_apart (by_worth c.args.k) c.args.a.now c.args.b.now) (one_side_weight c.args.k c.args.a.now c.args.b.now) c.args.totals.now c.shift_by_ranks.new.totals
    (λ doc. sym (side_by_ranks c.args.k c.args.a.now c.args.b.now doc)) c.shift_by_ranks.ensures
