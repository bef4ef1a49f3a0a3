use Rattle.std.proofs.Common.{◌≡◌, pos, ◌-ℤ◌, to_z, of_z, arith}
use Rattle.std.specs.Int.{w128}
use Rattle.std.proofs.lemmas.Int.{ints}
use Rattle.topic_ends.proofs.Lows.{whole_upper}
use Rattle.topic_ends.proofs.precision.upper_end.Goals as goal

pub returns : goal.returns
returns g c =
    let same : to_z w128 (of_z w128 (to_z w128 (of_z w128 c.from.result) -ℤ to_z w128 (of_z w128 c.from-2.result))) ≡ pos c.relevant_among-first.result -ℤ pos c.relevant_among-second.result = omega (arith, ints) in
    whole_upper c.args.k _ _ _ _ _ (omega arith) same c.relevant_among-first.ensures.count c.relevant_among-second.ensures.count
