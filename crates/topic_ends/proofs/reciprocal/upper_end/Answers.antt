use Rattle.std.proofs.Common.{◌≡◌, to_z, of_z, arith, sym}
use Rattle.std.specs.Int.{w128}
use Rattle.std.proofs.lemmas.Int.{ints}
use Rattle.topic_ends.proofs.Ceilings.{ranks_upper}
use Rattle.topic_ends.proofs.reciprocal.upper_end.Goals as goal

pub returns : goal.returns
returns g c =
    let same : to_z w128 (of_z w128 c.ceiling.result) ≡ c.ceiling.result = omega (arith, ints) in
    ranks_upper _ _ c.first_relevant.result c.first_relevant-2.result c.difference.result c.ceiling.result _ (sym c.first_relevant.ensures.first) (sym c.first_relevant-2.ensures.first) c.difference.ensures same c.ceiling.ensures
