use Rattle.std.proofs.Common.{rules, ◌≡◌, pos, to_z, of_z}
use Rattle.std.specs.Int.{w128}
use Rattle.measure_laws.specs.Powers.{low_power}
use Rattle.topic_counts.proofs.Enclosures.{low_encloses}
use Rattle.topic_counts.proofs.powers.Powers.low.Goals as goal

pub returns-clause-encloses : goal.returns-clause-encloses
returns-clause-encloses c =
    let value : to_z w128 (of_z w128 c.from.result) ≡ pos (low_power c.args.self.now.top c.args.self.now.bottom c.args.i) = search rules in
    low_encloses c.args.self.now.top c.args.self.now.bottom c.args.i _ value
