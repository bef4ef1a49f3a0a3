use Rattle.std.proofs.Common.{rules, ◌≡◌, ◌<◌, pos, to_z, of_z}
use Rattle.std.specs.Int.{w128}
use Rattle.measure_laws.specs.Powers.{high_power}
use Rattle.topic_counts.proofs.Enclosures.{high_encloses}
use Rattle.topic_counts.proofs.powers.Powers.high.Goals as goal

pub returns-clause-encloses : goal.returns-clause-encloses
returns-clause-encloses c =
    let value : to_z w128 (of_z w128 c.from.result) ≡ pos (high_power c.args.self.now.top c.args.self.now.bottom c.args.i) = search rules in
    let below : c.args.self.now.top < c.args.self.now.bottom = search rules in
    high_encloses c.args.self.now.top c.args.self.now.bottom c.args.i _ below value
