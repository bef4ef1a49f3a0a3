use Rattle.std.proofs.Common.{rules, ◌≡◌, ◌<◌, pos, Some, to_z, of_z}
use Rattle.std.specs.Int.{w128}
use Rattle.measure_laws.specs.Powers.{low_weight, high_weight}
use Rattle.topic_counts.proofs.Enclosures.{weight_encloses_lo, weight_encloses_hi}
use Rattle.topic_counts.proofs.powers.Powers.weight.Goals as goal

pub returns-clause-encloses_lo : goal.returns-clause-encloses_lo
returns-clause-encloses_lo c =
    let value : to_z w128 (of_z w128 c.from.result) ≡ pos (low_weight c.args.self.now.top c.args.self.now.bottom (Some c.args.i)) = search rules in
    let below : c.args.self.now.top < c.args.self.now.bottom = search rules in
    weight_encloses_lo c.args.self.now.top c.args.self.now.bottom c.args.i _ below c.requires.first value

pub returns-clause-encloses_hi : goal.returns-clause-encloses_hi
returns-clause-encloses_hi c =
    let value : to_z w128 (of_z w128 c.from-2.result) ≡ pos (high_weight c.args.self.now.top c.args.self.now.bottom (Some c.args.i)) = search rules in
    let below : c.args.self.now.top < c.args.self.now.bottom = search rules in
    weight_encloses_hi c.args.self.now.top c.args.self.now.bottom c.args.i _ below c.requires.first value
