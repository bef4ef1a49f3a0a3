use Rattle.std.proofs.Common.{FitsSigned, rules}
use Rattle.std.specs.Int.{w128}
use Rattle.every_completion.proofs.Wide.{min_read, max_read}
use Rattle.every_completion.proofs.ends.ExtremeEnds.join.Goals as goal

pub returns-clause-least_lo : goal.returns-clause-least_lo
returns-clause-least_lo c =
    let first : FitsSigned w128 c.args.self.least_lo = search rules in
    let second : FitsSigned w128 c.args.other.least_lo = search rules in
    min_read c.args.self.least_lo c.args.other.least_lo c.min.result first second (record { sfits = c.min.type_inv }) c.min.ensures.value

pub returns-clause-least_hi : goal.returns-clause-least_hi
returns-clause-least_hi c =
    let first : FitsSigned w128 c.args.self.least_hi = search rules in
    let second : FitsSigned w128 c.args.other.least_hi = search rules in
    min_read c.args.self.least_hi c.args.other.least_hi c.min-2.result first second (record { sfits = c.min-2.type_inv }) c.min-2.ensures.value

pub returns-clause-most_lo : goal.returns-clause-most_lo
returns-clause-most_lo c =
    let first : FitsSigned w128 c.args.self.most_lo = search rules in
    let second : FitsSigned w128 c.args.other.most_lo = search rules in
    max_read c.args.self.most_lo c.args.other.most_lo c.max.result first second (record { sfits = c.max.type_inv }) c.max.ensures.value

pub returns-clause-most_hi : goal.returns-clause-most_hi
returns-clause-most_hi c =
    let first : FitsSigned w128 c.args.self.most_hi = search rules in
    let second : FitsSigned w128 c.args.other.most_hi = search rules in
    max_read c.args.self.most_hi c.args.other.most_hi c.max-2.result first second (record { sfits = c.max-2.type_inv }) c.max-2.ensures.value
