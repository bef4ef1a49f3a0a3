use Rattle.std.proofs.Common.{length, ap, arith, length-append}
use Rattle.std.specs.Prelude.{flat_map}
use Rattle.name_table.proofs.Blocks.{length-blocks}
use Rattle.name_table.proofs.blocked_names.BlockedNames.len.Goals as goal

pub returns : goal.returns
returns c =
    let blocks = c.self.inside.whole.items in
    let both = length-append (flat_map (λ block. block) blocks) c.self.inside.last in
    let whole = length-blocks (λ block. block) blocks c.self.invariant.whole in
    omega (arith, both, whole, c.len.ensures, c.len-2.ensures, ap length c.self.view_is)
