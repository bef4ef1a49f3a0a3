use Rattle.std.proofs.Common.{ap, arith}
use Rattle.std.specs.Prelude.{length, sum_by}
use Rattle.name_table.proofs.Cutting.{sum_by-cut}
use Rattle.name_table.proofs.numbered_names.NumberedNames.name_bytes.Goals as goal

pub returns : goal.returns
returns c =
    let same = ap (sum_by length) c.self.view_is in
    omega (arith, same, sum_by-cut 0 c.self.inside.ends.items c.self.inside.bytes.items c.self.invariant)
