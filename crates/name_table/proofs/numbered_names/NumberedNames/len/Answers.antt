use Rattle.std.proofs.Common.{length, ap, arith}
use Rattle.name_table.proofs.Cutting.{length-cut}
use Rattle.name_table.proofs.numbered_names.NumberedNames.len.Goals as goal

pub returns : goal.returns
returns c = let n = ap length c.self.view_is in omega (arith, length-cut 0 c.self.inside.ends.items c.self.inside.bytes.items, n)
