use Rattle.std.proofs.Common.{sym, subst, arith, rules}
use Rattle.sheet_merge.specs.Sheet.{IsSheet}
use Rattle.sheet_merge.proofs.Maps.{no_map}
use Rattle.sheet_merge.proofs.sheet.Sheet.empty.Goals as goal

pub new-requires-2 : goal.new-requires-2
new-requires-2 c = subst IsSheet (sym c.new.ensures) (record { is_map = no_map; few = omega arith; right = search rules })
