use Rattle.std.proofs.Common.{◌-◌, arith, sym, ap, ◌∙◌}
use Rattle.name_table.specs.Cut.{start_at}
use Rattle.name_table.proofs.Cutting.{start_at-first, start_at-later}
use Rattle.name_table.proofs.numbered_names.start_of.Goals as goal

pub returns-then-i-eq0 : goal.returns-then-i-eq0
returns-then-i-eq0 c = sym (ap (start_at 0 c.args.ends.now) c.if-i-eq0.true ∙ start_at-first 0 c.args.ends.now)

pub returns-else-i-eq0 : goal.returns-else-i-eq0
returns-else-i-eq0 c = sym (start_at-later 0 c.args.ends.now (c.args.i - 1) c.args.i (omega arith) (omega arith))
