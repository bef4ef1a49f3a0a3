use Rattle.std.proofs.Common.{sym, ◌∙◌}
use Rattle.file_rows.proofs.Places.{at_name, no_place, members_on-none}
use Rattle.file_rows.proofs.grouped_rows.GroupedRows.rows_on.Goals as goal

pub at-requires : goal.at-requires
at-requires g c = (at_name c.args.self.now c.args.name.now c.in-Some.t (sym c.place.ensures ∙ c.in-Some.is)).0

pub returns-in-Some : goal.returns-in-Some
returns-in-Some g c = c.at.ensures.rows ∙ (at_name c.args.self.now c.args.name.now c.in-Some.t (sym c.place.ensures ∙ c.in-Some.is)).1

pub returns-in-None : goal.returns-in-None
returns-in-None g c = members_on-none c.args.name.now c.args.self.now (no_place c.args.name.now c.args.self.now (sym c.place.ensures ∙ c.in-None.is))
