use Rattle.std.proofs.Common.{ap, ◌∙◌}
use Rattle.name_table.specs.Table.{number_in}
use Rattle.name_table.proofs.ByName.{lookup_named}
use Rattle.name_table.proofs.by_name.NumbersByName.get.Goals as goal

pub returns-in-Some : goal.returns-in-Some
returns-in-Some c = c.in-Some.ensures.value ∙ lookup_named c.args.name.now c.self.inside.numbers.entries ∙ ap (number_in c.args.name.now) c.self.view_is

pub returns-in-None : goal.returns-in-None
returns-in-None c = c.in-None.ensures.value ∙ lookup_named c.args.name.now c.self.inside.numbers.entries ∙ ap (number_in c.args.name.now) c.self.view_is
