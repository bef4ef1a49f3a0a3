use Rattle.std.proofs.Common.{ap, ◌∙◌}
use Rattle.std.specs.Prelude.{is_some, map}
use Rattle.std.specs.List.{list_any}
use Rattle.std.specs.Str.{bytes_eq}
use Rattle.name_table.proofs.Positions.{some_position}
use Rattle.name_table.proofs.named_set.NamedSet.found.Goals as goal

pub returns-clause-found : goal.returns-clause-found
returns-clause-found g c =
    let name = c.args.name.now in
    ap is_some c.find.ensures ∙ some_position (bytes_eq name) (map g.K.Named.name c.self.inside.keys.items) ∙ ap (list_any (bytes_eq name)) c.self.view_is
