use Rattle.std.proofs.Common.{ap, ◌∙◌}
use Rattle.std.specs.Prelude.{is_some}
use Rattle.std.specs.List.{list_any}
use Rattle.std.specs.Str.{bytes_eq}
use Rattle.name_table.proofs.Positions.{some_position}
use Rattle.name_table.proofs.distinct_names.DistinctNames.place.Goals as goal

pub returns-clause-found : goal.returns-clause-found
returns-clause-found c =
    let name = c.args.name.now in
    ap is_some c.find.ensures ∙ some_position (bytes_eq name) c.self.inside.names ∙ ap (list_any (bytes_eq name)) c.self.view_is
