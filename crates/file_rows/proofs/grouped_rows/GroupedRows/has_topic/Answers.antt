use Rattle.std.proofs.Common.{ap, sym, ◌∙◌}
use Rattle.std.specs.List.{list_any}
use Rattle.std.specs.Str.{bytes_eq}
use Rattle.file_rows.proofs.Zipped.{names_held}
use Rattle.file_rows.proofs.RowFiles.{holding}
use Rattle.file_rows.proofs.grouped_rows.GroupedRows.has_topic.Goals as goal

pub returns : goal.returns
returns g c =
    c.is_some.ensures ∙ c.place.ensures.found
    ∙ ap (list_any (bytes_eq c.args.name.now)) (sym (names_held (holding c.self.invariant c.self.view_is)))
