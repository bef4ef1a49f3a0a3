use Rattle.std.proofs.Common.{◌≡◌, length, sym, ap, ◌∙◌}
use Rattle.std.specs.Prelude.{map}
use Rattle.std.proofs.lemmas.List.{length-map}
use Rattle.file_rows.specs.Grouped.{stands_in}
use Rattle.file_rows.proofs.Zipped.{stands_in-members}
use Rattle.file_rows.proofs.distinct_rows.DistinctRows.contains.Goals as goal

pub returns : goal.returns
returns g c =
    let values = c.self.inside.values.items in
    let document = c.args.document.now in
    let same : length c.self.inside.documents ≡ length (map g.V.RowValue.number values) = c.self.invariant ∙ sym (length-map values g.V.RowValue.number) in
    c.is_some.ensures ∙ c.place.ensures.found ∙ sym (stands_in-members document c.self.inside.documents (map g.V.RowValue.number values) same) ∙ ap (stands_in document) c.self.view_is
