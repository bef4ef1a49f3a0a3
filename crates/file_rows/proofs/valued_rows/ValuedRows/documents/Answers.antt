use Rattle.std.proofs.Common.{◌≡◌, length, sym, ap, ◌∙◌}
use Rattle.std.specs.Prelude.{map}
use Rattle.std.proofs.lemmas.List.{length-map}
use Rattle.file_rows.specs.Grouped.{Valued}
use Rattle.file_rows.proofs.Zipped.{documents-members_in}
use Rattle.file_rows.proofs.valued_rows.ValuedRows.documents.Goals as goal

pub returns : goal.returns
returns g c =
    let values = c.self.inside.values.items in
    let same : length c.self.inside.documents ≡ length (map g.V.RowValue.number values) = c.self.invariant ∙ sym (length-map values g.V.RowValue.number) in
    sym (documents-members_in c.self.inside.documents (map g.V.RowValue.number values) same) ∙ ap (map (λ (valued : Valued). valued.document)) c.self.view_is
