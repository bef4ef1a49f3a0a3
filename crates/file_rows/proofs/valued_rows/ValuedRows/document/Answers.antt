use Rattle.std.proofs.Common.{◌≡◌, length, sym, ap, ◌∙◌, arith}
use Rattle.std.specs.Prelude.{map, slice_get, option_map}
use Rattle.std.proofs.lemmas.List.{length-map}
use Rattle.std.proofs.lemmas.Option.{slice_get-map}
use Rattle.file_rows.specs.Grouped.{Valued}
use Rattle.file_rows.proofs.Zipped.{length-members_in, documents-members_in}
use Rattle.file_rows.proofs.valued_rows.ValuedRows.document.Goals as goal

pub get-requires : goal.get-requires
get-requires g c =
    let values = c.self.inside.values.items in
    let n = ap length c.self.view_is in
    let size = length-map values g.V.RowValue.number in
    let same : length c.self.inside.documents ≡ length (map g.V.RowValue.number values) = c.self.invariant ∙ sym size in
    omega (arith, length-members_in c.self.inside.documents (map g.V.RowValue.number values) same, n, size, c.self.invariant)

pub returns : goal.returns
returns g c =
    let values = c.self.inside.values.items in
    let same : length c.self.inside.documents ≡ length (map g.V.RowValue.number values) = c.self.invariant ∙ sym (length-map values g.V.RowValue.number) in
    ap (λ js. option_map (λ (valued : Valued). valued.document) (slice_get js c.args.i)) (sym c.self.view_is)
    ∙ sym (slice_get-map (λ (valued : Valued). valued.document) _ c.args.i)
    ∙ ap (λ ds. slice_get ds c.args.i) (documents-members_in c.self.inside.documents (map g.V.RowValue.number values) same)
    ∙ c.get.ensures
