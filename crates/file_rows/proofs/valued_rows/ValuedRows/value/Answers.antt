use Rattle.std.proofs.Common.{◌≡◌, ◌<◌, length, sym, ap, ◌∙◌, arith, refl}
use Rattle.std.specs.Prelude.{map, slice_get, option_map}
use Rattle.std.proofs.lemmas.List.{length-map}
use Rattle.std.proofs.lemmas.Option.{slice_get-map, slice_get_read}
use Rattle.file_rows.specs.Grouped.{Valued}
use Rattle.file_rows.proofs.Zipped.{length-members_in, values-members_in}
use Rattle.file_rows.proofs.valued_rows.ValuedRows.value.Goals as goal

pub index-requires : goal.index-requires
index-requires g c =
    let values = c.self.inside.values.items in
    let n = ap length c.self.view_is in
    let size = length-map values g.V.RowValue.number in
    let same : length c.self.inside.documents ≡ length (map g.V.RowValue.number values) = c.self.invariant ∙ sym size in
    omega (arith, length-members_in c.self.inside.documents (map g.V.RowValue.number values) same, n, size)

pub returns : goal.returns
returns g c =
    let values = c.self.inside.values.items in
    let n = ap length c.self.view_is in
    let size = length-map values g.V.RowValue.number in
    let same : length c.self.inside.documents ≡ length (map g.V.RowValue.number values) = c.self.invariant ∙ sym size in
    let lt : c.args.i < length values = omega (arith, length-members_in c.self.inside.documents (map g.V.RowValue.number values) same, n, size, c.requires) in
    ap (λ js. option_map (λ (valued : Valued). valued.value) (slice_get js c.args.i)) (sym c.self.view_is)
    ∙ sym (slice_get-map (λ (valued : Valued). valued.value) _ c.args.i)
    ∙ ap (λ vs. slice_get vs c.args.i) (values-members_in c.self.inside.documents (map g.V.RowValue.number values) same)
    ∙ slice_get-map g.V.RowValue.number values c.args.i
    ∙ ap (option_map g.V.RowValue.number) (slice_get_read values (length values) c.args.i c.index.result.now refl lt c.index.ensures)
