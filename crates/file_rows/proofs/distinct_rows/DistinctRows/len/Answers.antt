use Rattle.std.proofs.Common.{◌≡◌, length, sym, ap, ◌∙◌, arith}
use Rattle.std.specs.Prelude.{map}
use Rattle.std.proofs.lemmas.List.{length-map}
use Rattle.file_rows.proofs.Zipped.{length-members_in}
use Rattle.file_rows.proofs.distinct_rows.DistinctRows.len.Goals as goal

pub returns : goal.returns
returns g c =
    let values = c.self.inside.values.items in
    let n = ap length c.self.view_is in
    let size = length-map values g.V.RowValue.number in
    let same : length c.self.inside.documents ≡ length (map g.V.RowValue.number values) = c.self.invariant ∙ sym size in
    omega (arith, length-members_in c.self.inside.documents (map g.V.RowValue.number values) same, n, size)
