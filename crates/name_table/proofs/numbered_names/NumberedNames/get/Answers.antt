use Rattle.std.proofs.Common.{◌≡◌, ◌<◌, length, get_or, sym, ap, ap₂, ◌∙◌, arith}
use Rattle.std.specs.Prelude.{slice_get, slice_range, Some}
use Rattle.std.proofs.lemmas.Grind.{get_or_default_zero}
use Rattle.name_table.specs.Cut.{start_at}
use Rattle.name_table.proofs.Cutting.{length-cut, piece_within, slice_get-cut}
use Rattle.name_table.proofs.numbered_names.NumberedNames.get.Goals as goal

pub start_of-start-requires : goal.start_of-start-requires
start_of-start-requires c =
    let n = ap length c.self.view_is in omega (arith, length-cut 0 c.self.inside.ends.items c.self.inside.bytes.items, n)

pub index-requires : goal.index-requires
index-requires c =
    let n = ap length c.self.view_is in omega (arith, length-cut 0 c.self.inside.ends.items c.self.inside.bytes.items, n)

pub part-requires : goal.part-requires
part-requires c =
    let ends = c.self.inside.ends.items in
    let bytes = c.self.inside.bytes.items in
    let n = ap length c.self.view_is in
    let lt : c.args.i < length ends = omega (arith, length-cut 0 ends bytes, n) in
    let within = piece_within 0 ends bytes c.args.i c.self.invariant lt in
    let start : c.start_of-start.result ≡ start_at 0 ends c.args.i = c.start_of-start.ensures ∙ ap (λ es. start_at 0 es c.args.i) c.deref.ensures.value in
    let end : c.index.result.now ≡ get_or ends c.args.i 0 = c.index.ensures ∙ get_or_default_zero ends c.args.i _ lt in
    let size = ap length c.deref-2.ensures.value in
    record { start = omega (arith, within.0); end = omega (arith, within.1, size) }

pub returns : goal.returns
returns c =
    let ends = c.self.inside.ends.items in
    let bytes = c.self.inside.bytes.items in
    let n = ap length c.self.view_is in
    let lt : c.args.i < length ends = omega (arith, length-cut 0 ends bytes, n) in
    let start : c.start_of-start.result ≡ start_at 0 ends c.args.i = c.start_of-start.ensures ∙ ap (λ es. start_at 0 es c.args.i) c.deref.ensures.value in
    let end : c.index.result.now ≡ get_or ends c.args.i 0 = c.index.ensures ∙ get_or_default_zero ends c.args.i _ lt in
    let piece : c.part.result.now ≡ slice_range bytes (start_at 0 ends c.args.i) (get_or ends c.args.i 0) =
    c.part.ensures ∙ ap (λ bs. slice_range bs c.start_of-start.result c.index.result.now) c.deref-2.ensures.value ∙ ap₂ (slice_range bytes) start end in
    sym (ap (λ names. slice_get names c.args.i) c.self.view_is) ∙ slice_get-cut 0 ends bytes c.args.i lt ∙ ap Some (sym piece)
