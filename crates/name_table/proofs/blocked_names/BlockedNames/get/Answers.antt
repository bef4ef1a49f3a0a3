use Rattle.std.proofs.Common.{◌≡◌, ◌<◌, ◌*◌, ◌-◌, ◌/◌, ◌%◌, length, get_or, ap, sym, ◌∙◌, arith, length-append}
use Rattle.std.specs.Prelude.{Some, flat_map, slice_get}
use Rattle.std.proofs.lemmas.Option.{slice_get-get_or, get_or_from_slice_get}
use Rattle.name_table.specs.Blocks.{all_names}
use Rattle.name_table.proofs.Blocks.{length-blocks, in_block, behind_blocks}
use Rattle.name_table.proofs.blocked_names.BlockedNames.get.Goals as goal

pub get-requires-else-block-len : goal.get-requires-else-block-len
get-requires-else-block-len c =
    let blocks = c.self.inside.whole.items in
    let both = length-append (flat_map (λ block. block) blocks) c.self.inside.last in
    let whole = length-blocks (λ block. block) blocks c.self.invariant.whole in
    omega (arith, both, whole, c.len-else-block-len.ensures, c.len.ensures, c.requires, c.if-block-len.false, ap length c.self.view_is)

pub returns-then-block-len : goal.returns-then-block-len
returns-then-block-len c =
    let blocks = c.self.inside.whole.items in
    let i = c.args.i in
    let d = c.get.result.now in
    let within : i / 512 < length blocks = omega (arith, c.if-block-len.true, c.len.ensures) in
    let here = in_block (λ block. block) blocks c.self.inside.last (i / 512) (i % 512) i c.index.result.now d c.self.invariant.whole within (omega arith) (omega arith) in
    ap (λ names. slice_get names i) (sym c.self.view_is)
    ∙ slice_get-get_or (all_names blocks c.self.inside.last) i d (omega (arith, c.requires, ap length c.self.view_is))
    ∙ ap Some (here ∙ ap (λ block. get_or block (i % 512) d) (sym c.index.ensures) ∙ get_or_from_slice_get c.index.result.now (i % 512) d d c.get.ensures)

pub returns-else-block-len : goal.returns-else-block-len
returns-else-block-len c =
    let blocks = c.self.inside.whole.items in
    let i = c.args.i in
    let d = c.get-else-block-len.result.now in
    let count : c.len-else-block-len.result ≡ length blocks = omega (arith, c.len-else-block-len.ensures) in
    let behind = behind_blocks (λ block. block) blocks c.self.inside.last i d c.self.invariant.whole (omega (arith, c.if-block-len.false, c.len.ensures)) in
    ap (λ names. slice_get names i) (sym c.self.view_is)
    ∙ slice_get-get_or (all_names blocks c.self.inside.last) i d (omega (arith, c.requires, ap length c.self.view_is))
    ∙ ap Some (behind ∙ ap (λ n. get_or c.self.inside.last (i - 512 * n) d) (sym count) ∙ get_or_from_slice_get c.self.inside.last (i - 512 * c.len-else-block-len.result) d d c.get-else-block-len.ensures)
