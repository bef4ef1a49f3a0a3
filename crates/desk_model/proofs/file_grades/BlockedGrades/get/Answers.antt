use Rattle.std.proofs.Common.{◌≡◌, ◌<◌, ◌*◌, ◌-◌, ◌/◌, ◌%◌, List, None, Option, ℤ, length, get_or, ap, sym, ◌∙◌, arith, length-append}
use Rattle.std.specs.Prelude.{Vec, flat_map}
use Rattle.std.specs.declared.alloc.Global.{Global}
use Rattle.std.proofs.lemmas.List.{get_or_default}
use Rattle.name_table.proofs.Blocks.{length-blocks, in_block, behind_blocks}
use Rattle.desk_model.proofs.file_grades.BlockedGrades.get.Goals as goal

abbrev items : Vec (Option ℤ) Global → List (Option ℤ)
items block = block.items

pub index-requires-else-block-len : goal.index-requires-else-block-len
index-requires-else-block-len c =
    let blocks = c.self.inside.whole.items in
    let both = length-append (flat_map items blocks) c.self.inside.last.items in
    let whole = length-blocks items blocks c.self.invariant in
    omega (arith, both, whole, c.len-else-block-len.ensures, c.len.ensures, c.requires, c.if-block-len.false, ap length c.self.view_is)

pub returns-then-block-len : goal.returns-then-block-len
returns-then-block-len c =
    let blocks = c.self.inside.whole.items in
    let block = c.index.result.now in
    let i = c.args.i in
    let within : i / 512 < length blocks = omega (arith, c.if-block-len.true, c.len.ensures) in
    let size : length block.items ≡ 512 = ap (λ (block : Vec (Option ℤ) Global). length block.items) c.index.ensures ∙ c.self.invariant (i / 512) block within in
    let here = in_block items blocks c.self.inside.last.items (i / 512) (i % 512) i block None c.self.invariant within (omega arith) (omega arith) in
    c.index-then-block-len.ensures
    ∙ get_or_default block.items (i % 512) c.index-then-block-len.result.now None (omega (arith, size))
    ∙ ap (λ (block : Vec (Option ℤ) Global). get_or block.items (i % 512) None) c.index.ensures
    ∙ sym here
    ∙ ap (λ grades. get_or grades i None) c.self.view_is

pub returns-else-block-len : goal.returns-else-block-len
returns-else-block-len c =
    let blocks = c.self.inside.whole.items in
    let last = c.self.inside.last.items in
    let i = c.args.i in
    let both = length-append (flat_map items blocks) last in
    let whole = length-blocks items blocks c.self.invariant in
    let within : i - 512 * c.len-else-block-len.result < length last =
    omega (arith, both, whole, c.len-else-block-len.ensures, c.len.ensures, c.requires, c.if-block-len.false, ap length c.self.view_is) in
    let count : c.len-else-block-len.result ≡ length blocks = omega (arith, c.len-else-block-len.ensures) in
    let behind = behind_blocks items blocks last i None c.self.invariant (omega (arith, c.if-block-len.false, c.len.ensures)) in
    c.index-else-block-len.ensures
    ∙ get_or_default last (i - 512 * c.len-else-block-len.result) c.index-else-block-len.result.now None within
    ∙ ap (λ n. get_or last (i - 512 * n) None) count
    ∙ sym behind
    ∙ ap (λ grades. get_or grades i None) c.self.view_is
