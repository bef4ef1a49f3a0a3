use Rattle.std.proofs.Common.{◌≡◌, ◌+◌, ◌-◌, length, ap, ap₂, sym, ◌∙◌, arith, take}
use Rattle.name_table.specs.Cut.{start_at}
use Rattle.name_table.proofs.Cutting.{length-cut, shortened}
use Rattle.name_table.proofs.numbered_names.NumberedNames.take_last.Goals as goal

pub overflow_sub-last : goal.overflow_sub-last
overflow_sub-last c =
    let n = ap length c.self.view_is in omega (arith, length-cut 0 c.self.inside.ends.items c.self.inside.bytes.items, n, c.requires)

pub start_of-start-requires : goal.start_of-start-requires
start_of-start-requires c =
    let n = ap length c.self.view_is in omega (arith, length-cut 0 c.self.inside.ends.items c.self.inside.bytes.items, n, c.requires)

pub invariant_of-self : goal.invariant_of-self
invariant_of-self c =
    let ends = c.self.inside.ends.items in
    let bytes = c.self.inside.bytes.items in
    let n = ap length c.self.view_is in
    let count : c.len-last.result - 1 + 1 ≡ length ends = omega (arith, length-cut 0 ends bytes, n, c.requires) in
    let from : c.start_of-start.result ≡ start_at 0 ends (c.len-last.result - 1) = c.start_of-start.ensures ∙ ap (λ es. start_at 0 es (c.len-last.result - 1)) c.deref.ensures.value in
    (shortened ends bytes c.truncate.new.self.items c.truncate-2.new.self.items (c.len-last.result - 1) c.start_of-start.result c.self.invariant count from c.truncate.ensures.items c.truncate-2.ensures.items).is_cut

pub returns : goal.returns
returns c =
    let ends = c.self.inside.ends.items in
    let bytes = c.self.inside.bytes.items in
    let n = ap length c.self.view_is in
    let count : c.len-last.result - 1 + 1 ≡ length ends = omega (arith, length-cut 0 ends bytes, n, c.requires) in
    let from : c.start_of-start.result ≡ start_at 0 ends (c.len-last.result - 1) = c.start_of-start.ensures ∙ ap (λ es. start_at 0 es (c.len-last.result - 1)) c.deref.ensures.value in
    (shortened ends bytes c.truncate.new.self.items c.truncate-2.new.self.items (c.len-last.result - 1) c.start_of-start.result c.self.invariant count from c.truncate.ensures.items c.truncate-2.ensures.items).names
    ∙ ap₂ (λ k xs. take (k - 1) xs) (sym (length-cut 0 ends bytes) ∙ n) c.self.view_is
