use Rattle.std.proofs.Common.{◌≡◌, ap, sym, ◌∙◌, arith, true}
use Rattle.std.specs.Prelude.{option_map, nat_eq, string_bytes}
use Rattle.std.specs.Cmp.Lexicographic.{pointwise}
use Rattle.desk_outside.proofs.Files.{held_at, entry_at}
use Rattle.desk_outside.proofs.mem_shelf.place_of.Goals as goal

pub returns-then-eq : goal.returns-then-eq
returns-then-eq c =
    let file = c.index-files-i.result in
    let same : pointwise nat_eq (string_bytes file.0) c.args.name.now ≡ true =
    ap (λ n. pointwise nat_eq n c.args.name.now) (sym c.as_str.ensures.value) ∙ sym c.if-eq.ensures in (
      omega arith,
      sym c.loop-i.invariant ∙ held_at c.args.files.now c.loop-i.i file c.args.name.now (omega arith) c.index-files-i.is same
          ∙ sym (ap (option_map (λ e. e.1)) (entry_at c.args.files.now c.loop-i.i file (omega arith) c.index-files-i.is)),
    )
