use Rattle.std.proofs.Common.{List, [], length, ap, sym, subst, arith, ℕ}
use Rattle.sheet_merge.specs.Packed.{ArePacked}
use Rattle.sheet_merge.specs.declared.written.Written.{Written}
use Rattle.sheet_merge.proofs.Unpacking.{none_packed, length-unpacked, no_more_bytes}
use Rattle.sheet_merge.proofs.rows.SheetRows.with_room_of.Goals as goal

pub overflow_add-name_bytes : goal.overflow_add-name_bytes
overflow_add-name_bytes c =
    let n = ap length c.a.view_is in
    let m = ap length c.b.view_is in
    omega (
      arith,
      n,
      m,
      length-unpacked c.a.inside.names c.a.inside.written.items c.a.invariant.matched,
      length-unpacked c.b.inside.names c.b.inside.written.items c.b.invariant.matched,
      no_more_bytes c.a.inside.names c.a.invariant.packed,
      no_more_bytes c.b.inside.names c.b.invariant.packed,
      c.a.invariant.matched,
      c.b.invariant.matched,
      c.name_bytes.ensures,
      c.name_bytes-2.ensures,
    )

pub invariant_of-result : goal.invariant_of-result
invariant_of-result c =
    subst (λ (names : List (List ℕ)). ArePacked names c.in_ok-with_capacity.field-0.items) (sym c.in_ok-with_room.ensures)
    (subst (λ (written : List Written). ArePacked [] written) (sym c.in_ok-with_capacity.ensures.items) none_packed)
