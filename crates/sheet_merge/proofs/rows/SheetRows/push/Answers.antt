use Rattle.std.proofs.Common.{◌≡◌, ℕ, List, [], ◌∷◌, ◌++◌, length, ap, ap₂, sym, subst, ◌∙◌, arith, to_z, of_z, w16}
use Rattle.std.proofs.lemmas.Int.{ints}
use Rattle.sheet_merge.specs.Sheet.{SheetRow}
use Rattle.sheet_merge.specs.Packed.{ArePacked, unpacked}
use Rattle.sheet_merge.specs.declared.written.Written.{Written}
use Rattle.sheet_merge.proofs.Unpacking.{length-unpacked, unpacked-push, packed_more, no_more_bytes}
use Rattle.sheet_merge.proofs.rows.SheetRows.push.Goals as goal

pub push-requires : goal.push-requires
push-requires c =
    let names = c.self.inside.names in
    let written = c.self.inside.written.items in
    let n = ap length c.self.view_is in
    let long = length-unpacked names written c.self.invariant.matched in
    let bytes = no_more_bytes names c.self.invariant.packed in
    let short = c.in_ok-name.ensures.packed.short in
    let size = ap length c.as_bytes.ensures in
    omega (arith, n, long, bytes, short, size, c.self.invariant.matched, c.requires.room)

pub invariant_of-self : goal.invariant_of-self
invariant_of-self c = subst (λ (ws : List Written). ArePacked c.self.inside.names ws) (sym c.reserve.ensures.items) c.self.invariant

pub invariant_of-self-2 : goal.invariant_of-self-2
invariant_of-self-2 c =
    let names = c.self.inside.names in
    let written = c.self.inside.written.items in
    let w : Written = record { stamp = c.args.row.now.1.stamp; grade = c.args.row.now.1.grade } in
    let kept : to_z w16 (of_z w16 c.grade.result) ≡ c.grade.result = omega (arith, ints, c.grade.type_inv) in
    let pushed : c.push.new.self ≡ names ++ c.in_ok-name.name ∷ [] = c.in_ok-push.ensures.ok ∙ ap (λ n. names ++ n ∷ []) c.as_bytes.ensures in
    let put : c.push_reserved.new.self.items ≡ written ++ w ∷ [] =
    c.push_reserved.ensures.items ∙ ap₂ (λ (ws : List Written) (x : Written). ws ++ x ∷ []) c.reserve.ensures.items (λ i. record { stamp = c.stamp.ensures i; grade = (kept ∙ c.grade.ensures) i }) in
    subst (λ (ns : List (List ℕ)). ArePacked ns c.push_reserved.new.self.items) (sym pushed) (subst (λ (ws : List Written). ArePacked (names ++ c.in_ok-name.name ∷ []) ws) (sym put)
    (packed_more names written c.in_ok-name.name w c.self.invariant c.in_ok-name.ensures.packed))

pub returns : goal.returns
returns c =
    let names = c.self.inside.names in
    let written = c.self.inside.written.items in
    let w : Written = record { stamp = c.args.row.now.1.stamp; grade = c.args.row.now.1.grade } in
    let kept : to_z w16 (of_z w16 c.grade.result) ≡ c.grade.result = omega (arith, ints, c.grade.type_inv) in
    let pushed : c.push.new.self ≡ names ++ c.in_ok-name.name ∷ [] = c.in_ok-push.ensures.ok ∙ ap (λ n. names ++ n ∷ []) c.as_bytes.ensures in
    let put : c.push_reserved.new.self.items ≡ written ++ w ∷ [] =
    c.push_reserved.ensures.items ∙ ap₂ (λ (ws : List Written) (x : Written). ws ++ x ∷ []) c.reserve.ensures.items (λ i. record { stamp = c.stamp.ensures i; grade = (kept ∙ c.grade.ensures) i }) in
    record {
      ok = ap₂ unpacked pushed put ∙ unpacked-push names written c.in_ok-name.name w c.self.invariant.matched
          ∙ ap₂ (λ (rows : List SheetRow) (r : SheetRow). rows ++ r ∷ []) c.self.view_is c.in_ok-name.ensures.row;
    }
