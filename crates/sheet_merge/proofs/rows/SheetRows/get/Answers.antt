use Rattle.std.proofs.Common.{◌≡◌, ◌<◌, List, length, ap, sym, subst, ◌∙◌, arith, to_z, of_z, w16}
use Rattle.std.proofs.lemmas.Int.{ints}
use Rattle.small_lemmas.proofs.Lists.{all_there}
use Rattle.sheet_merge.specs.Sheet.{SheetRow}
use Rattle.sheet_merge.specs.Packed.{IsNamePair, IsPacked, place_from, row_at, row_from}
use Rattle.sheet_merge.specs.declared.written.Written.{Written}
use Rattle.sheet_merge.proofs.Unpacking.{length-unpacked, unpacked_there}
use Rattle.sheet_merge.proofs.rows.SheetRows.get.Goals as goal

pub get-name-requires : goal.get-name-requires
get-name-requires c =
    let n = ap length c.self.view_is in
    omega (arith, n, length-unpacked c.self.inside.names c.self.inside.written.items c.self.invariant.matched, c.self.invariant.matched)

pub index-written-requires : goal.index-written-requires
index-written-requires c =
    let n = ap length c.self.view_is in
    omega (arith, n, length-unpacked c.self.inside.names c.self.inside.written.items c.self.invariant.matched, c.self.inside.written.ok)

pub second_name-requires : goal.second_name-requires
second_name-requires c = (all_there IsPacked c.self.inside.names c.args.i c.get-name.result.now c.self.invariant.packed c.get-name.ensures).outer

pub first_name-requires : goal.first_name-requires
first_name-requires c = (all_there IsPacked c.self.inside.names c.args.i c.get-name.result.now c.self.invariant.packed c.get-name.ensures).outer

pub new-requires : goal.new-requires
new-requires c = subst IsNamePair (sym c.second_name.ensures) (all_there IsPacked c.self.inside.names c.args.i c.get-name.result.now c.self.invariant.packed c.get-name.ensures).inner

pub returns : goal.returns
returns c =
    let names = c.self.inside.names in
    let written = c.self.inside.written.items in
    let matched = c.self.invariant.matched in
    let name = c.get-name.result.now in
    let w : Written = c.index-written.result.now in
    let n = ap length c.self.view_is in
    let lt : c.args.i < length written = omega (arith, n, length-unpacked names written matched) in
    let kept : to_z w16 (of_z w16 w.grade) ≡ w.grade = omega (arith, ints, c.index-written.type_inv) in
    let same : c.new.result ≡ row_from (name, w) =
    c.new.ensures ∙ (λ i. (place_from (c.second_name.ensures i), record { stamp = w.stamp; who = c.first_name.ensures i; grade = kept i })) in
    same ∙ sym (unpacked_there names written c.args.i name w matched lt c.get-name.ensures c.index-written.ensures) ∙ ap (λ (rows : List SheetRow). row_at rows c.args.i) c.self.view_is
