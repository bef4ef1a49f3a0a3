use Rattle.std.proofs.Common.{◌≡◌, ◌<◌, List, length, ap, sym, subst, ◌∙◌, arith, to_z, of_z, w16}
use Rattle.std.proofs.lemmas.Int.{ints}
use Rattle.small_lemmas.proofs.Lists.{all_there}
use Rattle.sheet_merge.specs.Sheet.{SheetRow}
use Rattle.sheet_merge.specs.Packed.{IsNamePair, place_from, row_at}
use Rattle.sheet_merge.proofs.Gathering.{length-placed_entries, row_there}
use Rattle.sheet_merge.proofs.table.EntryTable.get.Goals as goal

pub index-entry-requires : goal.index-entry-requires
index-entry-requires c =
    let n = ap length c.self.view_is in
    omega (arith, n, length-placed_entries c.self.inside.places c.self.inside.entries.items c.self.invariant.matched, c.self.inside.entries.ok)

pub get-requires : goal.get-requires
get-requires c =
    let n = ap length c.self.view_is in
    omega (arith, n, length-placed_entries c.self.inside.places c.self.inside.entries.items c.self.invariant.matched, c.self.invariant.matched)

pub new-requires : goal.new-requires
new-requires c = subst IsNamePair (sym c.bytes.ensures) (all_there IsNamePair c.self.inside.places c.args.i c.get.result.now c.self.invariant.pairs c.get.ensures)

pub returns : goal.returns
returns c =
    let places = c.self.inside.places in
    let entries = c.self.inside.entries.items in
    let matched = c.self.invariant.matched in
    let n = ap length c.self.view_is in
    let lt : c.args.i < length entries = omega (arith, n, length-placed_entries places entries matched) in
    let kept : to_z w16 (of_z w16 c.grade.result) ≡ c.grade.result = omega (arith, ints, c.grade.type_inv) in
    let grade : to_z w16 (of_z w16 c.grade.result) ≡ c.index-entry.result.now.grade = kept ∙ c.grade.ensures in
    let same : c.new.result ≡ (place_from c.get.result.now, c.index-entry.result.now) =
    c.new.ensures ∙ (λ i. (place_from (c.bytes.ensures i), record { stamp = c.stamp.ensures i; who = c.who.ensures i; grade = grade i })) in
    same ∙ sym (row_there places entries c.args.i c.get.result.now c.index-entry.result.now matched lt c.get.ensures c.index-entry.ensures) ∙ ap (λ (rows : List SheetRow). row_at rows c.args.i) c.self.view_is
