use Rattle.std.proofs.Common.{◌≡◌, List, [], ◌∷◌, ◌++◌, get_or, set, ap, ap₂, sym, subst, ◌∙◌, refl, true, false, Some}
use Rattle.std.specs.Prelude.{Bool, not, position, cond}
use Rattle.std.specs.List.{list_any}
use Rattle.std.specs.Str.{bytes_eq}
use Rattle.sheet_merge.specs.Sheet.{SheetEntry, greater}
use Rattle.sheet_merge.specs.Packed.{place_from, placed_entries}
use Rattle.sheet_merge.specs.Table.{IsTable, with_entry}
use Rattle.sheet_merge.specs.Lines.{brings_too_many}
use Rattle.sheet_merge.proofs.Gathering.{table_new, table_old, new_place, old_place}
use Rattle.sheet_merge.proofs.table.EntryTable.put.Goals as goal

not_false : (b : Bool) → true ≡ not b → b ≡ false
not_false true e = cc
not_false false e = refl

not_true : (b : Bool) → false ≡ not b → b ≡ true
not_true true e = refl
not_true false e = cc

pub invariant_of-self-then-is_new : goal.invariant_of-self-then-is_new
invariant_of-self-then-is_new c =
    let places = c.self.inside.places in
    let within = ap (brings_too_many (place_from c.args.place)) c.self.view_is ∙ c.requires.within in
    let entries = c.self.inside.entries.items in
    let name = c.args.place in
    let none = not_false (list_any (bytes_eq name) places) (sym c.if-is_new.true ∙ c.in_ok-i.ensures.new) in
    let names : c.insert.new.self ≡ places ++ name ∷ [] = c.in_ok-i.ensures.names ∙ ap (λ b. cond b places (places ++ name ∷ [])) none in
    let items : c.push_reserved.new.self.items ≡ entries ++ c.args.entry ∷ [] = c.push_reserved.ensures.items ∙ ap (λ es. es ++ c.args.entry ∷ []) c.reserve.ensures.items in
    subst (λ ns. IsTable ns c.push_reserved.new.self.items) (sym names) (subst (λ es. IsTable (places ++ name ∷ []) es) (sym items)
    (table_new places entries name c.args.entry c.args.entry c.self.invariant c.as_bytes-pair.ensures.pair c.requires.right within none))

pub invariant_of-self-else-is_new : goal.invariant_of-self-else-is_new
invariant_of-self-else-is_new c =
    let places = c.self.inside.places in
    let within = ap (brings_too_many (place_from c.args.place)) c.self.view_is ∙ c.requires.within in
    let entries = c.self.inside.entries.items in
    let name = c.args.place in
    let i = c.in_ok-i.i in
    let x = c.index_mut.result.now in
    let some = not_true (list_any (bytes_eq name) places) (sym c.if-is_new.false ∙ c.in_ok-i.ensures.new) in
    let names : c.insert.new.self ≡ places = c.in_ok-i.ensures.names ∙ ap (λ b. cond b places (places ++ name ∷ [])) some in
    let found : position (bytes_eq name) places ≡ Some i = ap (position (bytes_eq name)) (sym names) ∙ c.in_ok-i.ensures.number in
    let value : c.raise.new.self ≡ greater (get_or entries i x) c.args.entry =
    c.raise.ensures ∙ ap (λ z. greater z c.args.entry) (c.index_mut.ensures.value ∙ ap (λ es. get_or es i x) c.reserve.ensures.items) in
    subst (λ ns. IsTable ns (set c.reserve.new.self.items i c.raise.new.self)) (sym names)
    (subst (λ es. IsTable places es) (sym (ap₂ (λ (es : List SheetEntry) (z : SheetEntry). set es i z) c.reserve.ensures.items value))
    (table_old places entries name c.args.entry x c.self.invariant c.as_bytes-pair.ensures.pair c.requires.right within i found))

pub returns-then-is_new : goal.returns-then-is_new
returns-then-is_new c =
    let places = c.self.inside.places in
    let entries = c.self.inside.entries.items in
    let name = c.args.place in
    let none = not_false (list_any (bytes_eq name) places) (sym c.if-is_new.true ∙ c.in_ok-i.ensures.new) in
    let names : c.insert.new.self ≡ places ++ name ∷ [] = c.in_ok-i.ensures.names ∙ ap (λ b. cond b places (places ++ name ∷ [])) none in
    let items : c.push_reserved.new.self.items ≡ entries ++ c.args.entry ∷ [] = c.push_reserved.ensures.items ∙ ap (λ es. es ++ c.args.entry ∷ []) c.reserve.ensures.items in
    ap₂ placed_entries names items ∙ new_place places entries name c.args.entry c.self.invariant.matched c.self.invariant.pairs c.as_bytes-pair.ensures.pair none
    ∙ ap (with_entry (place_from name, c.args.entry)) c.self.view_is

pub returns-else-is_new : goal.returns-else-is_new
returns-else-is_new c =
    let places = c.self.inside.places in
    let entries = c.self.inside.entries.items in
    let name = c.args.place in
    let i = c.in_ok-i.i in
    let x = c.index_mut.result.now in
    let some = not_true (list_any (bytes_eq name) places) (sym c.if-is_new.false ∙ c.in_ok-i.ensures.new) in
    let names : c.insert.new.self ≡ places = c.in_ok-i.ensures.names ∙ ap (λ b. cond b places (places ++ name ∷ [])) some in
    let found : position (bytes_eq name) places ≡ Some i = ap (position (bytes_eq name)) (sym names) ∙ c.in_ok-i.ensures.number in
    let value : c.raise.new.self ≡ greater (get_or entries i x) c.args.entry =
    c.raise.ensures ∙ ap (λ z. greater z c.args.entry) (c.index_mut.ensures.value ∙ ap (λ es. get_or es i x) c.reserve.ensures.items) in
    ap₂ placed_entries names (ap₂ (λ (es : List SheetEntry) (z : SheetEntry). set es i z) c.reserve.ensures.items value)
    ∙ old_place places entries name c.args.entry x i c.self.invariant.matched c.self.invariant.pairs c.as_bytes-pair.ensures.pair found
    ∙ ap (with_entry (place_from name, c.args.entry)) c.self.view_is
