use Rattle.std.proofs.Common.{List, inr, ap, sym, subst, ◌∙◌, arith, rules}
use Rattle.std.specs.Prelude.{IsPermutation, Ok}
use Rattle.std.specs.List.Sorted.{IsSortedBy}
use Rattle.std.specs.Ordering.{is_lt}
use Rattle.std.proofs.lemmas.List.Sorted.{ranks_by, answers_always, All-permutation, length_permutation}
use Rattle.sheet_merge.specs.Sheet.{SheetRow, IsSheet, IsSheetRow, IsMap, place_cmp}
use Rattle.sheet_merge.specs.Table.{AreGathered}
use Rattle.sheet_merge.proofs.Entries.{place_total}
use Rattle.sheet_merge.proofs.Gathering.{sorted_is_map, sorted_map}
use Rattle.sheet_merge.proofs.sorted.sorted_sheet.Goals as goal

sorted_rows : (table sorted : List SheetRow) → AreGathered table → IsPermutation table sorted → IsMap sorted → IsSheet sorted
sorted_rows table sorted h moved is = record {
  is_map = is;
  few = let few = h.few in omega (arith, few, length_permutation table sorted moved);
  right = All-permutation IsSheetRow table sorted moved h.right;
}

-- rows are a table's, sorted by place
abbrev by_place : List SheetRow → Type 0
by_place = IsSortedBy (λ (x y : SheetRow). is_lt (place_cmp x.0 y.0))

pub copied-requires : goal.copied-requires
copied-requires c =
    let table = c.args.table.now in
    let sorted : List SheetRow = c.sort_unstable_by.new.self.items in
    let gathered = c.row_refs.ensures.gathered in
    let moved : IsPermutation table sorted = subst (λ rows. IsPermutation rows sorted) c.in_ok-rows.ensures.rows c.sort_unstable_by.ensures.permutation in
    let up : by_place sorted =
    c.sort_unstable_by.ensures.sorted (λ (x y : SheetRow). is_lt (place_cmp x.0 y.0)) (ranks_by place_total (λ (x : SheetRow). x.0)) (answers_always _ _ _ (λ f a r g called. search rules)) in
    let sheet = subst IsSheet (sym c.deref.ensures.value) (sorted_rows table sorted gathered moved (sorted_is_map table sorted gathered.apart moved up)) in
    record { few = sheet.few; right = sheet.right }

pub new-requires : goal.new-requires
new-requires c =
    let table = c.args.table.now in
    let sorted : List SheetRow = c.sort_unstable_by.new.self.items in
    let gathered = c.row_refs.ensures.gathered in
    let moved : IsPermutation table sorted = subst (λ rows. IsPermutation rows sorted) c.in_ok-rows.ensures.rows c.sort_unstable_by.ensures.permutation in
    let up : by_place sorted =
    c.sort_unstable_by.ensures.sorted (λ (x y : SheetRow). is_lt (place_cmp x.0 y.0)) (ranks_by place_total (λ (x : SheetRow). x.0)) (answers_always _ _ _ (λ f a r g called. search rules)) in
    subst IsSheet (sym (c.in_ok-copies.ensures ∙ c.deref.ensures.value)) (sorted_rows table sorted gathered moved (sorted_is_map table sorted gathered.apart moved up))

pub returns : goal.returns
returns c =
    let table = c.args.table.now in
    let sorted : List SheetRow = c.sort_unstable_by.new.self.items in
    let gathered = c.row_refs.ensures.gathered in
    let moved : IsPermutation table sorted = subst (λ rows. IsPermutation rows sorted) c.in_ok-rows.ensures.rows c.sort_unstable_by.ensures.permutation in
    let up : by_place sorted =
    c.sort_unstable_by.ensures.sorted (λ (x y : SheetRow). is_lt (place_cmp x.0 y.0)) (ranks_by place_total (λ (x : SheetRow). x.0)) (answers_always _ _ _ (λ f a r g called. search rules)) in
    inr (ap Ok (c.new.ensures ∙ c.in_ok-copies.ensures ∙ c.deref.ensures.value ∙ sorted_map table sorted moved (sorted_is_map table sorted gathered.apart moved up)))
