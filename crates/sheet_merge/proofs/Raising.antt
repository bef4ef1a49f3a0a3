-- Putting lines into a map.
use Rattle.std.proofs.Common.{◌≡◌, Bool, true, false, List, [], ◌∷◌, ◌++◌, Option, Some, None, refl, ap, sym, subst, ◌∙◌}
use Rattle.std.specs.Prelude.{if◌then◌else◌}
use Rattle.std.specs.Ordering.{ordering_reverse, is_lt, is_eq}
use Rattle.std.specs.declared.cmp.Ordering.{Ordering}
use Rattle.std.specs.declared.cmp.Ordering.TheVariants.{Less, Equal, Greater}
use Rattle.sheet_merge.specs.Sheet.{SheetEntry, SheetPlace, SheetRow, place_cmp, entry_on, greatest_on, greater, greater_of, IsMap, IsMapOf, raised, merged, map_of}
use Rattle.sheet_merge.specs.Merging.{IsMergeOf}
use Rattle.sheet_merge.proofs.Entries.{place_total, place_exact, greater_of-order, greater_of-pairs, greater_of-none}
use Rattle.sheet_merge.proofs.Greatest.{greatest_by-append}
use Rattle.sheet_merge.proofs.Maps.{IsBeforeAll, before-trans, head_before, tail_map, map_from, no_map}

-- where a line goes
module _ (row x : SheetRow) (rows : List SheetRow) where
  pub raised-less : place_cmp row.0 x.0 ≡ Less → raised row (x ∷ rows) ≡ row ∷ x ∷ rows
  raised-less e = ap (λ r. if is_lt r then row ∷ x ∷ rows else if is_eq r then (x.0, greater x.1 row.1) ∷ rows else x ∷ raised row rows) e

  pub raised-equal : place_cmp row.0 x.0 ≡ Equal → raised row (x ∷ rows) ≡ (x.0, greater x.1 row.1) ∷ rows
  raised-equal e = ap (λ r. if is_lt r then row ∷ x ∷ rows else if is_eq r then (x.0, greater x.1 row.1) ∷ rows else x ∷ raised row rows) e

  pub raised-greater : place_cmp row.0 x.0 ≡ Greater → raised row (x ∷ rows) ≡ x ∷ raised row rows
  raised-greater e = ap (λ r. if is_lt r then row ∷ x ∷ rows else if is_eq r then (x.0, greater x.1 row.1) ∷ rows else x ∷ raised row rows) e

-- ---- it is a map again
raised_before : (p : SheetPlace) (row : SheetRow) (rows : List SheetRow) → place_cmp p row.0 ≡ Less → IsBeforeAll p rows → IsBeforeAll p (raised row rows)
raised_before p row [] e h = (e, tt)
raised_before p row (x ∷ rows) e h = go (place_cmp row.0 x.0) refl (raised_before p row rows e h.1)
  where
    go : (r : Ordering) → place_cmp row.0 x.0 ≡ r → IsBeforeAll p (raised row rows) → IsBeforeAll p (raised row (x ∷ rows))
    go Less f again = subst (IsBeforeAll p) (sym (raised-less row x rows f)) (e, h)
    go Equal f again = subst (IsBeforeAll p) (sym (raised-equal row x rows f)) h
    go Greater f again = subst (IsBeforeAll p) (sym (raised-greater row x rows f)) (h.0, again)

pub raised_is_map : (row : SheetRow) (rows : List SheetRow) → IsMap rows → IsMap (raised row rows)
raised_is_map row [] h = map_from row [] tt no_map
raised_is_map row (x ∷ rows) h = go (place_cmp row.0 x.0) refl (raised_is_map row rows (tail_map x rows h))
  where
    go : (r : Ordering) → place_cmp row.0 x.0 ≡ r → IsMap (raised row rows) → IsMap (raised row (x ∷ rows))
    go Less f again = subst IsMap (sym (raised-less row x rows f)) (map_from row (x ∷ rows) (f, before-trans row.0 x.0 rows f (head_before x rows h)) h)
    go Equal f again = subst IsMap (sym (raised-equal row x rows f)) (map_from (x.0, greater x.1 row.1) rows (head_before x rows h) (tail_map x rows h))
    go Greater f again =
        let less : place_cmp x.0 row.0 ≡ Less = place_total.antisymm x.0 row.0 ∙ ap ordering_reverse f in
        subst IsMap (sym (raised-greater row x rows f)) (map_from x (raised row rows) (raised_before x.0 row rows less (head_before x rows h)) again)

-- ---- its entries
-- two lines of one place as one line
pub joined : (p : SheetPlace) (x : SheetRow) (e : SheetEntry) → entry_on p (x.0, greater x.1 e) ≡ greater_of (entry_on p x) (entry_on p (x.0, e))
joined p x e = go (is_eq (place_cmp p x.0))
  where
    go : (b : Bool) → (if b then Some (greater x.1 e) else None) ≡ greater_of (if b then Some x.1 else None) (if b then Some e else None)
    go true = refl
    go false = refl

pub raised_greatest : (p : SheetPlace) (row : SheetRow) (rows : List SheetRow) → greatest_on p (raised row rows) ≡ greater_of (greatest_on p rows) (entry_on p row)
raised_greatest p row [] = greater_of-none (entry_on p row)
raised_greatest p row (x ∷ rows) = go (place_cmp row.0 x.0) refl (raised_greatest p row rows)
  where
    rest : Option SheetEntry
    rest = greatest_on p rows

    go : (r : Ordering) → place_cmp row.0 x.0 ≡ r → greatest_on p (raised row rows) ≡ greater_of (greatest_on p rows) (entry_on p row) → greatest_on p (raised row (x ∷ rows)) ≡ greater_of (greatest_on p (x ∷ rows)) (entry_on p row)
    go Less f again = ap (greatest_on p) (raised-less row x rows f) ∙ greater_of-order (entry_on p row) (greatest_on p (x ∷ rows))
    go Equal f again =
        let place : row.0 ≡ x.0 = place_exact row.0 x.0 f in
        let here : entry_on p (x.0, row.1) ≡ entry_on p row = ap (λ q. entry_on p (q, row.1)) (sym place) in
        ap (greatest_on p) (raised-equal row x rows f)
        ∙ ap (λ o. greater_of o (greatest_on p rows)) (joined p x row.1 ∙ ap (greater_of (entry_on p x)) here)
        ∙ greater_of-pairs (entry_on p x) (entry_on p row) (greatest_on p rows)
        ∙ ap (greater_of (entry_on p x)) (greater_of-order (entry_on p row) (greatest_on p rows))
        ∙ sym (greater_of-pairs (entry_on p x) (greatest_on p rows) (entry_on p row))
    go Greater f again =
        ap (greatest_on p) (raised-greater row x rows f)
        ∙ ap (greater_of (entry_on p x)) again
        ∙ sym (greater_of-pairs (entry_on p x) (greatest_on p rows) (entry_on p row))

-- ---- a map with the lines of another
merged_is_map : (rows lines : List SheetRow) → IsMap rows → IsMap (merged rows lines)
merged_is_map rows [] h = h
merged_is_map rows (line ∷ lines) h = raised_is_map line (merged rows lines) (merged_is_map rows lines h)

merged_greatest : (p : SheetPlace) (rows lines : List SheetRow) → greatest_on p (merged rows lines) ≡ greater_of (greatest_on p rows) (greatest_on p lines)
merged_greatest p rows [] = sym (greater_of-none (greatest_on p rows))
merged_greatest p rows (line ∷ lines) =
    raised_greatest p line (merged rows lines)
    ∙ ap (λ o. greater_of o (entry_on p line)) (merged_greatest p rows lines)
    ∙ greater_of-pairs (greatest_on p rows) (greatest_on p lines) (entry_on p line)
    ∙ ap (greater_of (greatest_on p rows)) (greater_of-order (greatest_on p lines) (entry_on p line))

pub merged_is_merge : (a b : List SheetRow) → IsMap a → IsMergeOf a b (merged a b)
merged_is_merge a b h = record { is_map = merged_is_map a b h; greater = λ p. merged_greatest p a b }

pub map_of_is_map : (lines : List SheetRow) → IsMapOf lines (map_of lines)
map_of_is_map lines = record { is_map = merged_is_map [] lines no_map; greatest = λ p. merged_greatest p [] lines }

pub merge_is_map : (a b rows : List SheetRow) → IsMergeOf a b rows → IsMapOf (a ++ b) rows
merge_is_map a b rows h = record { is_map = h.is_map; greatest = λ p. h.greater p ∙ sym (greatest_by-append (entry_on p) a b) }
