-- Maps: what stands at a place, and that the entries at all places make the map.
use Rattle.std.proofs.Common.{◌≡◌, ◌≤◌, Bool, true, false, true≢false, is_some, List, [], ◌∷◌, map, length, Some, None, refl, ap, ap₂, sym, ◌∙◌, arith, unwrap_or}
use Rattle.std.specs.Prelude.{if◌then◌else◌}
use Rattle.std.specs.List.Sorted.{IsStrictlySortedBy}
use Rattle.std.specs.Ordering.{ordering_reverse, is_eq}
use Rattle.std.specs.declared.cmp.Ordering.{Ordering}
use Rattle.std.specs.declared.cmp.Ordering.TheVariants.{Less, Equal, Greater}
use Rattle.std.proofs.lemmas.Cmp.{tied_itself}
use Rattle.std.proofs.lemmas.Map.Keys.{sorted_head, sorted_tail}
use Rattle.sheet_merge.specs.Sheet.{SheetEntry, SheetPlace, SheetRow, place_of, place_cmp, entry_on, greatest_on, greater_of, IsMap}
pub use Rattle.sheet_merge.specs.Walking.{IsBeforeAll}
use Rattle.sheet_merge.proofs.Entries.{place_total, place_exact, equal_from}

pub head_before : (row : SheetRow) (rows : List SheetRow) → IsMap (row ∷ rows) → IsBeforeAll row.0 rows
head_before row rows h = sorted_head place_cmp row.0 (map place_of rows) h

pub tail_map : (row : SheetRow) (rows : List SheetRow) → IsMap (row ∷ rows) → IsMap rows
tail_map row rows h = sorted_tail place_cmp row.0 (map place_of rows) h

pub map_from : (row : SheetRow) (rows : List SheetRow) → IsBeforeAll row.0 rows → IsMap rows → IsMap (row ∷ rows)
unfolding IsStrictlySortedBy
map_from row rows h k = (h, k)

pub no_map : IsMap []
unfolding IsStrictlySortedBy
no_map = tt

pub before-trans : (p q : SheetPlace) (rows : List SheetRow) → place_cmp p q ≡ Less → IsBeforeAll q rows → IsBeforeAll p rows
before-trans p q [] e h = tt
before-trans p q (row ∷ rows) e h = (place_total.trans p q row.0 e h.0, before-trans p q rows e h.1)

-- ---- what stands at a place
pub other_place : (p : SheetPlace) (row : SheetRow) → is_eq (place_cmp p row.0) ≡ false → entry_on p row ≡ None
other_place p row e = ap (λ b. if b then Some row.1 else None) e

pub same_place : (p : SheetPlace) (row : SheetRow) → is_eq (place_cmp p row.0) ≡ true → entry_on p row ≡ Some row.1
same_place p row e = ap (λ b. if b then Some row.1 else None) e

pub none_before : (p : SheetPlace) (rows : List SheetRow) → IsBeforeAll p rows → greatest_on p rows ≡ None
none_before p [] h = refl
none_before p (row ∷ rows) h = ap (λ o. greater_of o (greatest_on p rows)) (other_place p row (ap is_eq h.0)) ∙ none_before p rows h.1

pub missing : (p : SheetPlace) (row : SheetRow) (rows : List SheetRow) → IsMap (row ∷ rows) → place_cmp p row.0 ≡ Less → greatest_on p (row ∷ rows) ≡ None
missing p row rows h e = none_before p (row ∷ rows) (e, before-trans p row.0 rows e (head_before row rows h))

pub at_head : (row : SheetRow) (rows : List SheetRow) → IsMap (row ∷ rows) → greatest_on row.0 (row ∷ rows) ≡ Some row.1
at_head row rows h = ap₂ greater_of (same_place row.0 row (ap is_eq (tied_itself place_total row.0))) (none_before row.0 rows (head_before row rows h))

pub past_head : (p : SheetPlace) (row : SheetRow) (rows : List SheetRow) → is_eq (place_cmp p row.0) ≡ false → greatest_on p (row ∷ rows) ≡ greatest_on p rows
past_head p row rows e = ap (λ o. greater_of o (greatest_on p rows)) (other_place p row e)

pub none_some : (e : SheetEntry) → None ≡ Some e → ⊥
none_some e h = true≢false (sym (ap is_some h))

-- ---- maps with the same entries are one
module _ (x y : SheetRow) (a b : List SheetRow) (h : IsMap (x ∷ a)) (k : IsMap (y ∷ b)) (s : (p : SheetPlace) → greatest_on p (x ∷ a) ≡ greatest_on p (y ∷ b)) where
  tails_same : x.0 ≡ y.0 → (p : SheetPlace) → greatest_on p a ≡ greatest_on p b
  tails_same place p = go (is_eq (place_cmp p x.0)) refl
    where
      go : (t : Bool) → is_eq (place_cmp p x.0) ≡ t → greatest_on p a ≡ greatest_on p b
      go false f = sym (past_head p x a f) ∙ s p ∙ past_head p y b (ap (λ z. is_eq (place_cmp p z)) (sym place) ∙ f)
      go true f =
          let here : p ≡ x.0 = place_exact p x.0 (equal_from (place_cmp p x.0) f) in
          ap (λ z. greatest_on z a) here ∙ none_before x.0 a (head_before x a h) ∙ sym (none_before y.0 b (head_before y b k)) ∙ ap (λ z. greatest_on z b) (sym place ∙ sym here)

  heads_same : x.0 ≡ y.0 → x.1 ≡ y.1
  heads_same place =
      let both : Some x.1 ≡ Some y.1 = sym (at_head x a h) ∙ s x.0 ∙ ap (λ p. greatest_on p (y ∷ b)) place ∙ at_head y b k in
      ap (λ o. unwrap_or o x.1) both

  step_same : (((p : SheetPlace) → greatest_on p a ≡ greatest_on p b) → a ≡ b) → (r : Ordering) → place_cmp x.0 y.0 ≡ r → (x ∷ a) ≡ (y ∷ b)
  step_same again Less e = absurd (none_some x.1 (sym (missing x.0 y b k e) ∙ sym (s x.0) ∙ at_head x a h))
  step_same again Equal e =
      let place = place_exact x.0 y.0 e in
      let entry = heads_same place in
      let head : x ≡ y = λ i. (place i, entry i) in
      ap₂ (λ (row : SheetRow) (rows : List SheetRow). row ∷ rows) head (again (tails_same place))
  step_same again Greater e =
      let less : place_cmp y.0 x.0 ≡ Less = place_total.antisymm y.0 x.0 ∙ ap ordering_reverse e in
      absurd (none_some y.1 (sym (missing y.0 x a h less) ∙ s y.0 ∙ at_head y b k))

pub map_is_one : (a b : List SheetRow) → IsMap a → IsMap b → ((p : SheetPlace) → greatest_on p a ≡ greatest_on p b) → a ≡ b
map_is_one [] [] h k s = refl
map_is_one [] (y ∷ b) h k s = absurd (none_some y.1 (s y.0 ∙ at_head y b k))
map_is_one (x ∷ a) [] h k s = absurd (none_some x.1 (sym (s x.0) ∙ at_head x a h))
map_is_one (x ∷ a) (y ∷ b) h k s = step_same x y a b h k s (map_is_one a b (tail_map x a h) (tail_map y b k)) (place_cmp x.0 y.0) refl

-- ---- a map whose places are among those of another is no longer
abbrev pub ArePlacesIn : List SheetRow → List SheetRow → Type 0
ArePlacesIn a b = (p : SheetPlace) → is_some (greatest_on p a) ≡ true → is_some (greatest_on p b) ≡ true

some_head : (row : SheetRow) (rows : List SheetRow) → IsMap (row ∷ rows) → is_some (greatest_on row.0 (row ∷ rows)) ≡ true
some_head row rows h = ap is_some (at_head row rows h)

module _ (x y : SheetRow) (a b : List SheetRow) (h : IsMap (x ∷ a)) (k : IsMap (y ∷ b)) (s : ArePlacesIn (x ∷ a) (y ∷ b)) where
  -- a place of the tail is not that of the head
  not_head : (p : SheetPlace) → is_some (greatest_on p a) ≡ true → is_eq (place_cmp p x.0) ≡ false
  not_head p some = go (is_eq (place_cmp p x.0)) refl
    where
      go : (t : Bool) → is_eq (place_cmp p x.0) ≡ t → is_eq (place_cmp p x.0) ≡ false
      go false f = f
      go true f =
          let here : p ≡ x.0 = place_exact p x.0 (equal_from (place_cmp p x.0) f) in
          absurd (true≢false (sym some ∙ ap (λ z. is_some (greatest_on z a)) here ∙ ap is_some (none_before x.0 a (head_before x a h))))

  tails_in : x.0 ≡ y.0 → ArePlacesIn a b
  tails_in place p some =
      let apart = not_head p some in
      sym (ap is_some (past_head p y b (ap (λ z. is_eq (place_cmp p z)) (sym place) ∙ apart))) ∙ s p (ap is_some (past_head p x a apart) ∙ some)

  -- where the other begins earlier, all places are in its tail
  whole_in : place_cmp y.0 x.0 ≡ Less → ArePlacesIn (x ∷ a) b
  whole_in less p some = go (is_eq (place_cmp p y.0)) refl
    where
      go : (t : Bool) → is_eq (place_cmp p y.0) ≡ t → is_some (greatest_on p b) ≡ true
      go false f = sym (ap is_some (past_head p y b f)) ∙ s p some
      go true f =
          let here : p ≡ y.0 = place_exact p y.0 (equal_from (place_cmp p y.0) f) in
          absurd (true≢false (sym some ∙ ap (λ z. is_some (greatest_on z (x ∷ a))) here ∙ ap is_some (missing y.0 x a h less)))

pub no_longer : (a b : List SheetRow) → IsMap a → IsMap b → ArePlacesIn a b → length a ≤ length b
no_longer [] b h k s = omega arith
no_longer (x ∷ a) [] h k s = absurd (true≢false (sym (s x.0 (some_head x a h))))
no_longer (x ∷ a) (y ∷ b) h k s =
    step (place_cmp x.0 y.0) refl (λ place. no_longer a b (tail_map x a h) (tail_map y b k) (tails_in x y a b h k s place)) (λ less. no_longer (x ∷ a) b h (tail_map y b k) (whole_in x y a b h k s less))
  where
    step : (r : Ordering) → place_cmp x.0 y.0 ≡ r → (x.0 ≡ y.0 → length a ≤ length b) → (place_cmp y.0 x.0 ≡ Less → length (x ∷ a) ≤ length b) → length (x ∷ a) ≤ length (y ∷ b)
    step Less e f g = absurd (true≢false (sym (s x.0 (some_head x a h)) ∙ ap is_some (missing x.0 y b k e)))
    step Equal e f g = let le = f (place_exact x.0 y.0 e) in omega (arith, le)
    step Greater e f g = let le = g (place_total.antisymm y.0 x.0 ∙ ap ordering_reverse e) in omega (arith, le)
