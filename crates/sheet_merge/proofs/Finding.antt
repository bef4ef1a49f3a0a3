-- A place that is looked for in a map.
use Rattle.std.proofs.Common.{◌≡◌, ℕ, zero, suc, ◌+◌, ◌<◌, ◌≤◌, false, true≢false, List, [], ◌∷◌, length, map, Some, None, refl, ap, ap₂, sym, subst, ◌∙◌, arith, inl, inr}
use Rattle.std.specs.Prelude.{if◌then◌else◌}
use Rattle.std.specs.Ordering.{ordering_reverse, is_eq, is_lt}
use Rattle.std.specs.declared.cmp.Ordering.{Ordering}
use Rattle.std.specs.declared.cmp.Ordering.TheVariants.{Less, Equal, Greater}
use Rattle.std.proofs.lemmas.Bool.{cases_lt}
use Rattle.std.proofs.lemmas.List.{get_or-map, length-map}
use Rattle.std.proofs.lemmas.Map.Keys.{Less-from_sorted}
use Rattle.sheet_merge.specs.Sheet.{SheetPlace, SheetRow, IsMap, place_of, place_cmp, greatest_on, greater_of}
use Rattle.sheet_merge.specs.Packed.{row_at, no_row}
use Rattle.sheet_merge.proofs.Entries.{place_total, place_exact}
use Rattle.sheet_merge.proofs.Maps.{tail_map, at_head, past_head, other_place}

-- rows of a map ascend
pub row_less : (rows : List SheetRow) (i j : ℕ) → IsMap rows → i < j → j < length rows → place_cmp (row_at rows i).0 (row_at rows j).0 ≡ Less
row_less rows i j h lt within =
    let long = length-map rows place_of in
    let here = get_or-map place_of rows i no_row no_row.0 (omega (arith, lt, within)) in
    let there = get_or-map place_of rows j no_row no_row.0 within in
    ap₂ place_cmp (sym here) (sym there) ∙ Less-from_sorted place_cmp (map place_of rows) i j no_row.0 h lt (omega (arith, within, long))

-- a place that no row has
pub nothing : (p : SheetPlace) (rows : List SheetRow) → ((k : ℕ) → k < length rows → is_eq (place_cmp p (row_at rows k).0) ≡ false) → greatest_on p rows ≡ None
nothing p [] h = refl
nothing p (x ∷ rows) h = ap (λ o. greater_of o (greatest_on p rows)) (other_place p x (h 0 (omega arith))) ∙ nothing p rows (λ k lt. h (suc k) (omega arith))

less_other : (p q : SheetPlace) → place_cmp q p ≡ Less → is_eq (place_cmp p q) ≡ false
less_other p q e = ap is_eq (place_total.antisymm p q ∙ ap ordering_reverse e)

-- a place that a row has
pub found : (p : SheetPlace) (rows : List SheetRow) (i : ℕ) → IsMap rows → i < length rows → place_cmp (row_at rows i).0 p ≡ Equal → greatest_on p rows ≡ Some (row_at rows i).1
found p [] i h lt e = absurd (omega arith)
found p (x ∷ rows) zero h lt e = ap (λ q. greatest_on q (x ∷ rows)) (sym (place_exact x.0 p e)) ∙ at_head x rows h
found p (x ∷ rows) (suc i) h lt e =
    let less : place_cmp x.0 p ≡ Less = ap (place_cmp x.0) (sym (place_exact (row_at rows i).0 p e)) ∙ row_less (x ∷ rows) 0 (suc i) h (omega arith) lt in
    past_head p x rows (less_other p x.0 less) ∙ found p rows i (tail_map x rows h) (omega arith) e

-- the place is not among the rows before the low one, nor among those from the high one on
pub record IsBetween (p : SheetPlace) (rows : List SheetRow) (low high : ℕ) : Type 0 where
  pub low_in : low ≤ high
  pub high_in : high ≤ length rows
  pub below : (k : ℕ) → k < low → place_cmp (row_at rows k).0 p ≡ Less
  pub above : (k : ℕ) → high ≤ k → k < length rows → place_cmp p (row_at rows k).0 ≡ Less

pub between_all : (p : SheetPlace) (rows : List SheetRow) (high : ℕ) → high ≡ length rows → IsBetween p rows 0 high
between_all p rows high e = record { low_in = omega arith; high_in = omega (arith, e); below = λ k lt. absurd (omega arith); above = λ k le lt. absurd (omega (arith, e)) }

pub between_none : (p : SheetPlace) (rows : List SheetRow) (low high : ℕ) → IsBetween p rows low high → high ≤ low → greatest_on p rows ≡ None
between_none p rows low high h past = nothing p rows (λ k lt. elim (cases_lt k low) [
  | inl before ↦ less_other p (row_at rows k).0 (h.below k before)
  | inr from ↦ ap is_eq (h.above k (let same = h.low_in in omega (arith, from, past, same)) lt)
])

module _ (p : SheetPlace) (rows : List SheetRow) (is : IsMap rows) (low m high : ℕ) (h : IsBetween p rows low high) (ge : low ≤ m) (lt : m < high) where
  after : place_cmp (row_at rows m).0 p ≡ Less → IsBetween p rows (m + 1) high
  after e = record {
    low_in = omega (arith, lt);
    high_in = h.high_in;
    below = λ k less. elim (cases_lt k m) [
      | inl before ↦ place_total.trans (row_at rows k).0 (row_at rows m).0 p (row_less rows k m is before (let within = h.high_in in omega (arith, lt, within))) e
      | inr from ↦ (let same : k ≡ m = omega (arith, less, from) in ap (λ j. place_cmp (row_at rows j).0 p) same ∙ e)
    ];
    above = h.above;
  }

  before : place_cmp (row_at rows m).0 p ≡ Greater → IsBetween p rows low m
  before e =
      let less : place_cmp p (row_at rows m).0 ≡ Less = place_total.antisymm p (row_at rows m).0 ∙ ap ordering_reverse e in
      record {
        low_in = ge;
        high_in = let within = h.high_in in omega (arith, lt, within);
        below = h.below;
        above = λ k from within. elim (cases_lt m k) [
          | inl later ↦ place_total.trans p (row_at rows m).0 (row_at rows k).0 less (row_less rows m k is later within)
          | inr back ↦ (let same : k ≡ m = omega (arith, from, back) in ap (λ j. place_cmp p (row_at rows j).0) same ∙ less)
        ];
      }

  pub narrower : (r : Ordering) (ends : ℕ × ℕ) → r ≡ place_cmp (row_at rows m).0 p → is_eq r ≡ false → ends ≡ (if is_lt r then (m + 1, high) else (low, m)) → IsBetween p rows ends.0 ends.1
  narrower Less ends e other is = subst (λ (pair : ℕ × ℕ). IsBetween p rows pair.0 pair.1) (sym is) (after (sym e))
  narrower Equal ends e other is = absurd (true≢false other)
  narrower Greater ends e other is = subst (λ (pair : ℕ × ℕ). IsBetween p rows pair.0 pair.1) (sym is) (before (sym e))
