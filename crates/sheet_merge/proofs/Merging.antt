-- Merging sheets one after the other.
use Rattle.std.proofs.Common.{◌≡◌, ℕ, ◌<◌, ◌≤◌, true≢false, is_some, List, [], ◌∷◌, length, Option, Some, None, refl, ap, sym, ◌∙◌, arith, inl, inr}
use Rattle.sheet_merge.specs.Sheet.{SheetEntry, SheetPlace, SheetRow, entry_on, greatest_on, greatest_by, greater_of, IsMap, IsMapOf}
use Rattle.sheet_merge.specs.Merging.{IsMergeOf, IsMergeOfAll, MergesTo, HaveSame}
use Rattle.sheet_merge.proofs.Entries.{greater_of-none, greater_of-pairs, some_first}
use Rattle.sheet_merge.proofs.Greatest.{same_elements}
use Rattle.sheet_merge.proofs.Maps.{ArePlacesIn, map_is_one, no_longer, no_map}

pub lines_free : (lines others a b : List SheetRow) → HaveSame lines others → IsMapOf lines a → IsMapOf others b → a ≡ b
lines_free lines others a b same h k = map_is_one a b h.is_map k.is_map (λ p. h.greatest p ∙ same_elements (entry_on p) lines others same ∙ sym (k.greatest p))

pub sheets_free : (sheets others : List (List SheetRow)) (a b : List SheetRow) → HaveSame sheets others → IsMergeOfAll sheets a → IsMergeOfAll others b → a ≡ b
sheets_free sheets others a b same h k = map_is_one a b h.is_map k.is_map (λ p. h.greatest p ∙ same_elements (greatest_on p) sheets others same ∙ sym (k.greatest p))

none_some_rows : (rows : List SheetRow) → Some rows ≡ None → ⊥
none_some_rows rows h = true≢false (ap is_some h)

-- what a map and sheets have at a place together
abbrev together : List SheetRow → List (List SheetRow) → SheetPlace → Option SheetEntry
together had sheets p = greater_of (greatest_on p had) (greatest_by (greatest_on p) sheets)

-- one sheet more or less
next_together : (p : SheetPlace) (had sheet rows : List SheetRow) (sheets : List (List SheetRow)) → IsMergeOf had sheet rows → together rows sheets p ≡ together had (sheet ∷ sheets) p
next_together p had sheet rows sheets h =
    ap (λ o. greater_of o (greatest_by (greatest_on p) sheets)) (h.greater p)
    ∙ greater_of-pairs (greatest_on p had) (greatest_on p sheet) (greatest_by (greatest_on p) sheets)

-- ---- a merge of all
record Merges (limit : ℕ) (had : List SheetRow) (sheets : List (List SheetRow)) (rows : List SheetRow) : Type 0 where
  is_map : IsMap rows
  greatest : (p : SheetPlace) → greatest_on p rows ≡ together had sheets p
  small : length rows ≤ limit

merges : (limit : ℕ) (had : List SheetRow) (sheets : List (List SheetRow)) (rows : List SheetRow) → IsMap had → length had ≤ limit → MergesTo limit had sheets (Some rows) → Merges limit had sheets rows
merges limit had [] rows h le e = record {
  is_map = rw e h;
  greatest = λ p. ap (greatest_on p) e ∙ sym (greater_of-none (greatest_on p had));
  small = rw e le;
}
merges limit had (sheet ∷ sheets) rows h le m =
    elim m.2 [
      | inl next ↦
          let rest = merges limit m.0 sheets rows m.1.is_map next.0 next.1 in
          record { is_map = rest.is_map; greatest = λ p. rest.greatest p ∙ next_together p had sheet m.0 sheets m.1; small = rest.small }
      | inr over ↦ absurd (none_some_rows rows over.1)
    ]

-- ---- a refusal
refused : (limit : ℕ) (had : List SheetRow) (sheets : List (List SheetRow)) (whole : List SheetRow) → MergesTo limit had sheets None → IsMap whole → ((p : SheetPlace) → greatest_on p whole ≡ together had sheets p) → limit < length whole
refused limit had [] whole m h s = absurd m
refused limit had (sheet ∷ sheets) whole m h s =
    elim m.2 [
      | inl next ↦ refused limit m.0 sheets whole next.1 h (λ p. s p ∙ sym (next_together p had sheet m.0 sheets m.1))
      | inr over ↦
          let among : ArePlacesIn m.0 whole = λ p some. ap is_some (s p ∙ sym (next_together p had sheet m.0 sheets m.1)) ∙ some_first (greatest_on p m.0) (greatest_by (greatest_on p) sheets) some in
          let le = no_longer m.0 whole m.1.is_map h among in
          let lt = over.0 in
          omega (arith, le, lt)
    ]

pub merges_all : (limit : ℕ) (sheets : List (List SheetRow)) (rows : List SheetRow) → MergesTo limit [] sheets (Some rows) → IsMergeOfAll sheets rows × (length rows ≤ limit)
merges_all limit sheets rows m =
    let h = merges limit [] sheets rows no_map (omega arith) m in
    (record { is_map = h.is_map; greatest = h.greatest }, h.small)

pub refused_all : (limit : ℕ) (sheets : List (List SheetRow)) (whole : List SheetRow) → MergesTo limit [] sheets None → IsMergeOfAll sheets whole → limit < length whole
refused_all limit sheets whole m h = refused limit [] sheets whole m h.is_map h.greatest

-- the merge of sheets is that of others with the same sheets
other_sheets : (sheets others : List (List SheetRow)) (rows : List SheetRow) → HaveSame sheets others → IsMergeOfAll sheets rows → IsMergeOfAll others rows
other_sheets sheets others rows same h = record { is_map = h.is_map; greatest = λ p. h.greatest p ∙ same_elements (greatest_on p) sheets others same }

never_both : (limit : ℕ) (sheets others : List (List SheetRow)) (rows : List SheetRow) → HaveSame sheets others → MergesTo limit [] sheets (Some rows) → MergesTo limit [] others None → ⊥
never_both limit sheets others rows same m n =
    let h = merges_all limit sheets rows m in
    let lt = refused_all limit others rows n (other_sheets sheets others rows same h.0) in
    let le = h.1 in
    absurd (omega (arith, lt, le))

pub merging_one : (limit : ℕ) (sheets others : List (List SheetRow)) (result other : Option (List SheetRow)) → HaveSame sheets others → MergesTo limit [] sheets result → MergesTo limit [] others other → result ≡ other
merging_one limit sheets others None None same m n = refl
merging_one limit sheets others (Some a) None same m n = absurd (never_both limit sheets others a same m n)
merging_one limit sheets others None (Some b) same m n = absurd (never_both limit others sheets b (same.1, same.0) n m)
merging_one limit sheets others (Some a) (Some b) same m n = ap Some (sheets_free sheets others a b same (merges_all limit sheets a m).0 (merges_all limit others b n).0)
