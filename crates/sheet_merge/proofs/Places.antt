-- The next row of two maps, by their places.
use Rattle.std.proofs.Common.{◌≡◌, ℕ, ◌+◌, ◌<◌, ◌≤◌, List, [], ◌∷◌, length, drop, ap, sym, subst, ◌∙◌, arith, drop_of_length-le, inl, inr}
use Rattle.std.proofs.lemmas.Bool.{cases_lt}
use Rattle.std.specs.Ordering.{ordering_reverse}
use Rattle.std.specs.declared.cmp.Ordering.TheVariants.{Less, Equal, Greater}
use Rattle.std.proofs.lemmas.List.{drop_more}
use Rattle.sheet_merge.specs.Sheet.{SheetRow, place_cmp, greater, IsMap}
use Rattle.sheet_merge.specs.Packed.{row_at, no_row}
use Rattle.sheet_merge.specs.Walking.{IsTakenNext}
use Rattle.sheet_merge.proofs.Entries.{place_total}
use Rattle.sheet_merge.proofs.Walking.{from_first, only_first, from_both}

pub dropped : (xs : List SheetRow) (i : ℕ) (x : SheetRow) → i < length xs → x ≡ row_at xs i → drop i xs ≡ x ∷ drop (i + 1) xs
dropped xs i x lt is = drop_more xs i no_row lt ∙ ap (λ (y : SheetRow). y ∷ drop (i + 1) xs) (sym is)

module _ (a b : List SheetRow) (i j : ℕ) (h : IsMap (drop i a)) (k : IsMap (drop j b)) where
  pub next_only : (x : SheetRow) → i < length a → length b ≤ j → x ≡ row_at a i → IsTakenNext (drop i a) (drop j b) x (drop (i + 1) a) (drop j b)
  next_only x lt past is =
      let here = dropped a i x lt is in
      let there : drop j b ≡ [] = drop_of_length-le b past in
      let plain = only_first x (drop (i + 1) a) (subst IsMap here h) in
      subst (λ (q : List SheetRow). IsTakenNext (drop i a) q x (drop (i + 1) a) q) (sym there)
      (subst (λ (p : List SheetRow). IsTakenNext p [] x (drop (i + 1) a) []) (sym here) plain)

  pub next_less : (x y : SheetRow) → i < length a → j < length b → x ≡ row_at a i → y ≡ row_at b j → place_cmp x.0 y.0 ≡ Less → IsTakenNext (drop i a) (drop j b) x (drop (i + 1) a) (drop j b)
  next_less x y lt gt is was less =
      let here = dropped a i x lt is in
      let there = dropped b j y gt was in
      let plain = from_first x y (drop (i + 1) a) (drop (j + 1) b) (subst IsMap here h) (subst IsMap there k) less in
      subst (λ (q : List SheetRow). IsTakenNext (drop i a) q x (drop (i + 1) a) q) (sym there)
      (subst (λ (p : List SheetRow). IsTakenNext p (y ∷ drop (j + 1) b) x (drop (i + 1) a) (y ∷ drop (j + 1) b)) (sym here) plain)

  pub next_both : (x y row : SheetRow) → i < length a → j < length b → x ≡ row_at a i → y ≡ row_at b j → row ≡ (x.0, greater x.1 y.1) → place_cmp x.0 y.0 ≡ Equal → IsTakenNext (drop i a) (drop j b) row (drop (i + 1) a) (drop (j + 1) b)
  next_both x y row lt gt is was same equal =
      let here = dropped a i x lt is in
      let there = dropped b j y gt was in
      let plain = from_both x y (drop (i + 1) a) (drop (j + 1) b) (subst IsMap here h) (subst IsMap there k) equal in
      subst (λ (r : SheetRow). IsTakenNext (drop i a) (drop j b) r (drop (i + 1) a) (drop (j + 1) b)) (sym same)
      (subst (λ (q : List SheetRow). IsTakenNext (drop i a) q (x.0, greater x.1 y.1) (drop (i + 1) a) (drop (j + 1) b)) (sym there)
      (subst (λ (p : List SheetRow). IsTakenNext p (y ∷ drop (j + 1) b) (x.0, greater x.1 y.1) (drop (i + 1) a) (drop (j + 1) b)) (sym here) plain))

pub less_back : (x y : SheetRow) → place_cmp x.0 y.0 ≡ Greater → place_cmp y.0 x.0 ≡ Less
less_back x y e = place_total.antisymm y.0 x.0 ∙ ap ordering_reverse e

pub below_from : (m n : ℕ) → m ≤ n → (m ≡ n → ⊥) → m < n
below_from m n le other = elim (cases_lt m n) [ inl less ↦ less | inr from ↦ absurd (other (omega (arith, le, from))) ]
