-- The greatest of a list depends on which elements it has, and neither on their order nor on how often they come.
use Rattle.std.proofs.Common.{◌≡◌, ℕ, zero, suc, ◌<◌, List, [], ◌∷◌, ◌++◌, length, get_or, Option, refl, ap, sym, subst, ◌∙◌, arith}
use Rattle.sheet_merge.specs.Sheet.{SheetEntry, greater_of, greatest_by}
use Rattle.sheet_merge.specs.Merging.{AreIn, HaveSame}
use Rattle.sheet_merge.proofs.Entries.{greater_of-itself, greater_of-order, greater_of-pairs}

module _ {X : Type 0} (entry : X → Option SheetEntry) where
  -- an element's own entry adds nothing
  absorbed : (xs : List X) (k : ℕ) (d : X) → k < length xs → greater_of (entry (get_or xs k d)) (greatest_by entry xs) ≡ greatest_by entry xs
  absorbed [] k d lt = absurd (omega (arith, lt))
  absorbed (x ∷ xs) zero d lt = sym (greater_of-pairs (entry x) (entry x) (greatest_by entry xs)) ∙ ap (λ o. greater_of o (greatest_by entry xs)) (greater_of-itself (entry x))
  absorbed (x ∷ xs) (suc k) d lt =
      let here = entry (get_or xs k d) in
      sym (greater_of-pairs here (entry x) (greatest_by entry xs))
      ∙ ap (λ o. greater_of o (greatest_by entry xs)) (greater_of-order here (entry x))
      ∙ greater_of-pairs (entry x) here (greatest_by entry xs)
      ∙ ap (greater_of (entry x)) (absorbed xs k d (omega (arith, lt)))

  covered : (xs ys : List X) → AreIn xs ys → greater_of (greatest_by entry xs) (greatest_by entry ys) ≡ greatest_by entry ys
  covered [] ys h = refl
  covered (x ∷ xs) ys h =
      let at = h x (0, omega arith, refl) in
      let member : greater_of (entry x) (greatest_by entry ys) ≡ greatest_by entry ys = subst (λ z. greater_of (entry z) (greatest_by entry ys) ≡ greatest_by entry ys) at.2 (absorbed ys at.0 x at.1) in
      greater_of-pairs (entry x) (greatest_by entry xs) (greatest_by entry ys)
      ∙ ap (greater_of (entry x)) (covered xs ys (λ y c. h y (suc c.0, omega (arith, c.1), c.2)))
      ∙ member

  pub same_elements : (xs ys : List X) → HaveSame xs ys → greatest_by entry xs ≡ greatest_by entry ys
  same_elements xs ys h = sym (covered ys xs h.1) ∙ greater_of-order (greatest_by entry ys) (greatest_by entry xs) ∙ covered xs ys h.0

  pub greatest_by-append : (xs ys : List X) → greatest_by entry (xs ++ ys) ≡ greater_of (greatest_by entry xs) (greatest_by entry ys)
  greatest_by-append [] ys = refl
  greatest_by-append (x ∷ xs) ys = ap (greater_of (entry x)) (greatest_by-append xs ys) ∙ sym (greater_of-pairs (entry x) (greatest_by entry xs) (greatest_by entry ys))
