-- Lists side by side.
use Rattle.std.proofs.Common.{ℕ, zero, suc, List, [], ◌∷◌, get_or}
use Rattle.std.proofs.Math.ListN.{set}
use Rattle.std.specs.List.{AllZip}

module _ {X : Type 0} (R : X → X → Type 0) where
  pub beside_itself : ((x : X) → R x x) → (xs : List X) → AllZip R xs xs
  beside_itself same [] = tt
  beside_itself same (x ∷ xs) = (same x, beside_itself same xs)

  pub beside_both : ((x y z : X) → R x y → R y z → R x z) → (xs ys zs : List X) → AllZip R xs ys → AllZip R ys zs → AllZip R xs zs
  beside_both chain [] [] zs h k = k
  beside_both chain [] (y ∷ ys) zs h k = absurd h
  beside_both chain (x ∷ xs) [] zs h k = absurd h
  beside_both chain (x ∷ xs) (y ∷ ys) [] h k = absurd k
  beside_both chain (x ∷ xs) (y ∷ ys) (z ∷ zs) h k = (chain x y z h.0 k.0, beside_both chain xs ys zs h.1 k.1)

  -- a list with one other item
  pub beside_set : ((x : X) → R x x) → (d : X) (xs : List X) (i : ℕ) (y : X) → R (get_or xs i d) y → AllZip R xs (set xs i y)
  beside_set same d [] i y h = tt
  beside_set same d (x ∷ xs) zero y h = (h, beside_itself same xs)
  beside_set same d (x ∷ xs) (suc i) y h = (same x, beside_set same d xs i y h)
