-- Names of topics, one after another.
use Rattle.std.proofs.Common.{◌≡◌, ◌≢◌, ℕ, Bool, true, false, not, nat_eq, List, [], ◌∷◌, length, refl, ap, sym, subst, ◌∙◌, arith}
use Rattle.std.specs.Cmp.Lexicographic.{pointwise, same_text, other_text}
use Rattle.std.specs.List.{AllByRecursion, zip}

from_not : (b c : Bool) → not b ≡ c → not c ≡ b
from_not true c e = sym (ap not e)
from_not false c e = sym (ap not e)

-- what a test of two names tells
pub names_same : (x y : List ℕ) (b : Bool) → b ≡ not (pointwise nat_eq x y) → b ≡ false → x ≡ y
names_same x y b is e = same_text x y (from_not (pointwise nat_eq x y) false (sym is ∙ e))

pub names_differ : (x y : List ℕ) (b : Bool) → b ≡ not (pointwise nat_eq x y) → b ≡ true → x ≢ y
names_differ x y b is e = other_text x y (from_not (pointwise nat_eq x y) true (sym is ∙ e))

-- lists of one length whose items are the same are one
pub zip_same : (xs ys : List (List ℕ)) → length xs ≡ length ys → AllByRecursion (λ (p : List ℕ × List ℕ). p.0 ≡ p.1) (zip xs ys) → xs ≡ ys
zip_same [] [] e h = refl
zip_same [] (y ∷ ys) e h = absurd (omega arith)
zip_same (x ∷ xs) [] e h = absurd (omega arith)
zip_same (x ∷ xs) (y ∷ ys) e h = let rest = zip_same xs ys (omega (arith, e)) h.1 in ap (λ z. z ∷ xs) h.0 ∙ ap (λ zs. y ∷ zs) rest

pub same_zip : (xs ys : List (List ℕ)) → xs ≡ ys → AllByRecursion (λ (p : List ℕ × List ℕ). p.0 ≡ p.1) (zip xs ys)
same_zip xs ys e = subst (λ zs. AllByRecursion (λ (p : List ℕ × List ℕ). p.0 ≡ p.1) (zip xs zs)) e (itself xs)
  where
    itself : (zs : List (List ℕ)) → AllByRecursion (λ (p : List ℕ × List ℕ). p.0 ≡ p.1) (zip zs zs)
    itself [] = tt
    itself (z ∷ zs) = (refl, itself zs)
