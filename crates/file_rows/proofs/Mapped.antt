-- Tests on the elements of a list that is seen through a function.
use Rattle.std.proofs.Common.{◌≡◌, ℕ, ◌+◌, List, [], ◌∷◌, refl, ap, ap₂, sym, ◌∙◌}
use Rattle.std.specs.Prelude.{Bool, true, false, not, map, sum_by, ◌||◌}
use Rattle.std.specs.List.{list_any}
use Rattle.std.proofs.lemmas.List.Sums.{sum_by-cons}

pub not-true : (b : Bool) → not b ≡ true → b ≡ false
not-true true e = sym e
not-true false e = refl

pub list_any-map : {A B : Type 0} (test : B → Bool) (f : A → B) (xs : List A) → list_any (λ x. test (f x)) xs ≡ list_any test (map f xs)
list_any-map test f [] = refl
list_any-map test f (x ∷ xs) = ap (λ b. test (f x) || b) (list_any-map test f xs)

-- seen through two functions one after the other
pub map-map : {A B C : Type 0} (f : B → C) (g : A → B) (h : A → C) → ((x : A) → f (g x) ≡ h x) → (xs : List A) → map f (map g xs) ≡ map h xs
map-map f g h e [] = refl
map-map f g h e (x ∷ xs) = ap₂ (λ y ys. y ∷ ys) (e x) (map-map f g h e xs)

pub sum_by-map : {A B : Type 0} (count : B → ℕ) (f : A → B) (xs : List A) → sum_by (λ x. count (f x)) xs ≡ sum_by count (map f xs)
sum_by-map count f [] = refl
sum_by-map count f (x ∷ xs) = sum_by-cons (λ x. count (f x)) x xs ∙ ap (λ n. count (f x) + n) (sum_by-map count f xs) ∙ sym (sum_by-cons count (f x) (map f xs))
