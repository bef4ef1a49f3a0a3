-- Items of lists, by their places, and lists of lists.
use Rattle.std.proofs.Common.{◌≡◌, ℕ, zero, suc, ◌+◌, List, [], ◌∷◌, ◌++◌, length, map, Some, refl, ap, sym, subst, ◌∙◌, arith}
use Rattle.std.specs.Prelude.{slice_get, flat_map}
use Rattle.std.specs.List.{AllByRecursion, zip}
use Rattle.std.specs.Option.{option_map}
use Rattle.std.proofs.lemmas.Option.{slice_get-map}
use Rattle.std.proofs.lemmas.Grind.{flat_map-append}

-- of two lists side by side
pub slice_get-zip : {A B : Type 0} (xs : List A) (ys : List B) (i : ℕ) (x : A) (y : B) → slice_get xs i ≡ Some x → slice_get ys i ≡ Some y → slice_get (zip xs ys) i ≡ Some (x, y)
slice_get-zip [] ys i x y e f = absurd (cc)
slice_get-zip (a ∷ xs) [] i x y e f = absurd (cc)
slice_get-zip (a ∷ xs) (b ∷ ys) zero x y e f = let p : a ≡ x = cc in let q : b ≡ y = cc in rw (p, q) refl
slice_get-zip (a ∷ xs) (b ∷ ys) (suc i) x y e f = slice_get-zip xs ys i x y e f

-- of two lists one after the other
pub slice_get-append_past : {X : Type 0} (xs ys : List X) (i : ℕ) → slice_get (xs ++ ys) (length xs + i) ≡ slice_get ys i
slice_get-append_past [] ys i = let e : 0 + i ≡ i = omega arith in ap (slice_get ys) e
slice_get-append_past (x ∷ xs) ys i = let e : suc (length xs) + i ≡ suc (length xs + i) = omega arith in ap (slice_get (x ∷ xs ++ ys)) e ∙ slice_get-append_past xs ys i

pub slice_get-append : {X : Type 0} (xs ys : List X) (i : ℕ) (x : X) → slice_get xs i ≡ Some x → slice_get (xs ++ ys) i ≡ Some x
slice_get-append [] ys i x e = absurd (cc)
slice_get-append (y ∷ xs) ys zero x e = e
slice_get-append (y ∷ xs) ys (suc i) x e = slice_get-append xs ys i x e

-- of the items' values
pub map_there : {X Y : Type 0} (f : X → Y) (xs : List X) (i : ℕ) (x : X) → slice_get xs i ≡ Some x → slice_get (map f xs) i ≡ Some (f x)
map_there f xs i x e = slice_get-map f xs i ∙ ap (option_map f) e

-- what holds of all items holds of one
pub all_there : {X : Type 0} (P : X → Type 0) (xs : List X) (i : ℕ) (x : X) → AllByRecursion P xs → slice_get xs i ≡ Some x → P x
all_there P [] i x h e = absurd (cc)
all_there P (y ∷ xs) zero x h e = let same : y ≡ x = cc in subst P same h.0
all_there P (y ∷ xs) (suc i) x h e = all_there P xs i x h.1 e

-- what holds of the items of two lists holds of both together
pub all-append : {X : Type 0} (P : X → Type 0) (xs ys : List X) → AllByRecursion P xs → AllByRecursion P ys → AllByRecursion P (xs ++ ys)
all-append P [] ys h k = k
all-append P (x ∷ xs) ys h k = (h.0, all-append P xs ys h.1 k)

-- the items of lists within lists, taken in one step or in two
pub flat_map-nested : {A B C : Type 0} (f : A → List B) (k : B → List C) (xs : List A) → flat_map (λ x. flat_map k (f x)) xs ≡ flat_map k (flat_map f xs)
flat_map-nested f k [] = refl
flat_map-nested f k (x ∷ xs) = ap (λ q. flat_map k (f x) ++ q) (flat_map-nested f k xs) ∙ sym (flat_map-append k (f x) (flat_map f xs))
