-- Lists side by side: the names of runs with their numbers, and pairs of both.
use Rattle.std.proofs.Common.{◌≡◌, ℕ, suc, ◌+◌, List, [], ◌∷◌, ◌++◌, length, map, Some, refl, subst, arith}
use Rattle.std.specs.Prelude.{slice_get}
use Rattle.std.specs.List.{AllZip, AllByRecursion, zip, range_with_len}
use Rattle.desk_model.specs.Pairs.{pairs_of}

pub all_prefix : {X : Type 0} (P : X → Type 0) (xs ys : List X) → AllByRecursion P (xs ++ ys) → AllByRecursion P xs
all_prefix P [] ys h = tt
all_prefix P (x ∷ xs) ys h = (h.0, all_prefix P xs ys h.1)

pub all_weaker : {X : Type 0} (P Q : X → Type 0) (xs : List X) → ((x : X) → P x → Q x) → AllByRecursion P xs → AllByRecursion Q xs
all_weaker P Q [] f h = tt
all_weaker P Q (x ∷ xs) f h = (f x h.0, all_weaker P Q xs f h.1)

pub both : {A B : Type 0} (R S : A → B → Type 0) (xs : List A) (ys : List B) → AllZip R xs ys → AllZip S xs ys → AllZip (λ x y. R x y × S x y) xs ys
both R S [] [] h k = tt
both R S [] (y ∷ ys) h k = h
both R S (x ∷ xs) [] h k = h
both R S (x ∷ xs) (y ∷ ys) h k = ((h.0, k.0), both R S xs ys h.1 k.1)

-- what holds of two lists beside a third holds of a line for each place of the two
pub each_line : {A B C : Type 0} (R : A → B → Type 0) (S : A → C → Type 0) (f : B × C → List ℕ) (P : List ℕ → Type 0) → ((a : A) (b : B) (c : C) → R a b → S a c → P (f (b, c))) →
    (xs : List A) (ys : List B) (zs : List C) → AllZip R xs ys → AllZip S xs zs → AllByRecursion P (map f (zip ys zs))
each_line R S f P g [] [] zs h k = tt
each_line R S f P g [] (y ∷ ys) zs h k = absurd h
each_line R S f P g (x ∷ xs) [] zs h k = absurd h
each_line R S f P g (x ∷ xs) (y ∷ ys) [] h k = absurd k
each_line R S f P g (x ∷ xs) (y ∷ ys) (z ∷ zs) h k = (g x y z h.0 k.0, each_line R S f P g xs ys zs h.1 k.1)

all_zip-append : {A B : Type 0} (R : A → B → Type 0) (xs vs : List A) (ys ws : List B) → AllZip R xs ys → AllZip R vs ws → AllZip R (xs ++ vs) (ys ++ ws)
all_zip-append R [] vs [] ws h k = k
all_zip-append R [] vs (y ∷ ys) ws h k = absurd h
all_zip-append R (x ∷ xs) vs [] ws h k = absurd h
all_zip-append R (x ∷ xs) vs (y ∷ ys) ws h k = (h.0, all_zip-append R xs vs ys ws h.1 k)

-- two pairs are alike where both their parts are
abbrev pub AlikePairs : {A B : Type 0} → (A → B → Type 0) → A × A → B × B → Type 0
AlikePairs R p q = R p.0 q.0 × R p.1 q.1

with_one : {A B : Type 0} (R : A → B → Type 0) (x : A) (y : B) (xs : List A) (ys : List B) → R x y → AllZip R xs ys → AllZip (AlikePairs R) (map (λ z. (x, z)) xs) (map (λ z. (y, z)) ys)
with_one R x y [] [] first h = tt
with_one R x y [] (b ∷ ys) first h = absurd h
with_one R x y (a ∷ xs) [] first h = absurd h
with_one R x y (a ∷ xs) (b ∷ ys) first h = ((first, h.0), with_one R x y xs ys first h.1)

-- the pairs of two lists stand side by side as the lists do
pub paired : {A B : Type 0} (R : A → B → Type 0) (xs : List A) (ys : List B) → AllZip R xs ys → AllZip (AlikePairs R) (pairs_of xs) (pairs_of ys)
paired R [] [] h = tt
paired R [] (y ∷ ys) h = absurd h
paired R (x ∷ xs) [] h = absurd h
paired R (x ∷ xs) (y ∷ ys) h = all_zip-append (AlikePairs R) (map (λ z. (x, z)) xs) (pairs_of xs) (map (λ z. (y, z)) ys) (pairs_of ys) (with_one R x y xs ys h.0 h.1) (paired R xs ys h.1)

-- the elements of a list with their numbers in a whole list
numbered : {X : Type 0} (P : X → Type 0) (whole : List X) (k : ℕ) (xs : List X) → ((i : ℕ) (x : X) → slice_get xs i ≡ Some x → slice_get whole (k + i) ≡ Some x) → AllByRecursion P xs →
    AllZip (λ i x. (slice_get whole i ≡ Some x) × P x) (range_with_len k (length xs)) xs
numbered P whole k [] at h = tt
numbered P whole k (x ∷ xs) at h =
    let here : k + 0 ≡ k = omega arith in
    let later : (i : ℕ) (y : _) → slice_get xs i ≡ Some y → slice_get whole (k + 1 + i) ≡ Some y =
    λ i y e. subst (λ j. slice_get whole j ≡ Some y) (omega arith) (at (suc i) y e) in
    ((subst (λ j. slice_get whole j ≡ Some x) here (at 0 x refl), h.0), numbered P whole (k + 1) xs later h.1)

pub numbered_from_0 : {X : Type 0} (P : X → Type 0) (whole : List X) → AllByRecursion P whole → AllZip (λ i x. (slice_get whole i ≡ Some x) × P x) (range_with_len 0 (length whole)) whole
numbered_from_0 P whole h = numbered P whole 0 whole (λ i x e. subst (λ j. slice_get whole j ≡ Some x) (omega arith) e) h
