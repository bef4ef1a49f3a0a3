-- Lists side by side, and the pairs of a list.
use Rattle.std.proofs.Common.{◌≡◌, ℕ, zero, suc, ◌+◌, ◌<◌, ◌≤◌, List, [], ◌∷◌, ◌++◌, map, length, get_or, refl, ap, sym, ◌∙◌, arith}
use Rattle.std.specs.List.{AllZip, AllByRecursion, Contains, zip, range_with_len}
use Rattle.std.specs.Prelude.{slice_get, Some}
use Rattle.std.proofs.lemmas.Option.{slice_get_within, get_or_from_slice_get}
use Rattle.std.proofs.lemmas.Slice.Zip.{get_or-zip, length-zip}
use Rattle.desk_model.specs.Pairs.{pairs_of}

-- another relation, where something is known of each element of the second list
pub zip_then : {A B : Type 0} (R S : A → B → Type 0) (P : B → Type 0) → ((x : A) (y : B) → P y → R x y → S x y) → (xs : List A) (ys : List B) → AllByRecursion P ys → AllZip R xs ys → AllZip S xs ys
zip_then R S P f [] [] p h = tt
zip_then R S P f [] (y ∷ ys) p h = absurd h
zip_then R S P f (x ∷ xs) [] p h = absurd h
zip_then R S P f (x ∷ xs) (y ∷ ys) p h = (f x y p.0 h.0, zip_then R S P f xs ys p.1 h.1)

-- the same, where something is known of each element of the first list
pub zip_by : {A B : Type 0} (R S : A → B → Type 0) (P : A → Type 0) → ((x : A) (y : B) → P x → R x y → S x y) → (xs : List A) (ys : List B) → AllByRecursion P xs → AllZip R xs ys → AllZip S xs ys
zip_by R S P f [] [] p h = tt
zip_by R S P f [] (y ∷ ys) p h = absurd h
zip_by R S P f (x ∷ xs) [] p h = absurd h
zip_by R S P f (x ∷ xs) (y ∷ ys) p h = (f x y p.0 h.0, zip_by R S P f xs ys p.1 h.1)

-- a list of one number of each element
pub zip_mapped : {A B C : Type 0} (f : A → C) (S : C → B → Type 0) (xs : List A) (ys : List B) → AllZip (λ x y. S (f x) y) xs ys → AllZip S (map f xs) ys
zip_mapped f S [] [] h = tt
zip_mapped f S [] (y ∷ ys) h = absurd h
zip_mapped f S (x ∷ xs) [] h = absurd h
zip_mapped f S (x ∷ xs) (y ∷ ys) h = (h.0, zip_mapped f S xs ys h.1)

-- a list made from the other one
pub zip_made : {A B : Type 0} (R : A → B → Type 0) (g : B → A) (ys : List B) → AllByRecursion (λ y. R (g y) y) ys → AllZip R (map g ys) ys
zip_made R g [] h = tt
zip_made R g (y ∷ ys) h = (h.0, zip_made R g ys h.1)

pub zip_making : {A B : Type 0} (R : A → B → Type 0) (f : A → B) (xs : List A) → AllByRecursion (λ x. R x (f x)) xs → AllZip R xs (map f xs)
zip_making R f [] h = tt
zip_making R f (x ∷ xs) h = (h.0, zip_making R f xs h.1)

-- what holds of each element of the first list
pub all_first : {A B : Type 0} (R : A → B → Type 0) (P : B → Type 0) (Q : A → Type 0) → ((x : A) (y : B) → P y → R x y → Q x) → (xs : List A) (ys : List B) → AllByRecursion P ys → AllZip R xs ys → AllByRecursion Q xs
all_first R P Q f [] [] p h = tt
all_first R P Q f [] (y ∷ ys) p h = absurd h
all_first R P Q f (x ∷ xs) [] p h = absurd h
all_first R P Q f (x ∷ xs) (y ∷ ys) p h = (f x y p.0 h.0, all_first R P Q f xs ys p.1 h.1)

pub all_then : {A : Type 0} (P Q : A → Type 0) → ((x : A) → P x → Q x) → (xs : List A) → AllByRecursion P xs → AllByRecursion Q xs
all_then P Q f [] h = tt
all_then P Q f (x ∷ xs) h = (f x h.0, all_then P Q f xs h.1)

-- two lists beside the same one, where each element is determined
pub zip_unique : {A B : Type 0} (R : A → B → Type 0) → ((x : A) (y z : B) → R x y → R x z → y ≡ z) → (xs : List A) (ys zs : List B) → AllZip R xs ys → AllZip R xs zs → ys ≡ zs
zip_unique R f [] [] [] h k = refl
zip_unique R f [] [] (z ∷ zs) h k = absurd k
zip_unique R f [] (y ∷ ys) zs h k = absurd h
zip_unique R f (x ∷ xs) [] zs h k = absurd h
zip_unique R f (x ∷ xs) (y ∷ ys) [] h k = absurd k
zip_unique R f (x ∷ xs) (y ∷ ys) (z ∷ zs) h k = ap (λ e. e ∷ ys) (f x y z h.0 k.0) ∙ ap (λ es. z ∷ es) (zip_unique R f xs ys zs h.1 k.1)

-- the same of the first list
pub zip_unique_first : {A B : Type 0} (R : A → B → Type 0) → ((x z : A) (y : B) → R x y → R z y → x ≡ z) → (xs zs : List A) (ys : List B) → AllZip R xs ys → AllZip R zs ys → xs ≡ zs
zip_unique_first R f [] [] [] h k = refl
zip_unique_first R f [] (z ∷ zs) [] h k = absurd k
zip_unique_first R f (x ∷ xs) zs [] h k = absurd h
zip_unique_first R f [] zs (y ∷ ys) h k = absurd h
zip_unique_first R f (x ∷ xs) [] (y ∷ ys) h k = absurd k
zip_unique_first R f (x ∷ xs) (z ∷ zs) (y ∷ ys) h k = ap (λ e. e ∷ xs) (f x z y h.0 k.0) ∙ ap (λ es. z ∷ es) (zip_unique_first R f xs zs ys h.1 k.1)

-- ---- the pairs of a range
all_joined : {A : Type 0} (P : A → Type 0) (xs ys : List A) → AllByRecursion P xs → AllByRecursion P ys → AllByRecursion P (xs ++ ys)
all_joined P [] ys h k = k
all_joined P (x ∷ xs) ys h k = (h.0, all_joined P xs ys h.1 k)

all_mapped : {A B : Type 0} (P : B → Type 0) (f : A → B) (xs : List A) → AllByRecursion (λ x. P (f x)) xs → AllByRecursion P (map f xs)
all_mapped P f [] h = tt
all_mapped P f (x ∷ xs) h = (h.0, all_mapped P f xs h.1)

pub all_in_range : (P : ℕ → Type 0) (start n : ℕ) → ((t : ℕ) → start ≤ t → t < start + n → P t) → AllByRecursion P (range_with_len start n)
all_in_range P start zero h = tt
all_in_range P start (suc n) h = (h start (omega arith) (omega arith), all_in_range P (start + 1) n (λ t p q. h t (omega arith) (omega arith)))

-- a pair of two numbers in order, both below another
pub record IsPairBelow (n : ℕ) (pair : ℕ × ℕ) : Type 0 where
  pub order : pair.0 < pair.1
  pub below : pair.1 < n

pairs_ordered : (start n end : ℕ) → start + n ≤ end → AllByRecursion (IsPairBelow end) (pairs_of (range_with_len start n))
pairs_ordered start zero end h = tt
pairs_ordered start (suc n) end h =
    all_joined (IsPairBelow end) (map (λ y. (start, y)) (range_with_len (start + 1) n)) (pairs_of (range_with_len (start + 1) n))
    (all_mapped (IsPairBelow end) (λ y. (start, y)) (range_with_len (start + 1) n) (all_in_range (λ y. IsPairBelow end (start, y)) (start + 1) n (λ t p q. record { order = omega arith; below = omega arith })))
    (pairs_ordered (start + 1) n end (omega arith))

pub pairs_below : (n : ℕ) → AllByRecursion (IsPairBelow n) (pairs_of (range_with_len 0 n))
pairs_below n = pairs_ordered 0 n n (omega arith)

-- an element beside what is made from it
pub made_beside : {A B : Type 0} (P : A → Type 0) (f : A → B) (xs : List A) (x : A) (y : B) → AllByRecursion P xs → Contains (zip xs (map f xs)) (x, y) → (y ≡ f x) × P x
made_beside P f [] x y h (k, lt, is) = absurd (omega arith)
made_beside {A = A} {B = B} P f (z ∷ xs) x y h (zero, lt, is) =
    let first : z ≡ x = ap (λ (p : A × B). p.0) is in
    let second : f z ≡ y = ap (λ (p : A × B). p.1) is in
    (sym second ∙ ap f first, rw (← first) h.0)
made_beside P f (z ∷ xs) x y h (suc k, lt, is) = made_beside P f xs x y h.1 (k, omega arith, is)

-- elements at one place of two lists stand beside each other
pub beside : {A B : Type 0} (xs : List A) (ys : List B) (k : ℕ) (x : A) (y : B) → length ys ≡ length xs → slice_get xs k ≡ Some x → y ≡ get_or ys k y → Contains (zip xs ys) (x, y)
beside xs ys k x y same there is =
    let in_xs : k < length xs = slice_get_within xs k x there in
    let in_ys : k < length ys = omega (arith, in_xs, same) in (
      k,
      omega (arith, in_xs, in_ys, length-zip xs ys),
      get_or-zip xs ys k (x, y) in_xs in_ys ∙ ap (λ v. (v, get_or ys k y)) (get_or_from_slice_get xs k x x there) ∙ ap (λ v. (x, v)) (sym is),
    )
