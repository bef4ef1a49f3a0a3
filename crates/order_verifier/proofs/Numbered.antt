-- Documents that a list picks, by the numbers that a topic has for their names.
use Rattle.std.proofs.Common.{◌≡◌, ℕ, zero, suc, ◌+◌, ◌<◌, ◌≤◌, Bool, true, false, ◌||◌, nat_eq, List, [], ◌∷◌, length, get_or, map, Option, Some, Ok, Err, inl, inr, refl, ap, sym, subst, ◌∙◌, arith}
use Rattle.std.specs.Prelude.{slice_get}
use Rattle.std.specs.List.{AllByRecursion, list_any}
use Rattle.std.specs.Option.{option_map}
use Rattle.std.specs.List.Sorted.{IsBinarySearchResult, IsNonDecreasingBy}
use Rattle.std.specs.Ordering.{nat_cmp, ordering_index, is_lt}
use Rattle.std.specs.declared.cmp.Ordering.TheVariants.{Less, Equal, Greater}
use Rattle.std.proofs.lemmas.Bool.{cases_lt}
use Rattle.std.proofs.lemmas.Bool.Decides.{nat_tests}
use Rattle.std.proofs.lemmas.Cmp.{nat_cmp_total}
use Rattle.std.proofs.lemmas.List.{map-id}
use Rattle.std.proofs.lemmas.List.Elements.{recursion_from_All}
use Rattle.std.proofs.lemmas.List.Sorted.{searchable_from_sorted}
use Rattle.desk_model.specs.Name.{is_same_name, name_cmp, number_of, AreAscending}
use Rattle.std.proofs.lemmas.Option.{slice_get-map}
use Rattle.desk_model.proofs.Names.{ascending_far, two_ways}
use Rattle.desk_model.proofs.Nested.{get_or-there}
use Rattle.desk_model.proofs.PairPlace.{there}
use Rattle.order_verifier.specs.Rows.{AreKnown, names_listed, numbers_of}
use Rattle.order_verifier.proofs.OnLists.{by_number, inside, its_name}

-- ---- the number of a name by the number of its place
mapped : {X Y : Type 0} (f : X → Y) (xs : List X) (k : ℕ) (d : X) → get_or (map f xs) k (f d) ≡ f (get_or xs k d)
mapped f [] zero d = refl
mapped f [] (suc k) d = refl
mapped f (x ∷ xs) zero d = refl
mapped f (x ∷ xs) (suc k) d = mapped f xs k d

pub number_there : (docs names : List (List ℕ)) (numbers : List (Option ℕ)) (k : ℕ) → numbers ≡ numbers_of docs names → get_or numbers k (number_of docs []) ≡ number_of docs (get_or names k [])
number_there docs names numbers k e = ap (λ ns. get_or ns k (number_of docs [])) e ∙ mapped (number_of docs) names k []

-- the name at a place of some picks
pub picked_there : (names : List (List ℕ)) (picks : List ℕ) (place d : ℕ) → place < length picks → slice_get (names_listed names picks true) place ≡ Some (get_or names (get_or picks place d) [])
picked_there names picks place d lt =
    let at : ℕ → List ℕ = λ k. get_or names k [] in
    let pick = there picks place lt in
    slice_get-map at picks place ∙ ap (option_map at) pick.1 ∙ ap (λ k. Some (at k)) (sym (get_or-there picks place pick.0 d pick.1))

-- ---- numbers of ascending names ascend
in_order : (docs : List (List ℕ)) (up : AreAscending docs) (x y : List ℕ) (m n : ℕ) → number_of docs x ≡ Some m → number_of docs y ≡ Some n → name_cmp x y ≡ Less → m < n
in_order docs up x y m n ex ey less = elim (cases_lt m n) [
  | inl before ↦ before
  | inr more ↦ absurd (elim (cases_lt n m) [
    | inl after ↦
        let back : name_cmp (get_or docs n []) (get_or docs m []) ≡ Less = ascending_far (λ (z : List ℕ). z) docs n m [] (rw (map-id docs) up) after (inside docs up x m ex) in
        two_ways x y less (subst (λ z. name_cmp y z ≡ Less) (its_name docs up x m ex) (subst (λ z. name_cmp z (get_or docs m []) ≡ Less) (its_name docs up y n ey) back))
    | inr no_more ↦
        let one : m ≡ n = omega arith in
        let same : x ≡ y = sym (its_name docs up x m ex) ∙ ap (λ k. get_or docs k []) one ∙ its_name docs up y n ey in
        let itself : name_cmp x x ≡ Less = subst (λ z. name_cmp x z ≡ Less) (sym same) less in two_ways x x itself itself
  ])
]

one_at : (at : ℕ → List ℕ) (P : List ℕ → Type 0) (picks : List ℕ) → AllByRecursion P (map at picks) → (i d : ℕ) → i < length picks → P (at (get_or picks i d))
one_at at P [] h i d lt = absurd (omega arith)
one_at at P (k ∷ ks) h zero d lt = h.0
one_at at P (k ∷ ks) h (suc i) d lt = one_at at P ks h.1 i d (omega arith)

any_at : (at : ℕ → List ℕ) (p : List ℕ → Bool) (picks : List ℕ) (i d : ℕ) → i < length picks → p (at (get_or picks i d)) ≡ true → list_any p (map at picks) ≡ true
any_at at p [] i d lt e = absurd (omega arith)
any_at at p (k ∷ ks) zero d lt e = ap (λ b. b || list_any p (map at ks)) e
any_at at p (k ∷ ks) (suc i) d lt e = later (p (at k)) (any_at at p ks i d (omega arith) e)
  where
    later : (b : Bool) → list_any p (map at ks) ≡ true → (b || list_any p (map at ks)) ≡ true
    later true h = refl
    later false h = h

all_off : (at : ℕ → List ℕ) (p : List ℕ → Bool) (picks : List ℕ) → ((i : ℕ) → i < length picks → p (at (get_or picks i 0)) ≡ false) → list_any p (map at picks) ≡ false
all_off at p [] h = refl
all_off at p (k ∷ ks) h = ap (λ b. b || list_any p (map at ks)) (h 0 (omega arith)) ∙ all_off at p ks (λ i lt. h (suc i) (omega arith))

equal_is : (m n : ℕ) → nat_cmp m n ≡ Equal → nat_eq m n ≡ true
equal_is m n e = grind (arith, nat_tests)

less_is : (m n : ℕ) → nat_cmp m n ≡ Less → nat_eq m n ≡ false
less_is m n e = grind (arith, nat_tests)

greater_is : (m n : ℕ) → nat_cmp m n ≡ Greater → nat_eq m n ≡ false
greater_is m n e = grind (arith, nat_tests)

not_lower : (m n : ℕ) → m < n → is_lt (nat_cmp n m) ≡ false
not_lower m n h = grind (arith, nat_tests)

module _ (docs : List (List ℕ)) (at : ℕ → List ℕ) (num : ℕ → ℕ) (picks : List ℕ) (known : AreKnown docs (map at picks)) (numbered : (k n : ℕ) → number_of docs (at k) ≡ Some n → num k ≡ n) where
  has_one : (i d : ℕ) → i < length picks → number_of docs (at (get_or picks i d)) ≡ Some (num (get_or picks i d))
  has_one i d lt =
      let found = one_at at (λ name. (number : ℕ) × (number_of docs name ≡ Some number)) picks (recursion_from_All (λ name. (number : ℕ) × (number_of docs name ≡ Some number)) (map at picks) known.known) i d lt in
      found.1 ∙ ap Some (sym (numbered (get_or picks i d) found.0 found.1))

  numbers_rise : (doc : ℕ) → IsNonDecreasingBy (λ (k : ℕ). ordering_index (nat_cmp (num k) doc)) picks
  numbers_rise doc = searchable_from_sorted nat_cmp_total num picks doc (λ k d le lt.
      not_lower (num (get_or picks k d)) (num (get_or picks (k + 1) d))
      (in_order docs known.docs_ascend (at (get_or picks k d)) (at (get_or picks (k + 1) d)) _ _ (has_one k d (omega (arith, lt))) (has_one (k + 1) d lt) (ascending_far at picks k (k + 1) d known.names_ascend (omega arith) lt)))

  same_is : (doc i d : ℕ) → doc < length docs → i < length picks → is_same_name (at (get_or picks i d)) (get_or docs doc []) ≡ nat_eq (num (get_or picks i d)) doc
  same_is doc i d inside_docs lt = by_number docs known.docs_ascend (at (get_or picks i d)) (num (get_or picks i d)) (has_one i d lt) doc inside_docs

  pub found_on : (doc i : ℕ) → doc < length docs → i < length picks → IsBinarySearchResult (λ (k : ℕ). nat_cmp (num k) doc) picks (Ok i) → list_any (λ each. is_same_name each (get_or docs doc [])) (map at picks) ≡ true
  found_on doc i inside_docs lt equal = any_at at (λ each. is_same_name each (get_or docs doc [])) picks i 0 lt (same_is doc i 0 inside_docs lt ∙ equal_is _ doc (equal 0))

  pub none_on : (doc i : ℕ) → doc < length docs → i ≤ length picks → IsBinarySearchResult (λ (k : ℕ). nat_cmp (num k) doc) picks (Err i) → list_any (λ each. is_same_name each (get_or docs doc [])) (map at picks) ≡ false
  none_on doc i inside_docs le parted = all_off at (λ each. is_same_name each (get_or docs doc [])) picks (λ k lt.
      let parts = parted (numbers_rise doc) in
      same_is doc k 0 inside_docs lt ∙ elim (cases_lt k i) [ inl before ↦ less_is _ doc (parts.0 k 0 (omega arith) before) | inr after ↦ greater_is _ doc (parts.1 k 0 after lt) ])
