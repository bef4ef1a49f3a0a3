-- Where an item stands in a list that ascends, by the places beside it.
use Rattle.std.proofs.Common.{◌≡◌, ℕ, zero, suc, ◌+◌, ◌-◌, ◌<◌, ◌≤◌, true, false, List, length, get_or, inl, inr, refl, ap, sym, ◌∙◌, subst, arith}
use Rattle.std.specs.Ordering.{is_eq, is_gt, is_lt, ordering_index}
use Rattle.std.specs.declared.cmp.Ordering.{Ordering}
use Rattle.std.specs.declared.cmp.Ordering.TheVariants.{Less, Equal, Greater}
use Rattle.std.specs.List.Sorted.{IsNonDecreasingBy, IsPartitionPoint}
use Rattle.std.proofs.lemmas.Bool.{cases_lt}
use Rattle.std.proofs.lemmas.List.{get_or_default}

lowest : (o p : Ordering) → ordering_index o ≤ ordering_index p → p ≡ Less → o ≡ Less
lowest Less p le e = refl
lowest Equal p le e = absurd (let bad : 1 ≤ 0 = subst (λ q. 1 ≤ ordering_index q) e le in omega (arith, bad))
lowest Greater p le e = absurd (let bad : 2 ≤ 0 = subst (λ q. 2 ≤ ordering_index q) e le in omega (arith, bad))

highest : (o p : Ordering) → ordering_index o ≤ ordering_index p → o ≡ Greater → p ≡ Greater
highest o Less le e = absurd (let bad : 2 ≤ 0 = subst (λ q. ordering_index q ≤ 0) e le in omega (arith, bad))
highest o Equal le e = absurd (let bad : 2 ≤ 1 = subst (λ q. ordering_index q ≤ 1) e le in omega (arith, bad))
highest o Greater le e = refl

pub equal_is : (o : Ordering) → is_eq o ≡ true → o ≡ Equal
equal_is Less e = absurd (cc)
equal_is Equal e = refl
equal_is Greater e = absurd (cc)

pub less_is : (o : Ordering) → is_lt o ≡ true → o ≡ Less
less_is Less e = refl
less_is Equal e = absurd (cc)
less_is Greater e = absurd (cc)

pub greater_is : (o : Ordering) → is_gt o ≡ true → o ≡ Greater
greater_is Less e = absurd (cc)
greater_is Equal e = absurd (cc)
greater_is Greater e = refl

pub neither_is : (o : Ordering) → is_eq o ≡ false → is_lt o ≡ false → o ≡ Greater
neither_is Less e f = absurd (cc)
neither_is Equal e f = absurd (cc)
neither_is Greater e f = refl

-- the item before a place is less, and the one there greater
abbrev pub IsAfter : {X : Type 0} → X → (X → Ordering) → List X → ℕ → Type 0
IsAfter none ord xs near = (k : ℕ) → k + 1 ≡ near → (k < length xs) × (ord (get_or xs k none) ≡ Less)

abbrev pub IsBefore : {X : Type 0} → X → (X → Ordering) → List X → ℕ → Type 0
IsBefore none ord xs near = near < length xs → ord (get_or xs near none) ≡ Greater

-- a place whose item is less is within the list
pub last_less : {X : Type 0} (none : X) (ord : X → Ordering) (xs : List X) (place : ℕ) (o : Ordering) → (place < length xs → o ≡ ord (get_or xs place none)) → (length xs ≤ place → o ≡ Greater) → is_lt o ≡ true → (place < length xs) × (ord (get_or xs place none) ≡ Less)
last_less none ord xs place o within past lt = elim (cases_lt place (length xs)) [
  | inl inside ↦ (inside, sym (within inside) ∙ less_is o lt)
  | inr beyond ↦ absurd (let bad : false ≡ true = ap is_lt (sym (past beyond)) ∙ lt in cc)
]

pub after_less : {X : Type 0} (none : X) (ord : X → Ordering) (xs : List X) (place : ℕ) → (place < length xs) × (ord (get_or xs place none) ≡ Less) → IsAfter none ord xs (place + 1)
after_less none ord xs place h k e =
    let there : place ≡ k = omega (arith, e) in subst (λ (n : ℕ). (n < length xs) × (ord (get_or xs n none) ≡ Less)) there h

pub after_last : {X : Type 0} (none : X) (ord : X → Ordering) (xs : List X) (near : ℕ) → (near - 1 < length xs) × (ord (get_or xs (near - 1) none) ≡ Less) → IsAfter none ord xs near
after_last none ord xs near h k e =
    let there : near - 1 ≡ k = omega (arith, e) in subst (λ (n : ℕ). (n < length xs) × (ord (get_or xs n none) ≡ Less)) there h

pub after_within : {X : Type 0} (none : X) (ord : X → Ordering) (xs : List X) (near : ℕ) → IsAfter none ord xs near → near ≤ length xs
after_within none ord xs zero h = omega arith
after_within none ord xs (suc n) h =
    let last = h n (omega arith) in omega (arith, last.0)

-- where the one before a place is less and the one there greater, all before it are less and all from it on greater
pub between : {X : Type 0} (none : X) (ord : X → Ordering) (xs : List X) (near : ℕ) → IsAfter none ord xs near → IsBefore none ord xs near → IsNonDecreasingBy (λ y. ordering_index (ord y)) xs → IsPartitionPoint (λ y. ord y ≡ Less) (λ y. ord y ≡ Greater) xs near
between {X} none ord xs near before here up = (less, greater)
  where
    less : (k : ℕ) (d : X) → 0 ≤ k → k < near → ord (get_or xs k d) ≡ Less
    less k d _ lt =
        let next : near - 1 + 1 ≡ near = omega (arith, lt) in
        let last = before (near - 1) next in
        subst (λ n. ord n ≡ Less) (get_or_default xs k none d (omega (arith, lt, last.0))) (lowest _ _ (up k (near - 1) none (omega (arith, lt)) last.0) last.1)

    greater : (k : ℕ) (d : X) → near ≤ k → k < length xs → ord (get_or xs k d) ≡ Greater
    greater k d from lt = subst (λ n. ord n ≡ Greater) (get_or_default xs k none d lt) (highest _ _ (up near k none from lt) (here (omega (arith, from, lt))))
