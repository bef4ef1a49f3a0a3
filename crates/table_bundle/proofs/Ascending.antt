-- Names that ascend: each has one number, and there is one list of the same names.
use Rattle.std.proofs.Common.{◌≡◌, ℕ, ◌+◌, ◌<◌, Bool, true, false, true≢false, List, [], ◌∷◌, length, get_or, map, refl, ap, ap₂, sym, subst, ◌∙◌, ◌⊎◌, inl, inr, arith}
use Rattle.std.specs.Prelude.{◌&&◌, ◌||◌, IsPermutation}
use Rattle.std.specs.List.{AllByRecursion, IsDistinct, list_any, range_with_len}
use Rattle.std.specs.List.Sorted.{IsSortedBy, IsStrictlySortedBy}
use Rattle.std.specs.Ordering.{is_eq, is_lt, ordering_reverse}
use Rattle.std.specs.declared.cmp.Ordering.{Ordering}
use Rattle.std.specs.declared.cmp.Ordering.TheVariants.{Less, Equal, Greater}
use Rattle.std.proofs.lemmas.Cmp.{nat_list_cmp_total, nat_list_eq_equiv}
use Rattle.std.proofs.lemmas.List.{get_or-map, length-map}
use Rattle.std.proofs.lemmas.List.FromFn.{fill_by_all}
use Rattle.std.proofs.lemmas.List.Sorted.{IsPermutation-map, list_any-IsPermutation}
use Rattle.std.proofs.lemmas.Map.Keys.{apart_from_distinct, IsDistinct-IsPermutation, Less-from_sorted, sorted_from_all_adjacent}
use Rattle.std.proofs.lemmas.Map.Lookups.{exact_bytes}
use Rattle.desk_model.specs.Name.{is_same_name, name_cmp, AreAscending}
use Rattle.desk_model.proofs.Names.{same_by_cmp, two_ways}
use Rattle.order_bundle.specs.Evidence.{name_at}

-- ---- numbers of names
before_apart : (names : List (List ℕ)) → AreAscending names → (i j : ℕ) → i < j → j < length names → name_at names i ≡ name_at names j → ⊥
before_apart names up i j lt within same =
    let less : name_cmp (name_at names i) (name_at names j) ≡ Less = Less-from_sorted name_cmp names i j [] up lt within in
    let self : name_cmp (name_at names i) (name_at names i) ≡ Less = ap (name_cmp (name_at names i)) same ∙ less in
    two_ways (name_at names i) (name_at names i) self self

pub one_number : (names : List (List ℕ)) → AreAscending names → (i j : ℕ) → i < length names → j < length names → name_at names i ≡ name_at names j → i ≡ j
one_number names up i j in_i in_j same =
    let place : ((i < j) ⊎ (i ≡ j)) ⊎ (j < i) = grind arith in
    elim place [
      | inl order ↦ elim order [ inl lt ↦ absurd (before_apart names up i j lt in_j same) | inr is ↦ is ]
      | inr lt ↦ absurd (before_apart names up j i lt in_i (sym same))
    ]

pub one_list : (names : List (List ℕ)) → AreAscending names → (is js : List ℕ) → AllByRecursion (λ i. i < length names) is → AllByRecursion (λ j. j < length names) js → map (name_at names) is ≡ map (name_at names) js → is ≡ js
one_list names up [] [] h k e = refl
one_list names up [] (j ∷ js) h k e = absurd (cc)
one_list names up (i ∷ is) [] h k e = absurd (cc)
one_list names up (i ∷ is) (j ∷ js) h k e =
    let first : name_at names i ≡ name_at names j = cc in
    let rest : map (name_at names) is ≡ map (name_at names) js = cc in
    ap (λ (n : ℕ). n ∷ is) (one_number names up i j h.0 k.0 first) ∙ ap (λ (ns : List ℕ). j ∷ ns) (one_list names up is js h.1 k.1 rest)

-- ---- names in an order
pub names_moved : (names : List (List ℕ)) (order : List ℕ) → IsPermutation (range_with_len 0 (length names)) order → IsPermutation names (map (name_at names) order)
names_moved names order moved =
    let all : names ≡ map (name_at names) (range_with_len 0 (length names)) = fill_by_all (name_at names) names (length names) [] refl (λ k lt. refl) in
    subst (λ ns. IsPermutation ns (map (name_at names) order)) (sym all) (IsPermutation-map (name_at names) (range_with_len 0 (length names)) order moved)

-- of two different names in order the first is the smaller
smaller : (x y : List ℕ) → is_lt (name_cmp y x) ≡ false → is_same_name x y ≡ false → name_cmp x y ≡ Less
smaller x y order apart = go (name_cmp x y) refl
  where
    go : (o : Ordering) → name_cmp x y ≡ o → name_cmp x y ≡ Less
    go Less e = e
    go Equal e = absurd (true≢false (sym (same_by_cmp x y ∙ ap is_eq e) ∙ apart))
    go Greater e = absurd (true≢false (sym (ap is_lt (nat_list_cmp_total.antisymm y x ∙ ap ordering_reverse e)) ∙ order))

pub sorted_ascends : (names : List (List ℕ)) (order : List ℕ) → IsDistinct is_same_name names → IsPermutation (range_with_len 0 (length names)) order →
    IsSortedBy (λ x y. is_lt (name_cmp (name_at names x) (name_at names y))) order → AreAscending (map (name_at names) order)
sorted_ascends names order distinct moved up =
    let all = map (name_at names) order in
    let long = length-map order (name_at names) in
    let apart = IsDistinct-IsPermutation is_same_name nat_list_eq_equiv.symm names all (names_moved names order moved) distinct in
    sorted_from_all_adjacent nat_list_cmp_total all [] (λ k lt.
    let first : get_or all k [] ≡ name_at names (get_or order k 0) = get_or-map (name_at names) order k 0 [] (omega (arith, lt, long)) in
    let second : get_or all (k + 1) [] ≡ name_at names (get_or order (k + 1) 0) = get_or-map (name_at names) order (k + 1) 0 [] (omega (arith, lt, long)) in
    smaller (get_or all k []) (get_or all (k + 1) [])
    (ap₂ (λ (x y : List ℕ). is_lt (name_cmp x y)) second first ∙ up k 0 (omega arith) (omega (arith, lt, long)))
    (apart_from_distinct is_same_name all k (k + 1) [] apart (omega arith) lt))

-- ---- one list of the same names
itself : (x : List ℕ) → is_lt (name_cmp x x) ≡ false
itself x = by (name_cmp x x) (nat_list_cmp_total.antisymm x x)
  where
    by : (r : Ordering) → r ≡ ordering_reverse r → is_lt r ≡ false
    by Less e = absurd (cc)
    by Equal e = refl
    by Greater e = refl

later : (x z : List ℕ) → name_cmp x z ≡ Less → is_lt (name_cmp z x) ≡ false
later x z e = ap is_lt (nat_list_cmp_total.antisymm z x ∙ ap ordering_reverse e)

none_before : (x : List ℕ) (xs : List (List ℕ)) → AllByRecursion (λ z. name_cmp x z ≡ Less) xs → list_any (λ z. is_lt (name_cmp z x)) xs ≡ false
none_before x [] h = refl
none_before x (z ∷ zs) h = ap (λ b. b || list_any (λ z. is_lt (name_cmp z x)) zs) (later x z h.0) ∙ none_before x zs h.1

first_before : (x : List ℕ) (xs : List (List ℕ)) → AllByRecursion (λ z. name_cmp x z ≡ Less) xs → list_any (λ z. is_lt (name_cmp z x)) (x ∷ xs) ≡ false
first_before x xs h = ap (λ b. b || list_any (λ z. is_lt (name_cmp z x)) xs) (itself x) ∙ none_before x xs h

same_name : (x y : List ℕ) → is_lt (name_cmp x y) ≡ false → is_lt (name_cmp y x) ≡ false → x ≡ y
same_name x y a b = by (name_cmp x y) refl
  where
    by : (r : Ordering) → name_cmp x y ≡ r → x ≡ y
    by Less e = absurd (true≢false (sym (ap is_lt e) ∙ a))
    by Greater e = absurd (true≢false (sym (ap is_lt (nat_list_cmp_total.antisymm y x ∙ ap ordering_reverse e)) ∙ b))
    by Equal e = exact_bytes x y e

-- a test of the names after the first is one of all names
rest_test : (p : List ℕ → Bool) (x : List ℕ) (xs : List (List ℕ)) → AllByRecursion (λ z. name_cmp x z ≡ Less) xs → list_any (λ z. is_lt (name_cmp x z) && p z) xs ≡ list_any p xs
rest_test p x [] h = refl
rest_test p x (z ∷ zs) h = ap (λ r. (is_lt r && p z) || list_any (λ z. is_lt (name_cmp x z) && p z) zs) h.0 ∙ ap (λ b. p z || b) (rest_test p x zs h.1)

tested : (p : List ℕ → Bool) (x : List ℕ) (xs : List (List ℕ)) → AllByRecursion (λ z. name_cmp x z ≡ Less) xs → list_any (λ z. is_lt (name_cmp x z) && p z) (x ∷ xs) ≡ list_any p xs
tested p x xs h = ap (λ b. (b && p x) || list_any (λ z. is_lt (name_cmp x z) && p z) xs) (itself x) ∙ rest_test p x xs h

either_false : (b c : Bool) → (b || c) ≡ false → b ≡ false
either_false true c h = absurd (cc)
either_false false c h = refl

same_ascending : (xs ys : List (List ℕ)) → AreAscending xs → AreAscending ys → ((p : List ℕ → Bool) → list_any p xs ≡ list_any p ys) → xs ≡ ys
unfolding IsStrictlySortedBy
same_ascending [] [] up up' same = refl
same_ascending [] (y ∷ ys) up up' same = absurd (true≢false (sym (same (λ _. true))))
same_ascending (x ∷ xs) [] up up' same = absurd (true≢false (same (λ _. true)))
same_ascending (x ∷ xs) (y ∷ ys) up up' same =
    let left : is_lt (name_cmp y x) ≡ false = either_false (is_lt (name_cmp y x)) _ (sym (same (λ z. is_lt (name_cmp z x))) ∙ first_before x xs up.0) in
    let right : is_lt (name_cmp x y) ≡ false = either_false (is_lt (name_cmp x y)) _ (same (λ z. is_lt (name_cmp z y)) ∙ first_before y ys up'.0) in
    let first : x ≡ y = same_name x y right left in
    let rest : xs ≡ ys = same_ascending xs ys up.1 up'.1 (λ p.
    sym (tested p x xs up.0) ∙ same (λ z. is_lt (name_cmp x z) && p z) ∙ ap (λ n. list_any (λ z. is_lt (name_cmp n z) && p z) (y ∷ ys)) first ∙ tested p y ys up'.0) in
    ap (λ n. n ∷ xs) first ∙ ap (λ ns. y ∷ ns) rest

pub one_order : (names xs ys : List (List ℕ)) → IsPermutation names xs → IsPermutation names ys → AreAscending xs → AreAscending ys → xs ≡ ys
one_order names xs ys moved moved' up up' = same_ascending xs ys up up' (λ p. sym (list_any-IsPermutation p names xs moved) ∙ list_any-IsPermutation p names ys moved')
