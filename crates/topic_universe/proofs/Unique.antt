-- There is one list in order.
use Rattle.std.proofs.Common.{◌≡◌, ℕ, Bool, true, false, true≢false, List, [], ◌∷◌, map, refl, sym, ap, ◌∙◌}
use Rattle.std.specs.Prelude.{◌&&◌, ◌||◌}
use Rattle.std.specs.declared.cmp.Ordering.{Ordering}
use Rattle.std.specs.declared.cmp.Ordering.TheVariants.{Less, Equal, Greater}
use Rattle.std.specs.List.{list_any, AllByRecursion}
use Rattle.std.specs.List.Sorted.{IsStrictlySortedBy}
use Rattle.std.specs.Ordering.{is_lt, int_cmp, ordering_then, ordering_reverse}
use Rattle.std.proofs.lemmas.List.Sorted.{IsPermutation-sym, IsPermutation-trans, list_any-IsPermutation}
use Rattle.std.proofs.lemmas.Map.Keys.{sorted_head, sorted_tail}
use Rattle.std.proofs.lemmas.Map.Lookups.{exact_bytes, exact_signed}
use Rattle.desk_model.specs.Name.{name_cmp}
use Rattle.small_lemmas.proofs.Tests.{neither}
use Rattle.file_rows.specs.Grouped.{Valued}
use Rattle.topic_universe.specs.Order.{trec_cmp, IsTrecOrder}
use Rattle.topic_universe.proofs.Ranks.{trec_total, then_equal}

first_equal : (r s : Ordering) → ordering_then r s ≡ Equal → r ≡ Equal
first_equal Less s e = e
first_equal Equal s e = refl
first_equal Greater s e = e

itself : (x : Valued) → is_lt (trec_cmp x x) ≡ false
itself x = by (trec_cmp x x) (trec_total.antisymm x x)
  where
    by : (r : Ordering) → r ≡ ordering_reverse r → is_lt r ≡ false
    by Less e = absurd (cc)
    by Equal e = refl
    by Greater e = refl

later : (x z : Valued) → trec_cmp x z ≡ Less → is_lt (trec_cmp z x) ≡ false
later x z e = ap is_lt (trec_total.antisymm z x ∙ ap ordering_reverse e)

-- no row of a list in order stands before the first
none_before : (x : Valued) (xs : List Valued) → AllByRecursion (λ z. trec_cmp x z ≡ Less) xs → list_any (λ z. is_lt (trec_cmp z x)) xs ≡ false
none_before x [] h = refl
none_before x (z ∷ zs) h = ap (λ b. b || list_any (λ z. is_lt (trec_cmp z x)) zs) (later x z h.0) ∙ none_before x zs h.1

first_before : (x : Valued) (xs : List Valued) → IsStrictlySortedBy trec_cmp (x ∷ xs) → list_any (λ z. is_lt (trec_cmp z x)) (x ∷ xs) ≡ false
first_before x xs s = ap (λ b. b || list_any (λ z. is_lt (trec_cmp z x)) xs) (itself x) ∙ none_before x xs (sorted_head trec_cmp x xs s)

-- neither of two rows stands before the other only where they are one
same_row : (x y : Valued) → is_lt (trec_cmp x y) ≡ false → is_lt (trec_cmp y x) ≡ false → x ≡ y
same_row x y a b = by (trec_cmp x y) refl
  where
    by : (r : Ordering) → trec_cmp x y ≡ r → x ≡ y
    by Less e = absurd (true≢false (sym (ap is_lt e) ∙ a))
    by Greater e = absurd (true≢false (sym (ap is_lt (trec_total.antisymm y x ∙ ap ordering_reverse e)) ∙ b))
    by Equal e =
        let scores : y.value ≡ x.value = exact_signed y.value x.value (first_equal (int_cmp y.value x.value) (name_cmp y.document x.document) e) in
        let names : y.document ≡ x.document = exact_bytes y.document x.document (then_equal (int_cmp y.value x.value) (name_cmp y.document x.document) e) in
        λ i. record { document = sym names i; value = sym scores i }

-- a test of the rows after the first is one of all rows
rest_test : (p : Valued → Bool) (x : Valued) (xs : List Valued) → AllByRecursion (λ z. trec_cmp x z ≡ Less) xs → list_any (λ z. is_lt (trec_cmp x z) && p z) xs ≡ list_any p xs
rest_test p x [] h = refl
rest_test p x (z ∷ zs) h =
    ap (λ r. (is_lt r && p z) || list_any (λ z. is_lt (trec_cmp x z) && p z) zs) h.0 ∙ ap (λ b. p z || b) (rest_test p x zs h.1)

tested : (p : Valued → Bool) (x : Valued) (xs : List Valued) → IsStrictlySortedBy trec_cmp (x ∷ xs) → list_any (λ z. is_lt (trec_cmp x z) && p z) (x ∷ xs) ≡ list_any p xs
tested p x xs s = ap (λ b. (b && p x) || list_any (λ z. is_lt (trec_cmp x z) && p z) xs) (itself x) ∙ rest_test p x xs (sorted_head trec_cmp x xs s)

-- lists in order that pass the same tests are one
one_list : (xs ys : List Valued) → IsStrictlySortedBy trec_cmp xs → IsStrictlySortedBy trec_cmp ys → ((p : Valued → Bool) → list_any p xs ≡ list_any p ys) → xs ≡ ys
one_list [] [] s t h = refl
one_list [] (y ∷ ys) s t h = absurd (true≢false (sym (h (λ _. true))))
one_list (x ∷ xs) [] s t h = absurd (true≢false (h (λ _. true)))
one_list (x ∷ xs) (y ∷ ys) s t h =
    let left = neither (is_lt (trec_cmp x y)) (list_any (λ z. is_lt (trec_cmp z y)) xs) (h (λ z. is_lt (trec_cmp z y)) ∙ first_before y ys t) in
    let right = neither (is_lt (trec_cmp y x)) (list_any (λ z. is_lt (trec_cmp z x)) ys) (sym (h (λ z. is_lt (trec_cmp z x))) ∙ first_before x xs s) in
    let first : x ≡ y = same_row x y left.0 right.0 in
    let same : (p : Valued → Bool) → list_any p xs ≡ list_any p ys = λ p.
    sym (tested p x xs s) ∙ h (λ z. is_lt (trec_cmp x z) && p z) ∙ ap (λ w. list_any (λ z. is_lt (trec_cmp w z) && p z) (y ∷ ys)) first ∙ tested p y ys t in
    let rest = one_list xs ys (sorted_tail trec_cmp x xs s) (sorted_tail trec_cmp y ys t) same in
    λ i. first i ∷ rest i

-- rows have one list of names in trec_eval's order
pub one_order : (rows : List Valued) (a b : List (List ℕ)) → IsTrecOrder rows a → IsTrecOrder rows b → a ≡ b
one_order rows a b h k =
    let moved = IsPermutation-trans h.ranked rows k.ranked (IsPermutation-sym rows h.ranked h.once) k.once in
    let same = one_list h.ranked k.ranked h.ordered k.ordered (λ p. list_any-IsPermutation p h.ranked k.ranked moved) in
    h.are_names ∙ ap (map (λ (row : Valued). row.document)) same ∙ sym k.are_names
