-- Names that are sorted with their numbers, and the place of each number.
use Rattle.std.proofs.Common.{◌≡◌, ◌≢◌, ℕ, ◌+◌, ◌<◌, Bool, true, false, true≢false, nat_eq, List, [], ◌∷◌, ◌++◌, length, get_or, set, take, map, refl, ap, sym, ◌∙◌, subst, arith}
use Rattle.std.specs.Prelude.{All, IsPermutation, ◌||◌}
use Rattle.std.specs.List.{list_any, range_with_len}
use Rattle.std.specs.List.Sorted.{IsSortedBy}
use Rattle.std.specs.Ordering.{is_lt}
use Rattle.std.specs.Str.{bytes_eq}
use Rattle.std.proofs.lemmas.Bool.Decides.{nat_tests}
use Rattle.std.proofs.lemmas.List.{get_or-map, get_or_default, get_or-set_other, get_or-set_same, length-map, take_more}
use Rattle.std.proofs.lemmas.List.Folds.{list_any-append}
use Rattle.std.proofs.lemmas.List.FromFn.{length-range_with_len, get_or-range_with_len}
use Rattle.std.proofs.lemmas.List.Sorted.{All-permutation, IsPermutation-map, length_permutation, list_any-IsPermutation}
use Rattle.std.proofs.lemmas.Map.Keys.{IsDistinct-IsPermutation, any_passes_from_place}
use Rattle.std.proofs.lemmas.Option.{slice_get-get_or}
use Rattle.desk_model.specs.Name.{name_cmp, is_name}
use Rattle.file_rows.proofs.Seen.{laws}
use Rattle.topic_universe.specs.Names.{AreDistinctNames}
use Rattle.topic_universe.specs.Sorted.{Numbered, AreSorted, IsPlaceOf}
use Rattle.topic_universe.proofs.Sorting.{ascends}

abbrev pub name_of : Numbered → List ℕ
name_of pair = pair.0.now

abbrev pub number_of : Numbered → ℕ
number_of pair = pair.1

-- ---- sorting
sorted_names : (pairs : List Numbered) → IsSortedBy (λ x y. is_lt (name_cmp (name_of x) (name_of y))) pairs → IsSortedBy (λ x y. is_lt (name_cmp x y)) (map name_of pairs)
sorted_names [] up = λ k d low lt. absurd (omega arith)
sorted_names (p ∷ pairs) up = λ k d low lt.
    let long = length-map (p ∷ pairs) name_of in
    let here = get_or-map name_of (p ∷ pairs) k p d (omega (arith, lt, long)) in
    let next = get_or-map name_of (p ∷ pairs) (k + 1) p d (omega (arith, lt, long)) in
    (λ i. is_lt (name_cmp (next i) (here i))) ∙ up k p low (omega (arith, lt, long))

-- each name stands at its number
linked : (names : List (List ℕ)) (pairs : List Numbered) → map name_of pairs ≡ names → map number_of pairs ≡ range_with_len 0 (length names) → All (λ pair. get_or names pair.1 [] ≡ pair.0.now) pairs
linked names pairs named numbered = λ k d lt.
    let long = length-map pairs name_of in
    let same = ap length named in
    let start : 0 + k ≡ k = omega arith in
    let number : (get_or pairs k d).1 ≡ k = sym (get_or-map number_of pairs k d 0 lt) ∙ ap (λ ns. get_or ns k 0) numbered ∙ get_or-range_with_len 0 (length names) k 0 (omega (arith, lt, long, same)) ∙ start in
    ap (λ n. get_or names n []) number ∙ ap (λ ns. get_or ns k []) (sym named) ∙ get_or-map name_of pairs k d [] lt

pub are_sorted : (names : List (List ℕ)) (pairs sorted : List Numbered) → AreDistinctNames names → map name_of pairs ≡ names → map number_of pairs ≡ range_with_len 0 (length names) → IsPermutation pairs sorted →
    IsSortedBy (λ x y. is_lt (name_cmp (name_of x) (name_of y))) sorted → AreSorted names sorted
are_sorted names pairs sorted are named numbered moved up =
    let names_moved = subst (λ ns. IsPermutation ns (map name_of sorted)) named (IsPermutation-map name_of pairs sorted moved) in
    record {
      ascending = ascends (map name_of sorted) (IsDistinct-IsPermutation bytes_eq laws.symm names (map name_of sorted) names_moved are.distinct) (sorted_names sorted up);
      moved = names_moved;
      numbers = subst (λ ns. IsPermutation ns (map number_of sorted)) numbered (IsPermutation-map number_of pairs sorted moved);
      linked = All-permutation (λ pair. get_or names pair.1 [] ≡ pair.0.now) pairs sorted moved (linked names pairs named numbered);
    }

-- ---- places
pub numbers_within : (n : ℕ) (numbers : List ℕ) → IsPermutation (range_with_len 0 n) numbers → All (λ k. k < n) numbers
numbers_within n numbers moved = All-permutation (λ k. k < n) (range_with_len 0 n) numbers moved (λ k d lt. let long = length-range_with_len 0 n in let is = get_or-range_with_len 0 n k d (omega (arith, lt, long)) in omega (arith, is, lt, long))

same_number : (n : ℕ) → nat_eq n n ≡ true
same_number n = grind (arith, nat_tests)

pub number_there : (n k : ℕ) (numbers : List ℕ) → IsPermutation (range_with_len 0 n) numbers → k < n → list_any (nat_eq k) numbers ≡ true
number_there n k numbers moved lt =
    let long = length-range_with_len 0 n in
    let start : 0 + k ≡ k = omega arith in
    let is : get_or (range_with_len 0 n) k 0 ≡ k = get_or-range_with_len 0 n k 0 lt ∙ start in
    let got = slice_get-get_or (range_with_len 0 n) k 0 (omega (arith, lt, long)) in
    sym (list_any-IsPermutation (nat_eq k) (range_with_len 0 n) numbers moved) ∙ any_passes_from_place (nat_eq k) (range_with_len 0 n) k (get_or (range_with_len 0 n) k 0) got (ap (nat_eq k) is ∙ same_number k)

pub number_within : (pairs : List Numbered) (i : ℕ) (e : Numbered) → IsPermutation (range_with_len 0 (length pairs)) (map number_of pairs) → i < length pairs → (get_or pairs i e).1 < length pairs
number_within pairs i e moved lt =
    let long = length-map pairs number_of in
    let within = numbers_within (length pairs) (map number_of pairs) moved i 0 (omega (arith, lt, long)) in
    subst (λ n. n < length pairs) (get_or-map number_of pairs i e 0 lt) within

-- one more place
pub place_step : (pairs : List Numbered) (places : List ℕ) (i : ℕ) (e : Numbered) → i < length pairs → length places ≡ length pairs → (get_or pairs i e).1 < length pairs →
    ((n : ℕ) → list_any (nat_eq n) (take i (map number_of pairs)) ≡ true → IsPlaceOf pairs n (get_or places n 0)) → (n : ℕ) → list_any (nat_eq n) (take (i + 1) (map number_of pairs)) ≡ true → IsPlaceOf pairs n (get_or (set places (get_or pairs i e).1 i) n 0)
place_step pairs places i e lt count within before n there = go (nat_eq n number) refl
  where
    number : ℕ
    number = (get_or pairs i e).1

    long : length (map number_of pairs) ≡ length pairs
    long = length-map pairs number_of

    more : list_any (nat_eq n) (take (i + 1) (map number_of pairs)) ≡ list_any (nat_eq n) (take i (map number_of pairs)) || (nat_eq n number || false)
    more =
        ap (list_any (nat_eq n)) (take_more (map number_of pairs) i number (omega (arith, lt, long)) ∙ ap (λ x. take i (map number_of pairs) ++ x ∷ []) (get_or-map number_of pairs i e number lt))
        ∙ list_any-append (nat_eq n) (take i (map number_of pairs)) (number ∷ [])

    drop_false : (a : Bool) → a || (false || false) ≡ a
    drop_false true = refl
    drop_false false = refl

    go : (b : Bool) → nat_eq n number ≡ b → IsPlaceOf pairs n (get_or (set places number i) n 0)
    go true t =
        let same : n ≡ number = grind (arith, nat_tests) in
        let here : get_or (set places number i) n 0 ≡ i = ap (λ k. get_or (set places number i) k 0) same ∙ get_or-set_same places number i 0 (omega (arith, within, count)) in
        subst (IsPlaceOf pairs n) (sym here) (record { within = lt; stands = λ d. ap number_of (get_or_default pairs i d e lt) ∙ sym same })
    go false t =
        let other : n ≢ number = λ same. true≢false (sym (same_number n) ∙ ap (nat_eq n) same ∙ t) in
        let kept : get_or (set places number i) n 0 ≡ get_or places n 0 = get_or-set_other places number n i 0 other in
        let earlier : list_any (nat_eq n) (take i (map number_of pairs)) ≡ true = sym (drop_false (list_any (nat_eq n) (take i (map number_of pairs)))) ∙ ap (λ b. list_any (nat_eq n) (take i (map number_of pairs)) || (b || false)) (sym t) ∙ sym more ∙ there in
        subst (IsPlaceOf pairs n) (sym kept) (before n earlier)

-- the name that stands at the place of a number
pub stands_there : (names : List (List ℕ)) (pairs : List Numbered) (n place : ℕ) → AreSorted names pairs → IsPlaceOf pairs n place → get_or (map name_of pairs) place [] ≡ get_or names n []
stands_there names pairs n place are is =
    let nobody : Numbered = (record { ref_ptr = (0, 0); now = [] }, 0) in
    get_or-map name_of pairs place nobody [] is.within ∙ sym (are.linked place nobody is.within) ∙ ap (λ k. get_or names k []) (is.stands nobody)

pub same_count : (names : List (List ℕ)) (pairs : List Numbered) → AreSorted names pairs → length names ≡ length pairs
same_count names pairs are = sym (length_permutation names (map name_of pairs) are.moved) ∙ length-map pairs name_of

pub sorted_are_named : (names : List (List ℕ)) (pairs : List Numbered) → AreSorted names pairs → AreDistinctNames names → All (λ pair. is_name pair.0.now ≡ true) pairs
sorted_are_named names pairs are named = λ k d lt.
    let long = length-map pairs name_of in
    sym (ap is_name (get_or-map name_of pairs k d [] lt)) ∙ All-permutation (λ name. is_name name ≡ true) names (map name_of pairs) are.moved named.named k [] (omega (arith, lt, long))
