-- The order of rows.
use Rattle.std.proofs.Common.{◌≡◌, ℕ, zero, suc, ◌+◌, ◌-◌, ◌<◌, ℤ, false, true≢false, List, [], ◌∷◌, ◌++◌, length, get_or, take, map, refl, sym, ap, ap₂, below_more, ◌∙◌, arith, rules}
use Rattle.std.specs.Prelude.{Result, Ok, Err, IfOk, Some, None, option_map, slice_get}
use Rattle.std.specs.declared.cmp.Ordering.{Ordering}
use Rattle.std.specs.declared.cmp.Ordering.TheVariants.{Less, Equal, Greater}
use Rattle.std.specs.Cmp.{IsTotalOrder}
use Rattle.std.specs.Cmp.Rules.{comparing}
use Rattle.std.specs.List.{IsDistinct}
use Rattle.std.specs.List.Sorted.{IsStrictlySortedBy}
use Rattle.std.specs.Ordering.{is_lt, int_cmp, ordering_then, ordering_reverse}
use Rattle.std.specs.Str.{bytes_eq}
use Rattle.std.proofs.lemmas.List.{get_or-map, length-map}
use Rattle.std.proofs.lemmas.Map.Keys.{apart_from_distinct, sorted_from_all_adjacent}
use Rattle.std.proofs.lemmas.Map.Lookups.{exact_bytes}
use Rattle.desk_model.specs.Name.{name_cmp}
use Rattle.file_rows.proofs.Seen.{laws}
use Rattle.file_rows.specs.Grouped.{Valued}
use Rattle.topic_universe.specs.Order.{trec_cmp}
use Rattle.topic_universe.specs.Entry.{Entry, row_of, AreInOrder}

pub trec_total : IsTotalOrder trec_cmp
trec_total = search (comparing, rules) depth 9

pub then_equal : (r s : Ordering) → ordering_then r s ≡ Equal → s ≡ Equal
then_equal Less s e = absurd (cc)
then_equal Equal s e = e
then_equal Greater s e = absurd (cc)

-- of two rows with other names, one that is not later stands before
stands_before : (a b : Valued) → is_lt (trec_cmp b a) ≡ false → bytes_eq a.document b.document ≡ false → trec_cmp a b ≡ Less
stands_before a b early other = by (trec_cmp a b) refl
  where
    by : (r : Ordering) → trec_cmp a b ≡ r → trec_cmp a b ≡ Less
    by Less e = e
    by Equal e =
        let same : b.document ≡ a.document = exact_bytes b.document a.document (then_equal (int_cmp b.value a.value) (name_cmp b.document a.document) e) in
        absurd (true≢false (sym (ap (bytes_eq a.document) same ∙ laws.refl a.document) ∙ other))
    by Greater e =
        let less : trec_cmp b a ≡ Less = trec_total.antisymm b a ∙ ap ordering_reverse e in
        absurd (true≢false (sym (ap is_lt less) ∙ early))

-- one more row that does not belong before its neighbour
pub one_more_in_order : (rows : List Valued) (i : ℕ) → 0 < i → i < length rows → ((d : Valued) → is_lt (trec_cmp (get_or rows i d) (get_or rows (i - 1) d)) ≡ false)
    → ((k : ℕ) (d : Valued) → k + 1 < i → is_lt (trec_cmp (get_or rows (k + 1) d) (get_or rows k d)) ≡ false)
    → (k : ℕ) (d : Valued) → k + 1 < i + 1 → is_lt (trec_cmp (get_or rows (k + 1) d) (get_or rows k d)) ≡ false
one_more_in_order rows i some within not_less so_far k d lt =
    below_more (λ m. (k : ℕ) → k + 1 ≡ m → is_lt (trec_cmp (get_or rows (k + 1) d) (get_or rows k d)) ≡ false) i (λ m below k is. so_far k d (omega (arith, is, below))) last (k + 1) lt k refl
  where
    last : (k : ℕ) → k + 1 ≡ i → is_lt (trec_cmp (get_or rows (k + 1) d) (get_or rows k d)) ≡ false
    last k is =
        let at : k ≡ i - 1 = omega arith in
        ap₂ (λ m n. is_lt (trec_cmp (get_or rows m d) (get_or rows n d))) is at ∙ not_less d

-- sorted entries are rows in order
pub entries_in_order : (es : List Entry) → ((k : ℕ) (e : Entry) → k + 1 < length es → is_lt (trec_cmp (row_of (get_or es (k + 1) e)) (row_of (get_or es k e))) ≡ false) → AreInOrder (map row_of es)
entries_in_order [] h k d lt = absurd (omega arith)
entries_in_order (e ∷ es) h k d lt =
    let long = length-map (e ∷ es) row_of in
    let here = get_or-map row_of (e ∷ es) k e d (omega (arith, lt, long)) in
    let next = get_or-map row_of (e ∷ es) (k + 1) e d (omega (arith, lt, long)) in
    (λ i. is_lt (trec_cmp (next i) (here i))) ∙ h k e (omega (arith, lt, long))

-- neighbours in order make a list in order
pub in_order : (rows : List Valued) → IsDistinct bytes_eq (map (λ row. row.document) rows) → AreInOrder rows → IsStrictlySortedBy trec_cmp rows
unfolding IsStrictlySortedBy
in_order [] distinct h = tt
in_order (row ∷ rows) distinct h = sorted_from_all_adjacent trec_total (row ∷ rows) row (λ k lt. next k lt)
  where
    next : (k : ℕ) → k + 1 < length (row ∷ rows) → trec_cmp (get_or (row ∷ rows) k row) (get_or (row ∷ rows) (k + 1) row) ≡ Less
    next k lt =
        let sizes = length-map (row ∷ rows) (λ (each : Valued). each.document) in
        let apart = apart_from_distinct bytes_eq (map (λ each. each.document) (row ∷ rows)) k (k + 1) [] distinct (omega arith) (omega (arith, lt, sizes)) in
        let name = get_or-map (λ (each : Valued). each.document) (row ∷ rows) k row [] (omega (arith, lt)) in
        let name' = get_or-map (λ (each : Valued). each.document) (row ∷ rows) (k + 1) row [] lt in
        stands_before (get_or (row ∷ rows) k row) (get_or (row ∷ rows) (k + 1) row) (h k row lt) ((λ i. bytes_eq (sym name i) (sym name' i)) ∙ apart)

-- what is read of a row is the row's
pub document_at : (rows : List Valued) (i : ℕ) (document : List ℕ) (d : Valued) → option_map (λ row. row.document) (slice_get rows i) ≡ Some document → (get_or rows i d).document ≡ document
document_at [] i document d is = (let none : None ≡ Some document = is in absurd (cc))
document_at (x ∷ xs) zero document d is = cc
document_at (x ∷ xs) (suc i) document d is = document_at xs i document d is

pub value_at : (rows : List Valued) (i : ℕ) (value : ℤ) (d : Valued) → option_map (λ row. row.value) (slice_get rows i) ≡ Some value → (get_or rows i d).value ≡ value
value_at [] i value d is = (let none : None ≡ Some value = is in absurd (cc))
value_at (x ∷ xs) zero value d is = cc
value_at (x ∷ xs) (suc i) value d is = value_at xs i value d is

-- one more row
pub row_more : (rows : List Valued) (i : ℕ) (document : List ℕ) (score : ℤ) → option_map (λ row. row.document) (slice_get rows i) ≡ Some document → option_map (λ row. row.value) (slice_get rows i) ≡ Some score
    → take i rows ++ record { document = document; value = score } ∷ [] ≡ take (suc i) rows
row_more [] i document score d s = (let none : None ≡ Some document = d in absurd (cc))
row_more (x ∷ xs) zero document score d s =
    let p : x.document ≡ document = cc in
    let q : x.value ≡ score = cc in
    λ j. record { document = sym p j; value = sym q j } ∷ []
row_more (x ∷ xs) (suc i) document score d s = ap (λ rest. x ∷ rest) (row_more xs i document score d s)

-- what holds of a result in two parts holds as a whole
pub both_ok : {A E : Type 0} (r : Result A E) (P Q : A → Type 0) → IfOk r P → IfOk r Q → IfOk r (λ a. P a × Q a)
both_ok (Ok a) P Q p q = (p, q)
both_ok (Err e) P Q p q = tt
