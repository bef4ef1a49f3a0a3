-- The walk over two lists that ascend by document counts the documents that both have among their first k.
use Rattle.std.proofs.Common.{◌≡◌, ℕ, suc, ◌+◌, ◌<◌, ◌≤◌, Bool, true, false, ◌&&◌, nat_eq, nat_le, List, [], ◌∷◌, take, drop, length, length-take, count_by, slice_index_or, Some, None, arith, refl, ap, ◌∙◌, sym, subst}
use Rattle.std.specs.Prelude.{if◌then◌else◌}
use Rattle.std.specs.List.{AllByRecursion, sum_by, range_with_len}
use Rattle.std.proofs.Math.Seq.{drop-cons}
use Rattle.std.proofs.lemmas.List.{drop_all}
use Rattle.std.proofs.lemmas.List.Sums.{count_by-le-length}
use Rattle.std.proofs.lemmas.Bool.{leb-false, eq-eqb}
use Rattle.std.proofs.Math.Bool.{and-true}
use Rattle.small_lemmas.proofs.Tests.{apart_below, apart_over}
use Rattle.desk_model.specs.Completion.{with_picked}
use Rattle.desk_model.specs.Placed.{lookup, IsAscending}
use Rattle.desk_model.specs.Ranking.{IsRanking, is_in, rank}
use Rattle.desk_model.specs.declared.types.Mark.{Mark}
use Rattle.desk_model.specs.declared.placed.Placed.{Placed}
use Rattle.desk_model.proofs.Counts.{one_if, count_by-agree, count_by-none, nat_eq-true, IsDistinct-take}
use Rattle.desk_model.proofs.PrecisionEnds.{prefix_within}
use Rattle.topic_counts.proofs.Merge.{absent_below, further}
use Rattle.topic_counts.proofs.Places.{even, neither, IsAscending-drop, at_place, stepped}
use Rattle.measure_laws.proofs.Ranks.{sum_by-agree, sum_by-plus, one_counts}
use Rattle.measure_laws.proofs.RecallEnds.{every, class_count}
use Rattle.topic_counts.specs.Own.{shared_count}
use Rattle.topic_counts.proofs.Prefixes.{is_by, rank_by}

-- whether a document is true and has a rank of at most k in both lists
abbrev pub is_shared : (ℕ → Bool) → ℕ → List Placed → List Placed → ℕ → Bool
is_shared truth k xs ys d = truth d && (is_by k (lookup xs d) && is_by k (lookup ys d))

-- how many documents of a universe are
abbrev pub left : (ℕ → Bool) → ℕ → ℕ → List Placed → List Placed → ℕ
left truth k n xs ys = count_by (is_shared truth k xs ys) (range_with_len 0 n)

-- ---- a document that one list alone has
never_second : (t p q : Bool) → (t && (p && false)) ≡ (t && (q && false))
never_second true true true = refl
never_second true true false = refl
never_second true false true = refl
never_second true false false = refl
never_second false p q = refl

first_at : (truth : ℕ → Bool) (k : ℕ) (x : Placed) (xs ys : List Placed) → AllByRecursion (λ (e : Placed). x.doc < e.doc) ys → (d : ℕ) (b : Bool) → nat_eq x.doc d ≡ b → is_shared truth k (x ∷ xs) ys d ≡ is_shared truth k xs ys d
first_at truth k x xs ys later d true e =
    let gone : lookup ys d ≡ None = subst (λ (z : ℕ). lookup ys z ≡ None) (nat_eq-true x.doc d e) (absent_below x.doc ys later) in
    ap (λ o. truth d && (is_by k (lookup (x ∷ xs) d) && is_by k o)) gone ∙ never_second (truth d) (is_by k (lookup (x ∷ xs) d)) (is_by k (lookup xs d)) ∙ sym (ap (λ o. truth d && (is_by k (lookup xs d) && is_by k o)) gone)
first_at truth k x xs ys later d false e = ap (λ (b : Bool). truth d && (is_by k (if b then Some x.rank else lookup xs d) && is_by k (lookup ys d))) e

first_alone : (truth : ℕ → Bool) (k n : ℕ) (x : Placed) (xs ys : List Placed) → AllByRecursion (λ (e : Placed). x.doc < e.doc) ys → left truth k n (x ∷ xs) ys ≡ left truth k n xs ys
first_alone truth k n x xs ys later = count_by-agree _ _ (range_with_len 0 n) (every (λ d. is_shared truth k (x ∷ xs) ys d ≡ is_shared truth k xs ys d) (λ d. first_at truth k x xs ys later d (nat_eq x.doc d) refl) (range_with_len 0 n))

swapped_tests : (t p q : Bool) → (t && (p && q)) ≡ (t && (q && p))
swapped_tests true true true = refl
swapped_tests true true false = refl
swapped_tests true false true = refl
swapped_tests true false false = refl
swapped_tests false p q = refl

left_swapped : (truth : ℕ → Bool) (k n : ℕ) (xs ys : List Placed) → left truth k n xs ys ≡ left truth k n ys xs
left_swapped truth k n xs ys = count_by-agree _ _ (range_with_len 0 n) (every (λ d. is_shared truth k xs ys d ≡ is_shared truth k ys xs d) (λ d. swapped_tests (truth d) (is_by k (lookup xs d)) (is_by k (lookup ys d))) (range_with_len 0 n))

second_alone : (truth : ℕ → Bool) (k n : ℕ) (y : Placed) (xs ys : List Placed) → AllByRecursion (λ (e : Placed). y.doc < e.doc) xs → left truth k n xs (y ∷ ys) ≡ left truth k n xs ys
second_alone truth k n y xs ys later = left_swapped truth k n xs (y ∷ ys) ∙ first_alone truth k n y ys xs later ∙ left_swapped truth k n ys xs

-- ---- a document that both have
never_first : (t q : Bool) → one_if (t && (false && q)) ≡ 0
never_first true q = refl
never_first false q = refl

both_at : (truth : ℕ → Bool) (k : ℕ) (x y : Placed) (xs ys : List Placed) → x.doc ≡ y.doc → AllByRecursion (λ (e : Placed). x.doc < e.doc) xs → (d : ℕ) (b : Bool) → nat_eq x.doc d ≡ b →
    one_if (is_shared truth k (x ∷ xs) (y ∷ ys) d) ≡ (if nat_eq x.doc d then one_if (truth d && (nat_le x.rank k && nat_le y.rank k)) else 0) + one_if (is_shared truth k xs ys d)
both_at truth k x y xs ys same later d true e =
    let f : nat_eq y.doc d ≡ true = ap (λ z. nat_eq z d) (sym same) ∙ e in
    let gone : lookup xs d ≡ None = subst (λ (z : ℕ). lookup xs z ≡ None) (nat_eq-true x.doc d e) (absent_below x.doc xs later) in
    let whole : one_if (is_shared truth k (x ∷ xs) (y ∷ ys) d) ≡ one_if (truth d && (nat_le x.rank k && nat_le y.rank k)) =
    ap (λ (b : Bool). one_if (truth d && (is_by k (if b then Some x.rank else lookup xs d) && is_by k (lookup (y ∷ ys) d)))) e
    ∙ ap (λ (b : Bool). one_if (truth d && (nat_le x.rank k && is_by k (if b then Some y.rank else lookup ys d)))) f in
    let here : (if nat_eq x.doc d then one_if (truth d && (nat_le x.rank k && nat_le y.rank k)) else 0) ≡ one_if (truth d && (nat_le x.rank k && nat_le y.rank k)) =
    ap (λ (b : Bool). if b then one_if (truth d && (nat_le x.rank k && nat_le y.rank k)) else 0) e in
    let none : one_if (is_shared truth k xs ys d) ≡ 0 = ap (λ o. one_if (truth d && (is_by k o && is_by k (lookup ys d)))) gone ∙ never_first (truth d) (is_by k (lookup ys d)) in
    omega (arith, whole, here, none)
both_at truth k x y xs ys same later d false e =
    let f : nat_eq y.doc d ≡ false = ap (λ z. nat_eq z d) (sym same) ∙ e in
    let whole : one_if (is_shared truth k (x ∷ xs) (y ∷ ys) d) ≡ one_if (is_shared truth k xs ys d) =
    ap (λ (b : Bool). one_if (truth d && (is_by k (if b then Some x.rank else lookup xs d) && is_by k (lookup (y ∷ ys) d)))) e
    ∙ ap (λ (b : Bool). one_if (truth d && (is_by k (lookup xs d) && is_by k (if b then Some y.rank else lookup ys d)))) f in
    let here : (if nat_eq x.doc d then one_if (truth d && (nat_le x.rank k && nat_le y.rank k)) else 0) ≡ 0 = ap (λ (b : Bool). if b then one_if (truth d && (nat_le x.rank k && nat_le y.rank k)) else 0) e in
    omega (arith, whole, here)

both_have : (truth : ℕ → Bool) (k n : ℕ) (x y : Placed) (xs ys : List Placed) → x.doc ≡ y.doc → x.doc < n → AllByRecursion (λ (e : Placed). x.doc < e.doc) xs →
    left truth k n (x ∷ xs) (y ∷ ys) ≡ one_if (truth x.doc && (nat_le x.rank k && nat_le y.rank k)) + left truth k n xs ys
both_have truth k n x y xs ys same within later =
    let zs = range_with_len 0 n in
    let here = λ (d : ℕ). if nat_eq x.doc d then one_if (truth d && (nat_le x.rank k && nat_le y.rank k)) else 0 in
    let rest = λ (d : ℕ). one_if (is_shared truth k xs ys d) in
    let whole : left truth k n (x ∷ xs) (y ∷ ys) ≡ sum_by (λ d. here d + rest d) zs =
    sum_by-agree _ _ zs (every (λ d. one_if (is_shared truth k (x ∷ xs) (y ∷ ys) d) ≡ here d + rest d) (λ d. both_at truth k x y xs ys same later d (nat_eq x.doc d) refl) zs) in
    omega (arith, whole, sum_by-plus here rest zs, one_counts (λ d. one_if (truth d && (nat_le x.rank k && nat_le y.rank k))) x.doc 0 n (omega arith) (omega arith))

-- ---- one step
-- from the heads of two lists, each left where its document is not after the other's
heads_step : (truth : ℕ → Bool) (k n : ℕ) (x y : Placed) (xs ys : List Placed) → x.doc < n → IsAscending (x ∷ xs) → IsAscending (y ∷ ys) → (b c : Bool) → nat_le x.doc y.doc ≡ b → nat_le y.doc x.doc ≡ c →
    left truth k n (x ∷ xs) (y ∷ ys) ≡ one_if (truth x.doc && (nat_eq x.doc y.doc && (nat_le x.rank k && nat_le y.rank k))) + left truth k n (if b then xs else x ∷ xs) (if c then ys else y ∷ ys)
heads_step truth k n x y xs ys within h g true true eb ec =
    let same = even x.doc y.doc eb ec in
    let tested : one_if (truth x.doc && (nat_eq x.doc y.doc && (nat_le x.rank k && nat_le y.rank k))) ≡ one_if (truth x.doc && (nat_le x.rank k && nat_le y.rank k)) =
    ap (λ (b : Bool). one_if (truth x.doc && (b && (nat_le x.rank k && nat_le y.rank k)))) (eq-eqb x.doc y.doc same) in
    omega (arith, tested, both_have truth k n x y xs ys same within h.0)
heads_step truth k n x y xs ys within h g true false eb ec =
    let before = leb-false y.doc x.doc ec in
    let tested : one_if (truth x.doc && (nat_eq x.doc y.doc && (nat_le x.rank k && nat_le y.rank k))) ≡ 0 =
    ap (λ (b : Bool). one_if (truth x.doc && (b && (nat_le x.rank k && nat_le y.rank k)))) (apart_below x.doc y.doc before) ∙ never_first (truth x.doc) (nat_le x.rank k && nat_le y.rank k) in
    omega (arith, tested, first_alone truth k n x xs (y ∷ ys) (before, further x.doc y.doc ys (omega arith) g.0))
heads_step truth k n x y xs ys within h g false true eb ec =
    let before = leb-false x.doc y.doc eb in
    let tested : one_if (truth x.doc && (nat_eq x.doc y.doc && (nat_le x.rank k && nat_le y.rank k))) ≡ 0 =
    ap (λ (b : Bool). one_if (truth x.doc && (b && (nat_le x.rank k && nat_le y.rank k)))) (apart_over x.doc y.doc before) ∙ never_first (truth x.doc) (nat_le x.rank k && nat_le y.rank k) in
    omega (arith, tested, second_alone truth k n y (x ∷ xs) ys (before, further y.doc x.doc xs (omega arith) h.0))
heads_step truth k n x y xs ys within h g false false eb ec = absurd (omega (arith, neither x.doc y.doc eb ec))

-- ---- the same by places
pub left_step : (truth : ℕ → Bool) (k n i j p q : ℕ) (es fs : List Placed) (o : Placed) → i < length es → j < length fs → IsAscending es → IsAscending fs → AllByRecursion (λ (e : Placed). e.doc < n) es →
    p ≡ i + (if nat_le (slice_index_or es i o).doc (slice_index_or fs j o).doc then 1 else 0) → q ≡ j + (if nat_le (slice_index_or fs j o).doc (slice_index_or es i o).doc then 1 else 0) →
    left truth k n (drop i es) (drop j fs) ≡
    one_if (truth (slice_index_or es i o).doc && (nat_eq (slice_index_or es i o).doc (slice_index_or fs j o).doc && (nat_le (slice_index_or es i o).rank k && nat_le (slice_index_or fs j o).rank k)))
    + left truth k n (drop p es) (drop q fs)
left_step truth k n i j p q es fs o hi hj h g within ep eq =
    let x = slice_index_or es i o in
    let y = slice_index_or fs j o in
    let xs = drop (suc i) es in
    let ys = drop (suc j) fs in
    let ex : drop i es ≡ x ∷ xs = drop-cons es i o hi in
    let ey : drop j fs ≡ y ∷ ys = drop-cons fs j o hj in
    let step = heads_step truth k n x y xs ys (at_place (λ (e : Placed). e.doc < n) i es o hi within) (subst IsAscending ex (IsAscending-drop i es h)) (subst IsAscending ey (IsAscending-drop j fs g)) (nat_le x.doc y.doc) (nat_le y.doc x.doc) refl refl in
    let from : left truth k n (drop i es) (drop j fs) ≡ left truth k n (x ∷ xs) (y ∷ ys) = ap (λ (zs : List Placed). left truth k n zs (drop j fs)) ex ∙ ap (λ (zs : List Placed). left truth k n (x ∷ xs) zs) ey in
    let first : (if nat_le x.doc y.doc then xs else x ∷ xs) ≡ drop p es =
    ap (λ (zs : List Placed). if nat_le x.doc y.doc then xs else zs) (sym ex) ∙ stepped i es (nat_le x.doc y.doc) ∙ ap (λ m. drop m es) (sym ep) in
    let second : (if nat_le y.doc x.doc then ys else y ∷ ys) ≡ drop q fs =
    ap (λ (zs : List Placed). if nat_le y.doc x.doc then ys else zs) (sym ey) ∙ stepped j fs (nat_le y.doc x.doc) ∙ ap (λ m. drop m fs) (sym eq) in
    let to : left truth k n (if nat_le x.doc y.doc then xs else x ∷ xs) (if nat_le y.doc x.doc then ys else y ∷ ys) ≡ left truth k n (drop p es) (drop q fs) =
    ap (λ (zs : List Placed). left truth k n zs (if nat_le y.doc x.doc then ys else y ∷ ys)) first ∙ ap (λ (zs : List Placed). left truth k n (drop p es) zs) second in
    omega (arith, from, step, to)

-- ---- where the walk begins
regrouped : (t i j : Bool) → (t && (i && j)) ≡ ((t && j) && (i && true))
regrouped true true true = refl
regrouped true true false = refl
regrouped true false true = refl
regrouped true false false = refl
regrouped false i j = refl

pub left_whole : (truth : ℕ → Bool) (k n : ℕ) (a b : List ℕ) (es fs : List Placed) → IsRanking n a → ((d : ℕ) → lookup es d ≡ rank a d) → ((d : ℕ) → lookup fs d ≡ rank b d) →
    left truth k n es fs ≡ count_by (λ d. truth d && is_in (take k b) d) (take k a)
left_whole truth k n a b es fs ra he hf =
    let xs = take k a in
    let ys = take k b in
    let zs = range_with_len 0 n in
    count_by-agree _ _ zs
    (every (λ d. is_shared truth k es fs d ≡ ((truth d && is_in ys d) && (is_in xs d && true)))
    (λ d. ap (λ o. truth d && (is_by k o && is_by k (lookup fs d))) (he d) ∙ ap (λ o. truth d && (is_by k (rank a d) && is_by k o)) (hf d)
    ∙ ap (λ c. truth d && (c && is_by k (rank b d))) (sym (rank_by k d a)) ∙ ap (λ c. truth d && (is_in xs d && c)) (sym (rank_by k d b)) ∙ regrouped (truth d) (is_in xs d) (is_in ys d)) zs)
    ∙ class_count (λ d. truth d && is_in ys d) n xs [] (IsDistinct-take k a ra.distinct) (prefix_within k n a ra)
    ∙ count_by-agree _ _ xs (every (λ d. ((truth d && is_in ys d) && true) ≡ (truth d && is_in ys d)) (λ d. and-true (truth d && is_in ys d)) xs)

-- ---- and where it ends
none_first : (t q : Bool) → (t && (false && q)) ≡ false
none_first true q = refl
none_first false q = refl

none_second : (t q : Bool) → (t && (q && false)) ≡ false
none_second true true = refl
none_second true false = refl
none_second false q = refl

pub left_first_done : (truth : ℕ → Bool) (k n i : ℕ) (es fs : List Placed) → length es ≤ i → left truth k n (drop i es) fs ≡ 0
left_first_done truth k n i es fs h =
    ap (λ (xs : List Placed). left truth k n xs fs) (drop_all i es h) ∙ count_by-none _ (range_with_len 0 n) (every (λ d. is_shared truth k [] fs d ≡ false) (λ d. none_first (truth d) (is_by k (lookup fs d))) (range_with_len 0 n))

pub left_second_done : (truth : ℕ → Bool) (k n j : ℕ) (es fs : List Placed) → length fs ≤ j → left truth k n es (drop j fs) ≡ 0
left_second_done truth k n j es fs h = left_swapped truth k n es (drop j fs) ∙ left_first_done truth k n j fs es h

pub shared_few : (taken : Bool) (k n : ℕ) (marks : List Mark) (a b : List ℕ) → IsRanking n a → shared_count taken marks (take k a) (take k b) ≤ 10000
shared_few taken k n marks a b ra = omega (arith, count_by-le-length (λ d. with_picked marks (λ _. taken) d && is_in (take k b) d) (take k a), length-take k a, ra.short)
