-- The relevant documents among the first k of a ranking, counted in the order of the documents.
use Rattle.std.proofs.Common.{◌≡◌, ℕ, suc, ◌+◌, ◌<◌, ◌≤◌, Bool, true, false, ◌&&◌, nat_eq, nat_le, List, [], ◌∷◌, take, drop, length, length-take, count_by, slice_index_or, Some, None, arith, refl, ap, ◌∙◌, sym, subst}
use Rattle.std.specs.Prelude.{if◌then◌else◌}
use Rattle.std.specs.List.{AllByRecursion, sum_by, range_with_len}
use Rattle.std.proofs.Math.Seq.{drop-cons}
use Rattle.std.proofs.Math.Bool.{and-true, and-false}
use Rattle.std.proofs.lemmas.Bool.Decides.{nat_tests}
use Rattle.std.proofs.lemmas.List.{drop_all}
use Rattle.std.proofs.lemmas.List.Sums.{count_by-le-length}
use Rattle.desk_model.specs.Placed.{lookup, IsAscending}
use Rattle.desk_model.specs.Ranking.{IsRanking, is_in, rank}
use Rattle.desk_model.specs.Score.{true_among}
use Rattle.desk_model.specs.declared.placed.Placed.{Placed}
use Rattle.desk_model.proofs.Counts.{one_if, count_by-agree, count_by-none, nat_eq-true, IsDistinct-take}
use Rattle.desk_model.proofs.PrecisionEnds.{prefix_within}
use Rattle.topic_counts.proofs.Merge.{absent_below}
use Rattle.topic_counts.proofs.Places.{IsAscending-drop, at_place}
use Rattle.topic_counts.proofs.Prefixes.{is_by, rank_by}
use Rattle.measure_laws.proofs.Ranks.{sum_by-agree, sum_by-plus, one_counts}
use Rattle.measure_laws.proofs.RecallEnds.{every, class_count}

-- whether a document is true and has a rank of at most k
abbrev pub is_counted : (ℕ → Bool) → ℕ → List Placed → ℕ → Bool
is_counted truth k es d = truth d && is_by k (lookup es d)

-- how many documents of a universe are
abbrev pub counted : (ℕ → Bool) → ℕ → ℕ → List Placed → ℕ
counted truth k n es = count_by (is_counted truth k es) (range_with_len 0 n)

never : (t : Bool) → one_if (t && false) ≡ 0
never true = refl
never false = refl

first_or_later : (truth : ℕ → Bool) (k : ℕ) (e : Placed) (es : List Placed) → AllByRecursion (λ (f : Placed). e.doc < f.doc) es → (d : ℕ) (b : Bool) → nat_eq e.doc d ≡ b →
    one_if (is_counted truth k (e ∷ es) d) ≡ (if nat_eq e.doc d then one_if (truth d && nat_le e.rank k) else 0) + one_if (is_counted truth k es d)
first_or_later truth k e es later d true t =
    let gone : lookup es d ≡ None = subst (λ (z : ℕ). lookup es z ≡ None) (nat_eq-true e.doc d t) (absent_below e.doc es later) in
    let whole : one_if (is_counted truth k (e ∷ es) d) ≡ one_if (truth d && nat_le e.rank k) = ap (λ (b : Bool). one_if (truth d && is_by k (if b then Some e.rank else lookup es d))) t in
    let here : (if nat_eq e.doc d then one_if (truth d && nat_le e.rank k) else 0) ≡ one_if (truth d && nat_le e.rank k) = ap (λ (b : Bool). if b then one_if (truth d && nat_le e.rank k) else 0) t in
    let none : one_if (is_counted truth k es d) ≡ 0 = ap (λ o. one_if (truth d && is_by k o)) gone ∙ never (truth d) in
    omega (arith, whole, here, none)
first_or_later truth k e es later d false t =
    let whole : one_if (is_counted truth k (e ∷ es) d) ≡ one_if (is_counted truth k es d) = ap (λ (b : Bool). one_if (truth d && is_by k (if b then Some e.rank else lookup es d))) t in
    let here : (if nat_eq e.doc d then one_if (truth d && nat_le e.rank k) else 0) ≡ 0 = ap (λ (b : Bool). if b then one_if (truth d && nat_le e.rank k) else 0) t in
    omega (arith, whole, here)

one_counted : (truth : ℕ → Bool) (k n : ℕ) (e : Placed) (es : List Placed) → e.doc < n → IsAscending (e ∷ es) → counted truth k n (e ∷ es) ≡ one_if (truth e.doc && nat_le e.rank k) + counted truth k n es
one_counted truth k n e es within up =
    let zs = range_with_len 0 n in
    let here = λ (d : ℕ). if nat_eq e.doc d then one_if (truth d && nat_le e.rank k) else 0 in
    let rest = λ (d : ℕ). one_if (is_counted truth k es d) in
    let whole : counted truth k n (e ∷ es) ≡ sum_by (λ d. here d + rest d) zs =
    sum_by-agree _ _ zs (every (λ d. one_if (is_counted truth k (e ∷ es) d) ≡ here d + rest d) (λ d. first_or_later truth k e es up.0 d (nat_eq e.doc d) refl) zs) in
    omega (arith, whole, sum_by-plus here rest zs, one_counts (λ d. one_if (truth d && nat_le e.rank k)) e.doc 0 n (omega arith) (omega (arith, within)))

-- the documents from a place on are that one and those after it
pub counted_from : (truth : ℕ → Bool) (k n i : ℕ) (es : List Placed) (o : Placed) → i < length es → IsAscending es → AllByRecursion (λ (e : Placed). e.doc < n) es →
    counted truth k n (drop i es) ≡ one_if (truth (slice_index_or es i o).doc && nat_le (slice_index_or es i o).rank k) + counted truth k n (drop (i + 1) es)
counted_from truth k n i es o lt up within =
    let e = slice_index_or es i o in
    let whole : drop i es ≡ e ∷ drop (suc i) es = drop-cons es i o lt in
    let next : suc i ≡ i + 1 = omega arith in
    let step = one_counted truth k n e (drop (suc i) es) (at_place (λ (f : Placed). f.doc < n) i es o lt within) (subst IsAscending whole (IsAscending-drop i es up)) in
    omega (arith, ap (λ (fs : List Placed). counted truth k n fs) whole, step, ap (λ (m : ℕ). counted truth k n (drop m es)) next)

pub counted_done : (truth : ℕ → Bool) (k n i : ℕ) (es : List Placed) → length es ≤ i → counted truth k n (drop i es) ≡ 0
counted_done truth k n i es h =
    ap (λ (fs : List Placed). counted truth k n fs) (drop_all i es h) ∙ count_by-none _ (range_with_len 0 n) (every (λ d. is_counted truth k [] d ≡ false) (λ d. and-false (truth d)) (range_with_len 0 n))

-- all of them are the first k of the ranking
pub counted_whole : (truth : ℕ → Bool) (k n : ℕ) (docs : List ℕ) (es : List Placed) → IsRanking n docs → ((d : ℕ) → lookup es d ≡ rank docs d) → counted truth k n es ≡ true_among truth k docs
counted_whole truth k n docs es ranking h =
    let xs = take k docs in
    let zs = range_with_len 0 n in
    count_by-agree _ _ zs
    (every (λ d. is_counted truth k es d ≡ (truth d && (is_in xs d && true))) (λ d. ap (λ o. truth d && is_by k o) (h d) ∙ ap (λ c. truth d && c) (sym (rank_by k d docs)) ∙ ap (λ c. truth d && c) (sym (and-true (is_in xs d)))) zs)
    ∙ class_count truth n xs [] (IsDistinct-take k docs ranking.distinct) (prefix_within k n docs ranking)
    ∙ count_by-agree _ _ xs (every (λ d. (truth d && true) ≡ truth d) (λ d. and-true (truth d)) xs)

-- they are no more than the ranking has
pub few_among : (truth : ℕ → Bool) (k n : ℕ) (docs : List ℕ) → IsRanking n docs → true_among truth k docs ≤ 10000
few_among truth k n docs ranking = omega (arith, count_by-le-length truth (take k docs), length-take k docs, ranking.short)

-- a document at a rank of at most k counts where it is true, and one at another does not
pub among : (t : Bool) (r k : ℕ) → r ≤ k → one_if (t && nat_le r k) ≡ one_if t
among true r k h = grind (arith, nat_tests)
among false r k h = refl

pub beyond : (t : Bool) (r k : ℕ) → k < r → one_if (t && nat_le r k) ≡ 0
beyond true r k h = grind (arith, nat_tests)
beyond false r k h = refl
