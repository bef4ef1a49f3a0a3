-- The walk over the documents of two runs, and the sum of shares as the sums of each run alone and of the corrections.
use Rattle.std.proofs.Common.{◌≡◌, ◌≢◌, ℕ, zero, suc, ◌+◌, ◌-◌, ◌*◌, ◌^◌, ◌<◌, ◌≤◌, Bool, true, false, nat_eq, nat_le, List, ◌∷◌, map, drop, length, slice_index_or, Option, Some, None, ℤ, pos, neg_ℤ, ◌+ℤ◌, ◌-ℤ◌, ◌≤ℤ◌, arith, refl, ap, ◌∙◌, sym, subst, inl, inr}
use Rattle.std.specs.Prelude.{if◌then◌else◌}
use Rattle.std.specs.List.{AllByRecursion, range_with_len, sum_by}
use Rattle.std.proofs.Math.Seq.{drop-cons}
use Rattle.std.proofs.lemmas.Int.{ints}
use Rattle.std.proofs.lemmas.Bool.{cases_lt, leb-false, eq-eqb}
use Rattle.std.proofs.lemmas.List.{drop_all}
use Rattle.std.proofs.lemmas.List.Elements.{recursion_from_All}
use Rattle.std.proofs.lemmas.List.Sums.{sum_by-cons}
use Rattle.small_lemmas.proofs.Tests.{apart_below, apart_over}
use Rattle.desk_model.specs.Mark.{mark_at}
use Rattle.desk_model.specs.Completion.{picked_value, with_picked}
use Rattle.desk_model.specs.Ranking.{IsRanking, rank}
use Rattle.desk_model.specs.Placed.{lookup, IsAscending}
use Rattle.desk_model.specs.Score.{gained}
use Rattle.desk_model.specs.Verdict.{whole_sum}
use Rattle.desk_model.proofs.Counts.{nat_eq-true}
use Rattle.measure_laws.specs.Ranks.{comes_before}
use Rattle.measure_laws.specs.Powers.{low_weight, high_weight}
use Rattle.measure_laws.specs.Shares.{low_share, high_share, low_worth, high_worth, share_sum}
use Rattle.measure_laws.proofs.BiasedEnds.{Standing, stands, ahead, behind, level}
use Rattle.topic_counts.proofs.Merge.{absent_below, further}
use Rattle.small_lemmas.proofs.Numbers.{neg_twice}
use Rattle.topic_counts.proofs.Places.{even, neither, IsAscending-drop, at_place, stepped}
use Rattle.measure_laws.proofs.Ranks.{gained_by_documents}
use Rattle.measure_laws.proofs.Weights.{low_weight-most, high_weight-most}
use Rattle.rbp.specs.Walk.{share_of, is_in_least, is_in_most, sum_of, correction, correction_sum}
use Rattle.desk_model.specs.declared.placed.Placed.{Placed}
use Rattle.desk_model.specs.declared.types.Mark.{Mark}
use Rattle.desk_model.specs.declared.types.Mark.TheVariants.{Unjudged, Relevant, Other}

-- ---- sums over a range of documents
agree_from : (f g : ℕ → ℤ) (s n : ℕ) → ((d : ℕ) → s ≤ d → f d ≡ g d) → whole_sum (map f (range_with_len s n)) ≡ whole_sum (map g (range_with_len s n))
agree_from f g s zero h = refl
agree_from f g s (suc n) h =
    let here = h s (omega arith) in
    let rest = agree_from f g (s + 1) n (λ d k. h d (omega arith)) in
    omega (arith, ints, here, rest)

-- sums that differ at one document, which adds nothing to the second
pub apart_once : (f g : ℕ → ℤ) (x s n : ℕ) → s ≤ x → x < s + n → ((d : ℕ) → d ≢ x → f d ≡ g d) → g x ≡ pos 0 →
    whole_sum (map f (range_with_len s n)) ≡ f x +ℤ whole_sum (map g (range_with_len s n))
apart_once f g x s zero h k same none = absurd (omega arith)
apart_once f g x s (suc n) h k same none = elim (cases_lt s x) [
  | inl later ↦
      let here = same s (omega arith) in
      let rest = apart_once f g x (s + 1) n (omega arith) (omega arith) same none in
      omega (arith, ints, here, rest)
  | inr first ↦
      let e : s ≡ x = omega arith in
      let here : f s ≡ f x = ap f e in
      let empty : g s ≡ pos 0 = ap g e ∙ none in
      let rest = agree_from f g (s + 1) n (λ d q. same d (omega arith)) in
      omega (arith, ints, here, empty, rest)
]

pub nothing_from : (f : ℕ → ℤ) (s n : ℕ) → ((d : ℕ) → f d ≡ pos 0) → whole_sum (map f (range_with_len s n)) ≡ pos 0
nothing_from f s zero h = refl
nothing_from f s (suc n) h = let rest = nothing_from f (s + 1) n h in let here = h s in omega (arith, ints, rest, here)

swapped_from : (f g : ℕ → ℤ) (s n : ℕ) → ((d : ℕ) → f d ≡ neg_ℤ (g d)) → whole_sum (map f (range_with_len s n)) ≡ neg_ℤ (whole_sum (map g (range_with_len s n)))
swapped_from f g s zero h = refl
swapped_from f g s (suc n) h = let rest = swapped_from f g (s + 1) n h in let here = h s in omega (arith, ints, rest, here)

-- from -m to m
abbrev pub IsSmall : ℕ → ℤ → Type 0
IsSmall m z = (neg_ℤ (pos m) ≤ℤ z) × (z ≤ℤ pos m)

small_from : (f : ℕ → ℤ) (s n : ℕ) → ((d : ℕ) → IsSmall (3 * 10 ^ 18) (f d)) → IsSmall (n * (3 * 10 ^ 18)) (whole_sum (map f (range_with_len s n)))
small_from f s zero h = (omega (arith, ints), omega (arith, ints))
small_from f s (suc n) h =
    let rest = small_from f (s + 1) n h in
    let here = h s in
    (omega (arith, ints, rest, here), omega (arith, ints, rest, here))

-- ---- one share
-- a document that neither run has no share, and no share is more than a whole
pub record IsShare (share : Option ℕ → Option ℕ → ℤ) : Type 0 where
  pub absent : share None None ≡ pos 0
  pub small : (x y : Option ℕ) → IsSmall (10 ^ 18) (share x y)

abbrev pub ends : (lx hx ly hy : ℕ) → Bool → Bool → ℤ × ℤ
ends lx hx ly hy b c = (if b then pos (lx - hy) else if c then pos lx -ℤ pos hy else pos 0, if b then pos hx -ℤ pos ly else if c then neg_ℤ (pos (ly - hx)) else pos 0)

ends_small : (lx hx ly hy : ℕ) (b c : Bool) → lx ≤ 10 ^ 18 → hx ≤ 10 ^ 18 → ly ≤ 10 ^ 18 → hy ≤ 10 ^ 18 →
    IsSmall (10 ^ 18) (ends lx hx ly hy b c).0 × IsSmall (10 ^ 18) (ends lx hx ly hy b c).1
ends_small lx hx ly hy true c p q r s = ((omega (arith, ints), omega (arith, ints)), (omega (arith, ints), omega (arith, ints)))
ends_small lx hx ly hy false true p q r s = ((omega (arith, ints), omega (arith, ints)), (omega (arith, ints), omega (arith, ints)))
ends_small lx hx ly hy false false p q r s = ((omega (arith, ints), omega (arith, ints)), (omega (arith, ints), omega (arith, ints)))

both_small : (top bottom : ℕ) (x y : Option ℕ) → top < bottom → IsSmall (10 ^ 18) (low_share top bottom x y) × IsSmall (10 ^ 18) (high_share top bottom x y)
both_small top bottom x y below =
    ends_small (low_weight top bottom x) (high_weight top bottom x) (low_weight top bottom y) (high_weight top bottom y) (comes_before x y) (comes_before y x)
    (low_weight-most top bottom x (omega arith)) (high_weight-most top bottom x (omega arith) (omega arith)) (low_weight-most top bottom y (omega arith)) (high_weight-most top bottom y (omega arith) (omega arith))

pub is_low : (top bottom : ℕ) → top < bottom → IsShare (low_share top bottom)
is_low top bottom below = record { absent = refl; small = λ x y. (both_small top bottom x y below).0 }

pub is_high : (top bottom : ℕ) → top < bottom → IsShare (high_share top bottom)
is_high top bottom below = record { absent = refl; small = λ x y. (both_small top bottom x y below).1 }

-- ---- what a document adds
absent_adds : (share : Option ℕ → Option ℕ → ℤ) (b : Bool) → IsShare share → (if b then share None None else pos 0) ≡ pos 0
absent_adds share true s = s.absent
absent_adds share false s = refl

adds_little : (b : Bool) (z : ℤ) → IsSmall (10 ^ 18) z → IsSmall (10 ^ 18) (if b then z else pos 0)
adds_little true z h = h
adds_little false z h = (omega (arith, ints), omega (arith, ints))

pub whole_small : (share : Option ℕ → Option ℕ → ℤ) (picked : Option ℕ → Option ℕ → Bool) (marks : List Mark) (a b : List ℕ) (total : ℤ) → IsShare share → length marks ≤ 25000000 → total ≡ sum_of share picked marks a b → IsSmall (10 ^ 27) total
whole_small share picked marks a b total s few e =
    let whole = small_from (λ d. share_of share picked (mark_at marks d) (rank a d) (rank b d)) 0 (length marks)
    (λ d. let one = adds_little (picked_value (picked (rank a d) (rank b d)) (mark_at marks d)) (share (rank a d) (rank b d)) (s.small (rank a d) (rank b d)) in (omega (arith, ints, one), omega (arith, ints, one))) in
    (omega (arith, ints, whole, e), omega (arith, ints, whole, e))

-- ---- what documents of both lists add
-- nothing where one rank is absent, and never more than three wholes
pub record IsCommon (f : Mark → Option ℕ → Option ℕ → ℤ) : Type 0 where
  pub first : (mark : Mark) (y : Option ℕ) → f mark None y ≡ pos 0
  pub second : (mark : Mark) (x : Option ℕ) → f mark x None ≡ pos 0
  pub small : (mark : Mark) (x y : Option ℕ) → IsSmall (3 * 10 ^ 18) (f mark x y)

less_nothing : (z : ℤ) → z -ℤ (z +ℤ pos 0) ≡ pos 0
less_nothing z = omega (arith, ints)

less_nothing_first : (z : ℤ) → z -ℤ (pos 0 +ℤ z) ≡ pos 0
less_nothing_first z = omega (arith, ints)

pub is_common : (share : Option ℕ → Option ℕ → ℤ) (picked : Option ℕ → Option ℕ → Bool) → IsShare share → IsCommon (correction share picked)
is_common share picked s =
    let term = share_of share picked in
    let none = λ (mark : Mark). absent_adds share (picked_value (picked None None) mark) s in
    let little = λ (mark : Mark) (x y : Option ℕ). adds_little (picked_value (picked x y) mark) (share x y) (s.small x y) in
    record {
      first = λ mark y. ap (λ z. term mark None y -ℤ (z +ℤ term mark None y)) (none mark) ∙ less_nothing_first (term mark None y);
      second = λ mark x. ap (λ z. term mark x None -ℤ (term mark x None +ℤ z)) (none mark) ∙ less_nothing (term mark x None);
      small = λ mark x y. (
        omega (arith, ints, little mark x y, little mark x None, little mark None y),
        omega (arith, ints, little mark x y, little mark x None, little mark None y),
      );
    }

-- so are the four corrections
pub record AreCommon (top bottom : ℕ) : Type 0 where
  pub least_lo : IsCommon (correction (low_share top bottom) is_in_least)
  pub least_hi : IsCommon (correction (high_share top bottom) is_in_least)
  pub most_lo : IsCommon (correction (low_share top bottom) is_in_most)
  pub most_hi : IsCommon (correction (high_share top bottom) is_in_most)

pub all_common : (top bottom : ℕ) → top < bottom → AreCommon top bottom
all_common top bottom below = record {
  least_lo = is_common (low_share top bottom) is_in_least (is_low top bottom below);
  least_hi = is_common (high_share top bottom) is_in_least (is_high top bottom below);
  most_lo = is_common (low_share top bottom) is_in_most (is_low top bottom below);
  most_hi = is_common (high_share top bottom) is_in_most (is_high top bottom below);
}

-- what all documents of the universe add by the ranks in two lists
abbrev pub left : (Mark → Option ℕ → Option ℕ → ℤ) → List Mark → List Placed → List Placed → ℤ
left f marks xs ys = whole_sum (map (λ d. f (mark_at marks d) (lookup xs d) (lookup ys d)) (range_with_len 0 (length marks)))

pub left_small : (f : Mark → Option ℕ → Option ℕ → ℤ) (marks : List Mark) (xs ys : List Placed) → IsCommon f → IsSmall (length marks * (3 * 10 ^ 18)) (left f marks xs ys)
left_small f marks xs ys h = small_from (λ d. f (mark_at marks d) (lookup xs d) (lookup ys d)) 0 (length marks) (λ d. h.small (mark_at marks d) (lookup xs d) (lookup ys d))

-- the sum so far, where what is left makes it whole
pub so_far_small : (f : Mark → Option ℕ → Option ℕ → ℤ) (marks : List Mark) (xs ys us vs : List Placed) (total : ℤ) → IsCommon f → length marks ≤ 25000000 →
    total +ℤ left f marks us vs ≡ left f marks xs ys → IsSmall (10 ^ 27) total
so_far_small f marks xs ys us vs total h few e =
    let part = left_small f marks us vs h in
    let whole = left_small f marks xs ys h in
    (omega (arith, ints, part, whole, e), omega (arith, ints, part, whole, e))

-- ---- one step
first_alone : (f : Mark → Option ℕ → Option ℕ → ℤ) (marks : List Mark) (x : Placed) (xs ys : List Placed) → IsCommon f → AllByRecursion (λ (e : Placed). x.doc < e.doc) ys →
    left f marks (x ∷ xs) ys ≡ left f marks xs ys
first_alone f marks x xs ys h later = agree_from _ _ 0 (length marks) (λ d k. at d (nat_eq x.doc d) refl)
  where
    at : (d : ℕ) (b : Bool) → nat_eq x.doc d ≡ b → f (mark_at marks d) (lookup (x ∷ xs) d) (lookup ys d) ≡ f (mark_at marks d) (lookup xs d) (lookup ys d)
    at d true e =
        let gone : lookup ys d ≡ None = subst (λ (z : ℕ). lookup ys z ≡ None) (nat_eq-true x.doc d e) (absent_below x.doc ys later) in
        ap (f (mark_at marks d) (lookup (x ∷ xs) d)) gone ∙ h.second (mark_at marks d) (lookup (x ∷ xs) d) ∙ sym (ap (f (mark_at marks d) (lookup xs d)) gone ∙ h.second (mark_at marks d) (lookup xs d))
    at d false e = ap (λ (b : Bool). f (mark_at marks d) (if b then Some x.rank else lookup xs d) (lookup ys d)) e

second_alone : (f : Mark → Option ℕ → Option ℕ → ℤ) (marks : List Mark) (y : Placed) (xs ys : List Placed) → IsCommon f → AllByRecursion (λ (e : Placed). y.doc < e.doc) xs →
    left f marks xs (y ∷ ys) ≡ left f marks xs ys
second_alone f marks y xs ys h later = agree_from _ _ 0 (length marks) (λ d k. at d (nat_eq y.doc d) refl)
  where
    at : (d : ℕ) (b : Bool) → nat_eq y.doc d ≡ b → f (mark_at marks d) (lookup xs d) (lookup (y ∷ ys) d) ≡ f (mark_at marks d) (lookup xs d) (lookup ys d)
    at d true e =
        let gone : lookup xs d ≡ None = subst (λ (z : ℕ). lookup xs z ≡ None) (nat_eq-true y.doc d e) (absent_below y.doc xs later) in
        ap (λ o. f (mark_at marks d) o (lookup (y ∷ ys) d)) gone ∙ h.first (mark_at marks d) (lookup (y ∷ ys) d) ∙ sym (ap (λ o. f (mark_at marks d) o (lookup ys d)) gone ∙ h.first (mark_at marks d) (lookup ys d))
    at d false e = ap (λ (b : Bool). f (mark_at marks d) (lookup xs d) (if b then Some y.rank else lookup ys d)) e

both_have : (f : Mark → Option ℕ → Option ℕ → ℤ) (marks : List Mark) (x y : Placed) (xs ys : List Placed) → IsCommon f → x.doc ≡ y.doc → x.doc < length marks → AllByRecursion (λ (e : Placed). x.doc < e.doc) xs →
    left f marks (x ∷ xs) (y ∷ ys) ≡ f (mark_at marks x.doc) (Some x.rank) (Some y.rank) +ℤ left f marks xs ys
both_have f marks x y xs ys h same within later =
    let gone : f (mark_at marks x.doc) (lookup xs x.doc) (lookup ys x.doc) ≡ pos 0 = ap (λ o. f (mark_at marks x.doc) o (lookup ys x.doc)) (absent_below x.doc xs later) ∙ h.first (mark_at marks x.doc) (lookup ys x.doc) in
    let here : f (mark_at marks x.doc) (lookup (x ∷ xs) x.doc) (lookup (y ∷ ys) x.doc) ≡ f (mark_at marks x.doc) (Some x.rank) (Some y.rank) =
    ap (λ (b : Bool). f (mark_at marks x.doc) (if b then Some x.rank else lookup xs x.doc) (lookup (y ∷ ys) x.doc)) (eq-eqb x.doc x.doc refl)
    ∙ ap (λ (b : Bool). f (mark_at marks x.doc) (Some x.rank) (if b then Some y.rank else lookup ys x.doc)) (eq-eqb y.doc x.doc (sym same)) in
    apart_once (λ d. f (mark_at marks d) (lookup (x ∷ xs) d) (lookup (y ∷ ys) d)) (λ d. f (mark_at marks d) (lookup xs d) (lookup ys d)) x.doc 0 (length marks) (omega arith) (omega arith)
    (λ d ne. at d ne (nat_eq x.doc d) refl) gone
    ∙ ap (λ z. z +ℤ left f marks xs ys) here
  where
    at : (d : ℕ) → d ≢ x.doc → (b : Bool) → nat_eq x.doc d ≡ b → f (mark_at marks d) (lookup (x ∷ xs) d) (lookup (y ∷ ys) d) ≡ f (mark_at marks d) (lookup xs d) (lookup ys d)
    at d ne true e = absurd (ne (sym (nat_eq-true x.doc d e)))
    at d ne false e =
        ap (λ (b : Bool). f (mark_at marks d) (if b then Some x.rank else lookup xs d) (lookup (y ∷ ys) d)) e
        ∙ ap (λ (b : Bool). f (mark_at marks d) (lookup xs d) (if b then Some y.rank else lookup ys d)) (ap (λ z. nat_eq z d) (sym same) ∙ e)

-- one step from the heads of two lists, each left where its document is not after the other's
heads_step : (f : Mark → Option ℕ → Option ℕ → ℤ) (marks : List Mark) (x y : Placed) (xs ys : List Placed) → IsCommon f → x.doc < length marks → IsAscending (x ∷ xs) → IsAscending (y ∷ ys) → (b c : Bool) → nat_le x.doc y.doc ≡ b → nat_le y.doc x.doc ≡ c →
    left f marks (x ∷ xs) (y ∷ ys) ≡ (if nat_eq x.doc y.doc then f (mark_at marks x.doc) (Some x.rank) (Some y.rank) else pos 0) +ℤ left f marks (if b then xs else x ∷ xs) (if c then ys else y ∷ ys)
heads_step f marks x y xs ys h within p q true true eb ec =
    let same = even x.doc y.doc eb ec in
    let tested : (if nat_eq x.doc y.doc then f (mark_at marks x.doc) (Some x.rank) (Some y.rank) else pos 0) ≡ f (mark_at marks x.doc) (Some x.rank) (Some y.rank) =
    ap (λ (b : Bool). if b then f (mark_at marks x.doc) (Some x.rank) (Some y.rank) else pos 0) (eq-eqb x.doc y.doc same) in
    both_have f marks x y xs ys h same within p.0 ∙ ap (λ z. z +ℤ left f marks xs ys) (sym tested)
heads_step f marks x y xs ys h within p q true false eb ec =
    let before = leb-false y.doc x.doc ec in
    let tested : (if nat_eq x.doc y.doc then f (mark_at marks x.doc) (Some x.rank) (Some y.rank) else pos 0) ≡ pos 0 =
    ap (λ (b : Bool). if b then f (mark_at marks x.doc) (Some x.rank) (Some y.rank) else pos 0) (apart_below x.doc y.doc before) in
    omega (arith, ints, tested, first_alone f marks x xs (y ∷ ys) h (before, further x.doc y.doc ys (omega arith) q.0))
heads_step f marks x y xs ys h within p q false true eb ec =
    let before = leb-false x.doc y.doc eb in
    let tested : (if nat_eq x.doc y.doc then f (mark_at marks x.doc) (Some x.rank) (Some y.rank) else pos 0) ≡ pos 0 =
    ap (λ (b : Bool). if b then f (mark_at marks x.doc) (Some x.rank) (Some y.rank) else pos 0) (apart_over x.doc y.doc before) in
    omega (arith, ints, tested, second_alone f marks y (x ∷ xs) ys h (before, further y.doc x.doc xs (omega arith) p.0))
heads_step f marks x y xs ys h within p q false false eb ec = absurd (omega (arith, neither x.doc y.doc eb ec))

-- the same by places
pub left_step : (f : Mark → Option ℕ → Option ℕ → ℤ) (marks : List Mark) (i j p q : ℕ) (es fs : List Placed) (o : Placed) → IsCommon f → i < length es → j < length fs → IsAscending es → IsAscending fs → AllByRecursion (λ (e : Placed). e.doc < length marks) es →
    p ≡ i + (if nat_le (slice_index_or es i o).doc (slice_index_or fs j o).doc then 1 else 0) → q ≡ j + (if nat_le (slice_index_or fs j o).doc (slice_index_or es i o).doc then 1 else 0) →
    left f marks (drop i es) (drop j fs) ≡
    (if nat_eq (slice_index_or es i o).doc (slice_index_or fs j o).doc then f (mark_at marks (slice_index_or es i o).doc) (Some (slice_index_or es i o).rank) (Some (slice_index_or fs j o).rank) else pos 0)
    +ℤ left f marks (drop p es) (drop q fs)
left_step f marks i j p q es fs o c hi hj h g within ep eq =
    let x = slice_index_or es i o in
    let y = slice_index_or fs j o in
    let xs = drop (suc i) es in
    let ys = drop (suc j) fs in
    let ex : drop i es ≡ x ∷ xs = drop-cons es i o hi in
    let ey : drop j fs ≡ y ∷ ys = drop-cons fs j o hj in
    let step = heads_step f marks x y xs ys c (at_place (λ (e : Placed). e.doc < length marks) i es o hi within) (subst IsAscending ex (IsAscending-drop i es h)) (subst IsAscending ey (IsAscending-drop j fs g)) (nat_le x.doc y.doc) (nat_le y.doc x.doc) refl refl in
    let from : left f marks (drop i es) (drop j fs) ≡ left f marks (x ∷ xs) (y ∷ ys) = ap (λ (zs : List Placed). left f marks zs (drop j fs)) ex ∙ ap (λ (zs : List Placed). left f marks (x ∷ xs) zs) ey in
    let first : (if nat_le x.doc y.doc then xs else x ∷ xs) ≡ drop p es =
    ap (λ (zs : List Placed). if nat_le x.doc y.doc then xs else zs) (sym ex) ∙ stepped i es (nat_le x.doc y.doc) ∙ ap (λ m. drop m es) (sym ep) in
    let second : (if nat_le y.doc x.doc then ys else y ∷ ys) ≡ drop q fs =
    ap (λ (zs : List Placed). if nat_le y.doc x.doc then ys else zs) (sym ey) ∙ stepped j fs (nat_le y.doc x.doc) ∙ ap (λ m. drop m fs) (sym eq) in
    let to : left f marks (if nat_le x.doc y.doc then xs else x ∷ xs) (if nat_le y.doc x.doc then ys else y ∷ ys) ≡ left f marks (drop p es) (drop q fs) =
    ap (λ (zs : List Placed). left f marks zs (if nat_le y.doc x.doc then ys else y ∷ ys)) first ∙ ap (λ (zs : List Placed). left f marks (drop p es) zs) second in
    let more = if nat_eq x.doc y.doc then f (mark_at marks x.doc) (Some x.rank) (Some y.rank) else pos 0 in
    from ∙ step ∙ ap (λ z. more +ℤ z) to

pub one_less : (f : Mark → Option ℕ → Option ℕ → ℤ) (marks : List Mark) (xs ys us vs : List Placed) (more total new whole : ℤ) →
    left f marks xs ys ≡ more +ℤ left f marks us vs → new ≡ total +ℤ more → total +ℤ left f marks xs ys ≡ whole → new +ℤ left f marks us vs ≡ whole
one_less f marks xs ys us vs more total new whole s en e = omega (arith, ints, s, en, e)

-- ---- where the walk begins and ends
left_whole : (f : Mark → Option ℕ → Option ℕ → ℤ) (marks : List Mark) (a b : List ℕ) (xs ys : List Placed) → ((d : ℕ) → lookup xs d ≡ rank a d) → ((d : ℕ) → lookup ys d ≡ rank b d) →
    left f marks xs ys ≡ whole_sum (map (λ d. f (mark_at marks d) (rank a d) (rank b d)) (range_with_len 0 (length marks)))
left_whole f marks a b xs ys hx hy =
    agree_from _ _ 0 (length marks) (λ d k. ap (λ o. f (mark_at marks d) o (lookup ys d)) (hx d) ∙ ap (f (mark_at marks d) (rank a d)) (hy d))

first_done : (f : Mark → Option ℕ → Option ℕ → ℤ) (marks : List Mark) (i : ℕ) (es fs : List Placed) → IsCommon f → length es ≤ i → left f marks (drop i es) fs ≡ pos 0
first_done f marks i es fs h le =
    ap (λ (xs : List Placed). left f marks xs fs) (drop_all i es le) ∙ nothing_from _ 0 (length marks) (λ d. h.first (mark_at marks d) (lookup fs d))

second_done : (f : Mark → Option ℕ → Option ℕ → ℤ) (marks : List Mark) (j : ℕ) (es fs : List Placed) → IsCommon f → length fs ≤ j → left f marks es (drop j fs) ≡ pos 0
second_done f marks j es fs h le =
    ap (λ (ys : List Placed). left f marks es ys) (drop_all j fs le) ∙ nothing_from _ 0 (length marks) (λ d. h.second (mark_at marks d) (lookup es d))

pub ended_first : (f : Mark → Option ℕ → Option ℕ → ℤ) (marks : List Mark) (a b : List ℕ) (i : ℕ) (es fs gs : List Placed) (total : ℤ) → IsCommon f → length es ≤ i → ((d : ℕ) → lookup es d ≡ rank a d) → ((d : ℕ) → lookup fs d ≡ rank b d) →
    total +ℤ left f marks (drop i es) gs ≡ left f marks es fs → total ≡ whole_sum (map (λ d. f (mark_at marks d) (rank a d) (rank b d)) (range_with_len 0 (length marks)))
ended_first f marks a b i es fs gs total h le he hf e = omega (arith, ints, first_done f marks i es gs h le, left_whole f marks a b es fs he hf, e)

pub ended_second : (f : Mark → Option ℕ → Option ℕ → ℤ) (marks : List Mark) (a b : List ℕ) (j : ℕ) (es fs gs : List Placed) (total : ℤ) → IsCommon f → length fs ≤ j → ((d : ℕ) → lookup es d ≡ rank a d) → ((d : ℕ) → lookup fs d ≡ rank b d) →
    total +ℤ left f marks gs (drop j fs) ≡ left f marks es fs → total ≡ whole_sum (map (λ d. f (mark_at marks d) (rank a d) (rank b d)) (range_with_len 0 (length marks)))
ended_second f marks a b j es fs gs total h le he hf e = omega (arith, ints, second_done f marks j gs fs h le, left_whole f marks a b es fs he hf, e)

-- ---- the sum of shares in parts
split_from : (f g h k : ℕ → ℤ) (s n : ℕ) → ((d : ℕ) → f d ≡ (g d +ℤ h d) +ℤ k d) →
    whole_sum (map f (range_with_len s n)) ≡ (whole_sum (map g (range_with_len s n)) +ℤ whole_sum (map h (range_with_len s n))) +ℤ whole_sum (map k (range_with_len s n))
split_from f g h k s zero each = refl
split_from f g h k s (suc n) each =
    let here = each s in
    let rest = split_from f g h k (s + 1) n each in
    omega (arith, ints, here, rest)

counted_from : (f : ℕ → ℤ) (g : ℕ → ℕ) (s n : ℕ) → ((d : ℕ) → f d ≡ pos (g d)) → whole_sum (map f (range_with_len s n)) ≡ pos (sum_by g (range_with_len s n))
counted_from f g s zero each = refl
counted_from f g s (suc n) each =
    let here = each s in
    let rest = counted_from f g (s + 1) n each in
    omega (arith, ints, here, rest, sum_by-cons g s (range_with_len (s + 1) n))

back : (z t : ℤ) → z ≡ t +ℤ (z -ℤ t)
back z t = omega (arith, ints)

-- what each of two ranks alone adds to a sum of shares is a weight, where an unjudged document of the one run counts or does not
pub record AreAlone (share : Option ℕ → Option ℕ → ℤ) (picked : Option ℕ → Option ℕ → Bool) (p q : Bool) (v w : Option ℕ → ℕ) : Type 0 where
  pub none_first : v None ≡ 0
  pub none_second : w None ≡ 0
  pub first : (mark : Mark) (x : Option ℕ) → share_of share picked mark x None ≡ pos (if picked_value p mark then v x else 0)
  pub second : (mark : Mark) (y : Option ℕ) → share_of share picked mark None y ≡ neg_ℤ (pos (if picked_value q mark then w y else 0))

pub in_parts : (share : Option ℕ → Option ℕ → ℤ) (picked : Option ℕ → Option ℕ → Bool) (p q : Bool) (v w : Option ℕ → ℕ) (marks : List Mark) (a b : List ℕ) → AreAlone share picked p q v w → IsRanking (length marks) a → IsRanking (length marks) b →
    sum_of share picked marks a b ≡ (pos (gained (λ r. v (Some r)) 1 (map (with_picked marks (λ _. p)) a)) -ℤ pos (gained (λ r. w (Some r)) 1 (map (with_picked marks (λ _. q)) b))) +ℤ correction_sum share picked marks a b
in_parts share picked p q v w marks a b h ra rb =
    let n = length marks in
    let one = λ (d : ℕ). share_of share picked (mark_at marks d) (rank a d) None in
    let two = λ (d : ℕ). share_of share picked (mark_at marks d) None (rank b d) in
    let gains = λ (d : ℕ). if with_picked marks (λ _. p) d then v (rank a d) else 0 in
    let losses = λ (d : ℕ). if with_picked marks (λ _. q) d then w (rank b d) else 0 in
    let parts = split_from (λ d. share_of share picked (mark_at marks d) (rank a d) (rank b d)) one two (λ d. correction share picked (mark_at marks d) (rank a d) (rank b d)) 0 n (λ d. back (share_of share picked (mark_at marks d) (rank a d) (rank b d)) (one d +ℤ two d)) in
    let first : whole_sum (map one (range_with_len 0 n)) ≡ pos (gained (λ r. v (Some r)) 1 (map (with_picked marks (λ _. p)) a)) =
    counted_from one gains 0 n (λ d. h.first (mark_at marks d) (rank a d)) ∙ ap pos (sym (gained_by_documents v h.none_first (with_picked marks (λ _. p)) 1 n a ra.distinct (recursion_from_All (λ d. d < n) a ra.within))) in
    let second : whole_sum (map two (range_with_len 0 n)) ≡ neg_ℤ (pos (gained (λ r. w (Some r)) 1 (map (with_picked marks (λ _. q)) b))) =
    swapped_from two (λ d. pos (losses d)) 0 n (λ d. h.second (mark_at marks d) (rank b d))
    ∙ ap (λ z. neg_ℤ z) (counted_from (λ d. pos (losses d)) losses 0 n (λ d. refl) ∙ ap pos (sym (gained_by_documents w h.none_second (with_picked marks (λ _. q)) 1 n b rb.distinct (recursion_from_All (λ d. d < n) b rb.within)))) in
    omega (arith, ints, parts, first, second)

pub put_together : (one two apart both total m n k whole : ℤ) → total ≡ apart +ℤ both → apart ≡ one -ℤ two → one ≡ m → two ≡ n → both ≡ k → whole ≡ (m -ℤ n) +ℤ k → total ≡ whole
put_together one two apart both total m n k whole et ea eo en eb ew = omega (arith, ints, et, ea, eo, en, eb, ew)

-- ---- what a rank alone adds
counted : (b : Bool) (z : ℤ) (w : ℕ) → z ≡ pos w → (if b then z else pos 0) ≡ pos (if b then w else 0)
counted true z w e = e
counted false z w e = refl

uncounted : (b : Bool) (z : ℤ) (w : ℕ) → z ≡ neg_ℤ (pos w) → (if b then z else pos 0) ≡ neg_ℤ (pos (if b then w else 0))
uncounted true z w e = e
uncounted false z w e = refl

low_first : (top bottom : ℕ) (x : Option ℕ) → low_share top bottom x None ≡ pos (low_weight top bottom x)
low_first top bottom None = refl
low_first top bottom (Some x) = ap pos (omega arith)

high_first : (top bottom : ℕ) (x : Option ℕ) → high_share top bottom x None ≡ pos (high_weight top bottom x)
high_first top bottom None = refl
high_first top bottom (Some x) = omega (arith, ints)

low_second : (top bottom : ℕ) (y : Option ℕ) → low_share top bottom None y ≡ neg_ℤ (pos (high_weight top bottom y))
low_second top bottom None = refl
low_second top bottom (Some y) = omega (arith, ints)

high_second : (top bottom : ℕ) (y : Option ℕ) → high_share top bottom None y ≡ neg_ℤ (pos (low_weight top bottom y))
high_second top bottom None = refl
high_second top bottom (Some y) = ap (λ n. neg_ℤ (pos n)) (omega arith)

-- in the least case an unjudged document of the first run alone does not count, and one of the second does
least_alone : (share : Option ℕ → Option ℕ → ℤ) (v w : Option ℕ → ℕ) → v None ≡ 0 → w None ≡ 0 → ((x : Option ℕ) → share x None ≡ pos (v x)) → ((y : Option ℕ) → share None y ≡ neg_ℤ (pos (w y))) → AreAlone share is_in_least false true v w
least_alone share v w nv nw f s = record {
  none_first = nv;
  none_second = nw;
  first = λ mark x. counted (picked_value false mark) (share x None) (v x) (f x);
  second = second;
}
  where
    second : (mark : Mark) (y : Option ℕ) → share_of share is_in_least mark None y ≡ neg_ℤ (pos (if picked_value true mark then w y else 0))
    second mark (Some y) = uncounted (picked_value true mark) (share None (Some y)) (w (Some y)) (s (Some y))
    second Unjudged None = omega (arith, ints, nw)
    second Relevant None = s None
    second Other None = refl

-- in the most case one of the first run does, and one of the second does not
most_alone : (share : Option ℕ → Option ℕ → ℤ) (v w : Option ℕ → ℕ) → v None ≡ 0 → w None ≡ 0 → ((x : Option ℕ) → share x None ≡ pos (v x)) → ((y : Option ℕ) → share None y ≡ neg_ℤ (pos (w y))) → AreAlone share is_in_most true false v w
most_alone share v w nv nw f s = record {
  none_first = nv;
  none_second = nw;
  first = first;
  second = λ mark y. uncounted (picked_value false mark) (share None y) (w y) (s y);
}
  where
    first : (mark : Mark) (x : Option ℕ) → share_of share is_in_most mark x None ≡ pos (if picked_value true mark then v x else 0)
    first mark (Some x) = counted (picked_value true mark) (share (Some x) None) (v (Some x)) (f (Some x))
    first Unjudged None = omega (arith, ints, nv)
    first Relevant None = f None
    first Other None = refl

pub alone_in_least_low : (top bottom : ℕ) → AreAlone (low_share top bottom) is_in_least false true (low_weight top bottom) (high_weight top bottom)
alone_in_least_low top bottom = least_alone (low_share top bottom) (low_weight top bottom) (high_weight top bottom) refl refl (low_first top bottom) (low_second top bottom)

pub alone_in_least_high : (top bottom : ℕ) → AreAlone (high_share top bottom) is_in_least false true (high_weight top bottom) (low_weight top bottom)
alone_in_least_high top bottom = least_alone (high_share top bottom) (high_weight top bottom) (low_weight top bottom) refl refl (high_first top bottom) (high_second top bottom)

pub alone_in_most_low : (top bottom : ℕ) → AreAlone (low_share top bottom) is_in_most true false (low_weight top bottom) (high_weight top bottom)
alone_in_most_low top bottom = most_alone (low_share top bottom) (low_weight top bottom) (high_weight top bottom) refl refl (low_first top bottom) (low_second top bottom)

pub alone_in_most_high : (top bottom : ℕ) → AreAlone (high_share top bottom) is_in_most true false (high_weight top bottom) (low_weight top bottom)
alone_in_most_high top bottom = most_alone (high_share top bottom) (high_weight top bottom) (low_weight top bottom) refl refl (high_first top bottom) (high_second top bottom)

pub least_low_parts : (top bottom : ℕ) (marks : List Mark) (a b : List ℕ) → IsRanking (length marks) a → IsRanking (length marks) b →
    share_sum (low_share top bottom) marks a b ≡ (pos (low_worth top bottom false marks a) -ℤ pos (high_worth top bottom true marks b)) +ℤ correction_sum (low_share top bottom) is_in_least marks a b
least_low_parts top bottom marks a b ra rb =
    in_parts (low_share top bottom) is_in_least false true (low_weight top bottom) (high_weight top bottom) marks a b (alone_in_least_low top bottom) ra rb

pub least_high_parts : (top bottom : ℕ) (marks : List Mark) (a b : List ℕ) → IsRanking (length marks) a → IsRanking (length marks) b →
    share_sum (high_share top bottom) marks a b ≡ (pos (high_worth top bottom false marks a) -ℤ pos (low_worth top bottom true marks b)) +ℤ correction_sum (high_share top bottom) is_in_least marks a b
least_high_parts top bottom marks a b ra rb =
    in_parts (high_share top bottom) is_in_least false true (high_weight top bottom) (low_weight top bottom) marks a b (alone_in_least_high top bottom) ra rb

pub most_low_parts : (top bottom : ℕ) (marks : List Mark) (a b : List ℕ) → IsRanking (length marks) a → IsRanking (length marks) b →
    sum_of (low_share top bottom) is_in_most marks a b ≡ (pos (low_worth top bottom true marks a) -ℤ pos (high_worth top bottom false marks b)) +ℤ correction_sum (low_share top bottom) is_in_most marks a b
most_low_parts top bottom marks a b ra rb =
    in_parts (low_share top bottom) is_in_most true false (low_weight top bottom) (high_weight top bottom) marks a b (alone_in_most_low top bottom) ra rb

pub most_high_parts : (top bottom : ℕ) (marks : List Mark) (a b : List ℕ) → IsRanking (length marks) a → IsRanking (length marks) b →
    sum_of (high_share top bottom) is_in_most marks a b ≡ (pos (high_worth top bottom true marks a) -ℤ pos (low_worth top bottom false marks b)) +ℤ correction_sum (high_share top bottom) is_in_most marks a b
most_high_parts top bottom marks a b ra rb =
    in_parts (high_share top bottom) is_in_most true false (high_weight top bottom) (low_weight top bottom) marks a b (alone_in_most_high top bottom) ra rb

-- ---- the swapped_tests runs
swapped_ends : (lx hx ly hy : ℕ) (b c v w : Bool) → v ≡ b → w ≡ c → (ends lx hx ly hy b c).0 ≡ neg_ℤ (ends ly hy lx hx c b).1 → (ends lx hx ly hy v w).0 ≡ neg_ℤ (ends ly hy lx hx w v).1
swapped_ends lx hx ly hy b c v w e f h = rw (e, f) h

swapped_low : (top bottom : ℕ) (x y : Option ℕ) → low_share top bottom x y ≡ neg_ℤ (high_share top bottom y x)
swapped_low top bottom x y = at (stands x y)
  where
    shown : (b c : Bool) → comes_before x y ≡ b → comes_before y x ≡ c →
        (ends (low_weight top bottom x) (high_weight top bottom x) (low_weight top bottom y) (high_weight top bottom y) b c).0 ≡ neg_ℤ (ends (low_weight top bottom y) (high_weight top bottom y) (low_weight top bottom x) (high_weight top bottom x) c b).1 →
        low_share top bottom x y ≡ neg_ℤ (high_share top bottom y x)
    shown b c e f h = swapped_ends (low_weight top bottom x) (high_weight top bottom x) (low_weight top bottom y) (high_weight top bottom y) b c (comes_before x y) (comes_before y x) e f h

    at : Standing x y → low_share top bottom x y ≡ neg_ℤ (high_share top bottom y x)
    at (ahead e f) = shown true false e f (sym (neg_twice (pos (low_weight top bottom x - high_weight top bottom y))))
    at (behind e f) = shown false true e f (omega (arith, ints))
    at (level e f g) = shown false false e f refl

swapped_high : (top bottom : ℕ) (x y : Option ℕ) → high_share top bottom x y ≡ neg_ℤ (low_share top bottom y x)
swapped_high top bottom x y = sym (neg_twice (high_share top bottom x y)) ∙ ap (λ z. neg_ℤ z) (sym (swapped_low top bottom y x))

swapped_part : (b : Bool) (y z : ℤ) → y ≡ neg_ℤ z → (if b then y else pos 0) ≡ neg_ℤ (if b then z else pos 0)
swapped_part true y z h = h
swapped_part false y z h = refl

pub most_low : (top bottom : ℕ) (marks : List Mark) (a b : List ℕ) → sum_of (low_share top bottom) is_in_most marks a b ≡ neg_ℤ (share_sum (high_share top bottom) marks b a)
most_low top bottom marks a b =
    swapped_from (λ d. share_of (low_share top bottom) is_in_most (mark_at marks d) (rank a d) (rank b d)) (λ d. share_of (high_share top bottom) is_in_least (mark_at marks d) (rank b d) (rank a d)) 0 (length marks)
    (λ d. swapped_part (picked_value (comes_before (rank a d) (rank b d)) (mark_at marks d)) (low_share top bottom (rank a d) (rank b d)) (high_share top bottom (rank b d) (rank a d)) (swapped_low top bottom (rank a d) (rank b d)))

pub most_high : (top bottom : ℕ) (marks : List Mark) (a b : List ℕ) → sum_of (high_share top bottom) is_in_most marks a b ≡ neg_ℤ (share_sum (low_share top bottom) marks b a)
most_high top bottom marks a b =
    swapped_from (λ d. share_of (high_share top bottom) is_in_most (mark_at marks d) (rank a d) (rank b d)) (λ d. share_of (low_share top bottom) is_in_least (mark_at marks d) (rank b d) (rank a d)) 0 (length marks)
    (λ d. swapped_part (picked_value (comes_before (rank a d) (rank b d)) (mark_at marks d)) (high_share top bottom (rank a d) (rank b d)) (low_share top bottom (rank b d) (rank a d)) (swapped_high top bottom (rank a d) (rank b d)))
