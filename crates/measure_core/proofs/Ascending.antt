-- Ascending lists: one with exactly the members that pass a test is what passes of all numbers.
use Rattle.std.proofs.Common.{◌≡◌, ℕ, zero, suc, ◌+◌, ◌<◌, ◌≤◌, Bool, true, false, cond, nat_eq, not, ◌&&◌, ◌||◌, List, [], ◌∷◌, refl, ap, sym, subst, ◌∙◌, arith}
use Rattle.std.specs.Prelude.{All, filter}
use Rattle.std.specs.List.{AllByRecursion, AllPairs, IsDistinct, range_with_len}
use Rattle.std.specs.List.Sorted.{IsPermutation, IsNonDecreasing}
use Rattle.std.proofs.Math.Bool.{and-false}
use Rattle.std.proofs.lemmas.Bool.Decides.{nat_tests}
use Rattle.std.proofs.lemmas.List.Elements.{All-from_recursion, recursion_from_All}
use Rattle.std.proofs.lemmas.List.Kept.{AllPairs-from_increasing}
use Rattle.std.proofs.lemmas.List.Sorted.{All-permutation, IsPermutation-sym}
use Rattle.std.proofs.lemmas.Map.Keys.{IsDistinct-IsPermutation, IsStrictlyIncreasing-from_distinct}
use Rattle.small_lemmas.proofs.Tests.{apart_below, apart_over}
use Rattle.desk_model.specs.Completion.{picked_value}
use Rattle.desk_model.specs.Mark.{is_unjudged}
use Rattle.desk_model.specs.Ranking.{is_in}
use Rattle.desk_model.specs.declared.types.Mark.{Mark}
use Rattle.desk_model.specs.declared.types.Mark.TheVariants.{Unjudged, Relevant, Other}
use Rattle.desk_model.proofs.Counts.{nat_eq-true}
use Rattle.desk_model.proofs.PrecisionEnds.{weaker, is_in_members}

-- each number is below all that follow
abbrev pub Ascend : List ℕ → Type 0
Ascend [] = Unit {0}
Ascend (x ∷ xs) = AllByRecursion (λ y. x < y) xs × Ascend xs

pairs_ascend : (xs : List ℕ) → AllPairs (λ x y. x < y) xs → Ascend xs
pairs_ascend [] h = tt
pairs_ascend (x ∷ xs) h = (recursion_from_All (λ y. x < y) xs (λ k d lt. h 0 (suc k) d (omega arith) (omega (arith, lt))), pairs_ascend xs (λ i j d lt in_range. h (suc i) (suc j) d (omega (arith, lt)) (omega (arith, in_range))))

not_below : (d : ℕ) (xs : List ℕ) → AllByRecursion (λ y. d < y) xs → is_in xs d ≡ false
not_below d [] h = refl
not_below d (x ∷ xs) h = ap (λ b. b || is_in xs d) (apart_over x d h.0) ∙ not_below d xs h.1

other_later : (x y : ℕ) (xs : List ℕ) → x < y → is_in (x ∷ xs) y ≡ is_in xs y
other_later x y xs lt = ap (λ b. b || is_in xs y) (apart_below x y lt)

above : (low x : ℕ) → low ≤ x → nat_eq x low ≡ false → low < x
above low x h e = grind (arith, nat_tests)

pub passing_are : (test : ℕ → Bool) (n low : ℕ) (xs : List ℕ) → Ascend xs → AllByRecursion (λ x. low ≤ x) xs → AllByRecursion (λ x. x < low + n) xs →
    ((x : ℕ) → low ≤ x → x < low + n → is_in xs x ≡ test x) → filter test (range_with_len low n) ≡ xs
passing_are test zero low [] up from to same = refl
passing_are test zero low (x ∷ xs) up from to same = absurd (omega (arith, from.0, to.0))
passing_are test (suc n) low [] up from to same =
    let rest = filter test (range_with_len (low + 1) n) in
    ap (λ b. cond b (low ∷ rest) rest) (sym (same low (omega arith) (omega arith))) ∙ passing_are test n (low + 1) [] tt tt tt (λ x lo hi. same x (omega (arith, lo)) (omega (arith, hi)))
passing_are test (suc n) low (x ∷ xs) up from to same =
    at (nat_eq x low) refl
    (λ is. passing_are test n (low + 1) xs up.1 (weaker (λ y. x < y) (λ y. low + 1 ≤ y) (λ y lt. omega (arith, lt, is)) xs up.0) (weaker (λ y. y < low + suc n) (λ y. y < low + 1 + n) (λ y lt. omega (arith, lt)) xs to.1)
    (λ y lo hi. sym (other_later x y xs (omega (arith, lo, is))) ∙ same y (omega (arith, lo)) (omega (arith, hi))))
    (λ lt. passing_are test n (low + 1) (x ∷ xs) up (omega (arith, lt), weaker (λ y. x < y) (λ y. low + 1 ≤ y) (λ y h. omega (arith, lt, h)) xs up.0) (weaker (λ y. y < low + suc n) (λ y. y < low + 1 + n) (λ y h. omega (arith, h)) (x ∷ xs) to)
    (λ y lo hi. same y (omega (arith, lo)) (omega (arith, hi))))
  where
    rest : List ℕ
    rest = filter test (range_with_len (low + 1) n)

    at : (b : Bool) → nat_eq x low ≡ b → (x ≡ low → rest ≡ xs) → (low < x → rest ≡ x ∷ xs) → cond (test low) (low ∷ rest) rest ≡ x ∷ xs
    at true e here later =
        let is : x ≡ low = nat_eq-true x low e in
        let passes : test low ≡ true = sym (same low (omega arith) (omega arith)) ∙ ap (λ b. b || is_in xs low) e in
        ap (λ b. cond b (low ∷ rest) rest) passes ∙ ap (λ l. low ∷ l) (here is) ∙ ap (λ z. z ∷ xs) (sym is)
    at false e here later =
        let lt : low < x = above low x from.0 e in
        let fails : test low ≡ false = sym (same low (omega arith) (omega arith)) ∙ ap (λ b. b || is_in xs low) e ∙ not_below low xs (weaker (λ y. x < y) (λ y. low < y) (λ y h. omega (arith, lt, h)) xs up.0) in
        ap (λ b. cond b (low ∷ rest) rest) fails ∙ later lt

-- ---- what passes of a list, sorted
kept_one : (P : ℕ → Type 0) (b : Bool) (x : ℕ) (xs : List ℕ) → P x → AllByRecursion P xs → AllByRecursion P (cond b (x ∷ xs) xs)
kept_one P true x xs h k = (h, k)
kept_one P false x xs h k = k

kept_all : (P : ℕ → Type 0) (test : ℕ → Bool) (xs : List ℕ) → AllByRecursion P xs → AllByRecursion P (filter test xs)
kept_all P test [] h = tt
kept_all P test (x ∷ xs) h = kept_one P (test x) x (filter test xs) h.0 (kept_all P test xs h.1)

one_distinct : (b : Bool) (x : ℕ) (xs : List ℕ) → AllByRecursion (λ y. nat_eq x y ≡ false) xs → IsDistinct nat_eq xs → IsDistinct nat_eq (cond b (x ∷ xs) xs)
unfolding IsDistinct
one_distinct true x xs h k = (h, k)
one_distinct false x xs h k = k

kept_distinct : (test : ℕ → Bool) (xs : List ℕ) → IsDistinct nat_eq xs → IsDistinct nat_eq (filter test xs)
unfolding IsDistinct
kept_distinct test [] h = h
kept_distinct test (x ∷ xs) h = one_distinct (test x) x (filter test xs) (kept_all (λ y. nat_eq x y ≡ false) test xs h.0) (kept_distinct test xs h.1)

in_kept : (test : ℕ → Bool) (xs : List ℕ) (d : ℕ) → is_in (filter test xs) d ≡ (is_in xs d && test d)
in_kept test [] d = refl
in_kept test (x ∷ xs) d = at (test x) (nat_eq x d) refl refl (in_kept test xs d)
  where
    at : (b e : Bool) → test x ≡ b → nat_eq x d ≡ e → is_in (filter test xs) d ≡ (is_in xs d && test d) → is_in (cond (test x) (x ∷ filter test xs) (filter test xs)) d ≡ ((nat_eq x d || is_in xs d) && test d)
    at true true t h others =
        let passes : test d ≡ true = ap test (sym (nat_eq-true x d h)) ∙ t in
        ap (λ b. is_in (cond b (x ∷ filter test xs) (filter test xs)) d) t ∙ ap (λ c. c || is_in (filter test xs) d) h ∙ sym (ap (λ c. (c || is_in xs d) && test d) h ∙ passes)
    at true false t h others = ap (λ b. is_in (cond b (x ∷ filter test xs) (filter test xs)) d) t ∙ ap (λ c. c || is_in (filter test xs) d) h ∙ others ∙ sym (ap (λ c. (c || is_in xs d) && test d) h)
    at false true t h others =
        let fails : test d ≡ false = ap test (sym (nat_eq-true x d h)) ∙ t in
        ap (λ b. is_in (cond b (x ∷ filter test xs) (filter test xs)) d) t ∙ others ∙ ap (λ c. is_in xs d && c) fails ∙ and-false (is_in xs d) ∙ sym (ap (λ c. (c || is_in xs d) && test d) h ∙ fails)
    at false false t h others = ap (λ b. is_in (cond b (x ∷ filter test xs) (filter test xs)) d) t ∙ others ∙ sym (ap (λ c. (c || is_in xs d) && test d) h)

has_member : (P : ℕ → Type 0) (xs : List ℕ) (d : ℕ) → AllByRecursion P xs → is_in xs d ≡ true → P d
has_member P [] d h e = absurd (cc)
has_member P (x ∷ xs) d h e = at (nat_eq x d) refl (has_member P xs d h.1)
  where
    at : (b : Bool) → nat_eq x d ≡ b → (is_in xs d ≡ true → P d) → P d
    at true t others = subst P (nat_eq-true x d t) h.0
    at false t others = others (sym (ap (λ c. c || is_in xs d) t) ∙ e)

stays_in : (xs ys : List ℕ) (d : ℕ) → IsPermutation xs ys → is_in xs d ≡ true → is_in ys d ≡ true
stays_in xs ys d moved =
    has_member (λ x. is_in ys x ≡ true) xs d (recursion_from_All (λ x. is_in ys x ≡ true) xs (All-permutation (λ x. is_in ys x ≡ true) ys xs (IsPermutation-sym xs ys moved) (All-from_recursion (λ x. is_in ys x ≡ true) ys (is_in_members ys))))

both_ways : (b c : Bool) → (b ≡ true → c ≡ true) → (c ≡ true → b ≡ true) → b ≡ c
both_ways true c h k = sym (h refl)
both_ways false true h k = k refl
both_ways false false h k = refl

same_members : (xs ys : List ℕ) (d : ℕ) → IsPermutation xs ys → is_in ys d ≡ is_in xs d
same_members xs ys d moved = both_ways (is_in ys d) (is_in xs d) (stays_in ys xs d (IsPermutation-sym xs ys moved)) (stays_in xs ys d moved)

flips : (x y : ℕ) → nat_eq x y ≡ nat_eq y x
flips x y = grind (arith, nat_tests)

-- different numbers below n that pass a test, sorted, are all those that pass another where both tests agree
pub sorted_are : (keep test : ℕ → Bool) (n : ℕ) (xs ys : List ℕ) → IsDistinct nat_eq xs → AllByRecursion (λ x. x < n) xs → IsPermutation (filter keep xs) ys → IsNonDecreasing ys →
    ((x : ℕ) → (is_in xs x && keep x) ≡ test x) → filter test (range_with_len 0 n) ≡ ys
sorted_are keep test n xs ys distinct within moved sorted same =
    let kept = filter keep xs in
    let differ : IsDistinct nat_eq ys = IsDistinct-IsPermutation nat_eq flips kept ys moved (kept_distinct keep xs distinct) in
    let up = pairs_ascend ys (AllPairs-from_increasing ys (IsStrictlyIncreasing-from_distinct ys sorted differ)) in
    let below : All (λ x. x < n) ys = All-permutation (λ x. x < n) kept ys moved (All-from_recursion (λ x. x < n) kept (kept_all (λ x. x < n) keep xs within)) in
    let bounded : AllByRecursion (λ x. x < n) ys = recursion_from_All (λ x. x < n) ys below in
    passing_are test n 0 ys up (weaker (λ x. x < n) (λ x. 0 ≤ x) (λ x lt. omega arith) ys bounded) (weaker (λ x. x < n) (λ x. x < 0 + n) (λ x lt. omega (arith, lt)) ys bounded)
    (λ x lo hi. same_members kept ys x moved ∙ in_kept keep xs x ∙ same x)

-- an unjudged document of the second run's first k that the first run's first k lack
pub own_test : (i j : Bool) (m : Mark) → (j && (is_unjudged m && not i)) ≡ (is_unjudged m && picked_value (j && not i) m)
own_test i j Unjudged = refl
own_test i true Relevant = refl
own_test i false Relevant = refl
own_test i true Other = refl
own_test i false Other = refl
