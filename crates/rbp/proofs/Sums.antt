-- Sums of weights over the ranks of a run, one more rank at a time, and by the marks of the documents.
use Rattle.std.proofs.Common.{◌≡◌, ◌≢◌, ℕ, ◌+◌, ◌*◌, ◌^◌, ◌<◌, ◌≤◌, Bool, true, false, nat_eq, List, [], ◌∷◌, ◌++◌, map, length, take, get_or, set, Some, arith, refl, ap, ◌∙◌, sym}
use Rattle.std.specs.Prelude.{if◌then◌else◌}
use Rattle.std.proofs.lemmas.Bool.Decides.{nat_tests}
use Rattle.std.proofs.lemmas.Grind.{get_or-set_at}
use Rattle.std.proofs.lemmas.List.{take_more, map-append, length-map, length-take, take_all, get_or-set_other}
use Rattle.desk_model.specs.Completion.{picked_value, with_picked}
use Rattle.desk_model.specs.Mark.{mark_at}
use Rattle.desk_model.specs.Score.{gained}
use Rattle.desk_model.proofs.Counts.{nat_eq-true}
use Rattle.measure_laws.specs.Powers.{low_weight, high_weight}
use Rattle.measure_laws.proofs.Biased.{gained-append}
use Rattle.measure_laws.proofs.BiasedSizes.{low_weights_sum, high_weights_sum}
use Rattle.measure_laws.proofs.Weights.{low_power-most, high_power-most}
use Rattle.rbp.specs.Walk.{number_of}
use Rattle.desk_model.specs.declared.types.Mark.{Mark}
use Rattle.desk_model.specs.declared.types.Mark.TheVariants.{Unjudged, Relevant, Other}

prefix_length : (p : ℕ) (docs : List ℕ) → p < length docs → length (take p docs) ≡ p
prefix_length p docs h = omega (arith, length-take p docs)

pub gained_more : (W : ℕ → ℕ) (t : ℕ → Bool) (p d : ℕ) (docs : List ℕ) → p < length docs → d ≡ get_or docs p 0 →
    gained W 1 (map t (take (p + 1) docs)) ≡ gained W 1 (map t (take p docs)) + (if t d then W (p + 1) else 0)
gained_more W t p d docs lt e =
    let longer : take (p + 1) docs ≡ take p docs ++ d ∷ [] = take_more docs p 0 lt ∙ ap (λ x. take p docs ++ x ∷ []) (sym e) in
    let split : map t (take p docs ++ d ∷ []) ≡ map t (take p docs) ++ t d ∷ [] = map-append t (take p docs) (d ∷ []) in
    let same : length (map t (take p docs)) ≡ length (take p docs) = simp length-map refl in
    let place : 1 + length (map t (take p docs)) ≡ p + 1 = omega (arith, same, prefix_length p docs lt) in
    let last : gained W (1 + length (map t (take p docs))) (t d ∷ []) ≡ (if t d then W (p + 1) else 0) + 0 = ap (λ n. gained W n (t d ∷ [])) place in
    omega (arith, ap (λ xs. gained W 1 (map t xs)) longer, ap (gained W 1) split, gained-append W 1 (map t (take p docs)) (t d ∷ []), last)

-- ---- a sum for each mark
entered_same : (W : ℕ → ℕ) (t : ℕ → Bool) (p d x y : ℕ) (docs : List ℕ) (b : Bool) → p < length docs → d ≡ get_or docs p 0 → t d ≡ b → y ≡ x + (if b then W (p + 1) else 0) → x ≡ gained W 1 (map t (take p docs)) → y ≡ gained W 1 (map t (take (p + 1) docs))
entered_same W t p d x y docs b lt e tb ey ex =
    let here : (if t d then W (p + 1) else 0) ≡ (if b then W (p + 1) else 0) = ap (λ v. if v then W (p + 1) else 0) tb in
    omega (arith, gained_more W t p d docs lt e, here, ey, ex)

differ : (i j : ℕ) → nat_eq i j ≡ false → i ≢ j
differ i j f g = grind (arith, nat_tests)

pub entered : (W : ℕ → ℕ) (num : ℕ → ℕ) (p d m k : ℕ) (docs xs : List ℕ) → p < length docs → d ≡ get_or docs p 0 → m ≡ num d → m < length xs →
    get_or xs k 0 ≡ gained W 1 (map (λ doc. nat_eq (num doc) k) (take p docs)) →
    get_or (set xs m (get_or xs m 0 + W (p + 1))) k 0 ≡ gained W 1 (map (λ doc. nat_eq (num doc) k) (take (p + 1) docs))
entered W num p d m k docs xs lt e em within ex = at (nat_eq (num d) k) refl
  where
    at : (b : Bool) → nat_eq (num d) k ≡ b → get_or (set xs m (get_or xs m 0 + W (p + 1))) k 0 ≡ gained W 1 (map (λ doc. nat_eq (num doc) k) (take (p + 1) docs))
    at true t =
        let same : k ≡ m = sym (em ∙ nat_eq-true (num d) k t) in
        let read : get_or (set xs m (get_or xs m 0 + W (p + 1))) k 0 ≡ get_or xs m 0 + W (p + 1) = get_or-set_at xs m k (get_or xs m 0 + W (p + 1)) 0 same within in
        let value : get_or xs m 0 ≡ get_or xs k 0 = ap (λ i. get_or xs i 0) (sym same) in
        entered_same W (λ doc. nat_eq (num doc) k) p d (get_or xs k 0) _ docs true lt e t (read ∙ ap (λ v. v + W (p + 1)) value) ex
    at false t =
        let read : get_or (set xs m (get_or xs m 0 + W (p + 1))) k 0 ≡ get_or xs k 0 = get_or-set_other xs m k (get_or xs m 0 + W (p + 1)) 0 (λ same. differ (num d) k t (sym em ∙ sym same)) in
        entered_same W (λ doc. nat_eq (num doc) k) p d (get_or xs k 0) _ docs false lt e t (omega (arith, read)) ex

-- the relevant documents are those with the number 1, and the possible ones have 0 or 1
gained_agree : (W : ℕ → ℕ) (t u : ℕ → Bool) (s : ℕ) (docs : List ℕ) → ((d : ℕ) → t d ≡ u d) → gained W s (map t docs) ≡ gained W s (map u docs)
gained_agree W t u s [] h = refl
gained_agree W t u s (d ∷ docs) h = omega (arith, ap (λ b. if b then W s else 0) (h d), gained_agree W t u (s + 1) docs h)

gained_both : (W : ℕ → ℕ) (t u v : ℕ → Bool) (s : ℕ) (docs : List ℕ) → ((d n : ℕ) → (if t d then n else 0) + (if u d then n else 0) ≡ (if v d then n else 0)) → gained W s (map t docs) + gained W s (map u docs) ≡ gained W s (map v docs)
gained_both W t u v s [] h = refl
gained_both W t u v s (d ∷ docs) h = omega (arith, h d (W s), gained_both W t u v (s + 1) docs h)

relevant_number : (m : Mark) → nat_eq (number_of m) 1 ≡ picked_value false m
relevant_number Unjudged = refl
relevant_number Relevant = refl
relevant_number Other = refl

possible_number : (m : Mark) (n : ℕ) → (if nat_eq (number_of m) 0 then n else 0) + (if nat_eq (number_of m) 1 then n else 0) ≡ (if picked_value true m then n else 0)
possible_number Unjudged n = omega arith
possible_number Relevant n = omega arith
possible_number Other n = refl

relevant_worth : (W : ℕ → ℕ) (marks : List Mark) (docs : List ℕ) → gained W 1 (map (λ doc. nat_eq (number_of (mark_at marks doc)) 1) docs) ≡ gained W 1 (map (with_picked marks (λ _. false)) docs)
relevant_worth W marks docs = gained_agree W _ _ 1 docs (λ d. relevant_number (mark_at marks d))

possible_worth : (W : ℕ → ℕ) (marks : List Mark) (docs : List ℕ) →
    gained W 1 (map (λ doc. nat_eq (number_of (mark_at marks doc)) 0) docs) + gained W 1 (map (λ doc. nat_eq (number_of (mark_at marks doc)) 1) docs) ≡ gained W 1 (map (with_picked marks (λ _. true)) docs)
possible_worth W marks docs = gained_both W _ _ _ 1 docs (λ d n. possible_number (mark_at marks d) n)

pub relevant_sum : (W : ℕ → ℕ) (marks : List Mark) (docs : List ℕ) (p x : ℕ) → length docs ≤ p → x ≡ gained W 1 (map (λ doc. nat_eq (number_of (mark_at marks doc)) 1) (take p docs)) → x ≡ gained W 1 (map (with_picked marks (λ _. false)) docs)
relevant_sum W marks docs p x all e = e ∙ ap (λ ds. gained W 1 (map (λ doc. nat_eq (number_of (mark_at marks doc)) 1) ds)) (take_all p docs all) ∙ relevant_worth W marks docs

pub possible_sum : (W : ℕ → ℕ) (marks : List Mark) (docs : List ℕ) (p x y : ℕ) → length docs ≤ p →
    x ≡ gained W 1 (map (λ doc. nat_eq (number_of (mark_at marks doc)) 0) (take p docs)) → y ≡ gained W 1 (map (λ doc. nat_eq (number_of (mark_at marks doc)) 1) (take p docs)) → x + y ≡ gained W 1 (map (with_picked marks (λ _. true)) docs)
possible_sum W marks docs p x y all ex ey =
    let whole = take_all p docs all in
    let first = ap (λ ds. gained W 1 (map (λ doc. nat_eq (number_of (mark_at marks doc)) 0) ds)) whole in
    let second = ap (λ ds. gained W 1 (map (λ doc. nat_eq (number_of (mark_at marks doc)) 1) ds)) whole in
    omega (arith, ex, ey, first, second, possible_worth W marks docs)

pub number_small : (m : Mark) → number_of m < 3
number_small Unjudged = omega arith
number_small Relevant = omega arith
number_small Other = omega arith

-- no sum of weights is much above a whole
pub low_sum_small : (top bottom : ℕ) (t : ℕ → Bool) (docs : List ℕ) → top < bottom → gained (λ rank. low_weight top bottom (Some rank)) 1 (map t docs) ≤ 2 * 10 ^ 18
low_sum_small top bottom t docs below = omega (arith, low_weights_sum top bottom 0 (map t docs) (omega arith) (omega arith), low_power-most top bottom 0 (omega arith))

pub high_sum_small : (top bottom : ℕ) (t : ℕ → Bool) (docs : List ℕ) → top < bottom → length docs ≤ 10000 → gained (λ rank. high_weight top bottom (Some rank)) 1 (map t docs) ≤ 2 * 10 ^ 18
high_sum_small top bottom t docs below few = omega (arith, high_weights_sum top bottom 0 (map t docs) (omega arith) (omega arith), high_power-most top bottom 0 (omega arith) (omega arith), length-map docs t)
