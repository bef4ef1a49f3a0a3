-- Sums over lists of documents are sums over documents of how often the lists have them.
use Rattle.std.proofs.Common.{◌≡◌, ℕ, zero, suc, ◌+◌, ◌*◌, ◌<◌, ◌≤◌, nat_eq, Bool, true, false, cond, List, [], ◌∷◌, ◌++◌, length, map, refl, ap, sym, ◌∙◌, arith}
use Rattle.std.specs.Prelude.{All, ◌&&◌, ◌||◌, nat_lt, filter}
use Rattle.std.specs.List.{AllByRecursion, range_with_len, sum_by}
use Rattle.std.proofs.lemmas.Bool.Decides.{nat_tests}
use Rattle.std.proofs.lemmas.List.Elements.{All-map}
use Rattle.std.proofs.lemmas.List.Folds.{list_any-append}
use Rattle.std.proofs.lemmas.List.Sums.{sum_by-cons}
use Rattle.small_lemmas.proofs.Lists.{all-append}
use Rattle.desk_model.specs.Desk.{Desk}
use Rattle.desk_model.specs.Mark.{is_unjudged, mark_at}
use Rattle.desk_model.specs.Order.{Topic}
use Rattle.desk_model.specs.Ranking.{is_in}
use Rattle.desk_model.specs.declared.types.Mark.{Mark}
use Rattle.desk_model.specs.declared.types.MeasureName.{MeasureName}
use Rattle.measure_laws.specs.Cases.{least_truth}
use Rattle.measure_core.specs.Lists.{times}
use Rattle.measure_core.specs.PairLists.{pair_documents, sizes_on, IsOfRuns}
use Rattle.measure_core.proofs.Tallying.{added_below, times-append, times-cons}
use Rattle.order_bundle.specs.declared.bundle.Picks.{Picks}
use Rattle.table_bundle.specs.Drafts.{case_picks, has_picked, picks_on, runs_of, IsRunPair}
use Rattle.table_bundle.specs.Lengths.{all_picks, both_lists, heads_length, is_on, lists_on, sizes_length, topic_with}
use Rattle.table_bundle.specs.declared.pairs.NamedPair.{NamedPair}

-- ---- sums
pub sum_by-plus : {X : Type 0} (f g : X → ℕ) (xs : List X) → sum_by (λ x. f x + g x) xs ≡ sum_by f xs + sum_by g xs
sum_by-plus f g [] = refl
sum_by-plus f g (x ∷ xs) = omega (arith, sum_by-cons (λ y. f y + g y) x xs, sum_by-cons f x xs, sum_by-cons g x xs, sum_by-plus f g xs)

pub sum_by-same : {X : Type 0} (f g : X → ℕ) (xs : List X) → AllByRecursion (λ x. f x ≡ g x) xs → sum_by f xs ≡ sum_by g xs
sum_by-same f g [] h = refl
sum_by-same f g (x ∷ xs) h = omega (arith, sum_by-cons f x xs, sum_by-cons g x xs, sum_by-same f g xs h.1, h.0)

pub sum_by-none : {X : Type 0} (f : X → ℕ) (xs : List X) → ((x : X) → f x ≡ 0) → sum_by f xs ≡ 0
sum_by-none f [] h = refl
sum_by-none f (x ∷ xs) h = omega (arith, sum_by-cons f x xs, sum_by-none f xs h, h x)

-- ---- one document among all
at_later : (f : ℕ → ℕ) (x a n : ℕ) → x < a → sum_by (λ d. cond (nat_eq x d) 1 0 * f d) (range_with_len a n) ≡ 0
at_later f x a zero lt = refl
at_later f x a (suc n) lt =
    let other : nat_eq x a ≡ false = grind (arith, nat_tests) in
    let here : cond (nat_eq x a) 1 0 * f a ≡ 0 = ap (λ (b : Bool). cond b 1 0 * f a) other ∙ omega arith in
    omega (arith, sum_by-cons (λ d. cond (nat_eq x d) 1 0 * f d) a (range_with_len (a + 1) n), here, at_later f x (a + 1) n (omega (arith, lt)))

at_one : (f : ℕ → ℕ) (x a n : ℕ) → a ≤ x → x < a + n → sum_by (λ d. cond (nat_eq x d) 1 0 * f d) (range_with_len a n) ≡ f x
at_one f x a zero from to = absurd (omega arith)
at_one f x a (suc n) from to = go (nat_eq x a) refl (λ apart. at_one f x (a + 1) n (omega (arith, apart)) (omega (arith, to)))
  where
    step : sum_by (λ d. cond (nat_eq x d) 1 0 * f d) (range_with_len a (suc n)) ≡ cond (nat_eq x a) 1 0 * f a + sum_by (λ d. cond (nat_eq x d) 1 0 * f d) (range_with_len (a + 1) n)
    step = sum_by-cons (λ d. cond (nat_eq x d) 1 0 * f d) a (range_with_len (a + 1) n)

    go : (b : Bool) → nat_eq x a ≡ b → (a < x → sum_by (λ d. cond (nat_eq x d) 1 0 * f d) (range_with_len (a + 1) n) ≡ f x) → sum_by (λ d. cond (nat_eq x d) 1 0 * f d) (range_with_len a (suc n)) ≡ f x
    go true is rest =
        let same : x ≡ a = grind (arith, nat_tests) in
        let here : cond (nat_eq x a) 1 0 * f a ≡ f x = ap (λ (b : Bool). cond b 1 0 * f a) is ∙ (omega (arith, ap f same)) in
        omega (arith, step, here, at_later f x (a + 1) n (omega (arith, same)))
    go false is rest =
        let apart : a < x = grind (arith, nat_tests) in
        let here : cond (nat_eq x a) 1 0 * f a ≡ 0 = ap (λ (b : Bool). cond b 1 0 * f a) is ∙ omega arith in
        omega (arith, step, here, rest apart)

-- ---- sums over lists, and over all documents
-- the exchange: a sum over lists is a sum over all documents, each as often as the lists have it
pub exchanged : (f : ℕ → ℕ) (n : ℕ) (docs : List ℕ) → AllByRecursion (λ d. d < n) docs → sum_by (λ d. times docs d * f d) (range_with_len 0 n) ≡ sum_by f docs
exchanged f n [] h = sum_by-none (λ d. times [] d * f d) (range_with_len 0 n) (λ d. omega arith)
exchanged f n (x ∷ docs) h =
    let split : sum_by (λ d. times (x ∷ docs) d * f d) (range_with_len 0 n) ≡ sum_by (λ d. cond (nat_eq x d) 1 0 * f d + times docs d * f d) (range_with_len 0 n) =
    sum_by-every (λ d. times (x ∷ docs) d * f d) (λ d. cond (nat_eq x d) 1 0 * f d + times docs d * f d) (range_with_len 0 n) (λ d. ap (λ (m : ℕ). m * f d) (times-cons x docs d) ∙ both (cond (nat_eq x d) 1 0) (times docs d) (f d)) in
    omega (arith, split, sum_by-plus (λ d. cond (nat_eq x d) 1 0 * f d) (λ d. times docs d * f d) (range_with_len 0 n), at_one f x 0 n (omega arith) (omega (arith, h.0)), exchanged f n docs h.1, sum_by-cons f x docs)
  where
    both : (a b c : ℕ) → (a + b) * c ≡ a * c + b * c
    both a b c = omega arith

    sum_by-every : (g h : ℕ → ℕ) (xs : List ℕ) → ((d : ℕ) → g d ≡ h d) → sum_by g xs ≡ sum_by h xs
    sum_by-every g h [] e = refl
    sum_by-every g h (y ∷ xs) e = omega (arith, sum_by-cons g y xs, sum_by-cons h y xs, sum_by-every g h xs e, e y)

-- ---- a document is in lists exactly where they have it some times
some_of_both : (a b : ℕ) → nat_lt 0 (a + b) ≡ (nat_lt 0 a || nat_lt 0 b)
some_of_both zero b = ap (nat_lt 0) (omega arith)
some_of_both (suc a) b = grind (arith, nat_tests)

in_some_times : (docs : List ℕ) (d : ℕ) → is_in docs d ≡ nat_lt 0 (times docs d)
in_some_times [] d = refl
in_some_times (x ∷ docs) d =
    ap (λ b. nat_eq x d || b) (in_some_times docs d) ∙ ap (λ b. b || nat_lt 0 (times docs d)) (one (nat_eq x d)) ∙ sym (some_of_both (cond (nat_eq x d) 1 0) (times docs d)) ∙ sym (ap (nat_lt 0) (times-cons x docs d))
  where
    one : (b : Bool) → b ≡ nat_lt 0 (cond b 1 0)
    one true = refl
    one false = refl

pub on_some_times : (lists : List Picks) (d : ℕ) → is_on lists d ≡ nat_lt 0 (times (all_picks lists) d)
on_some_times [] d = refl
on_some_times (p ∷ lists) d =
    ap (λ b. has_picked p d || b) (on_some_times lists d)
    ∙ ap (λ b. b || nat_lt 0 (times (all_picks lists) d)) (sym (list_any-append (λ each. nat_eq each d) p.low p.high) ∙ in_some_times (both_lists p) d)
    ∙ sym (some_of_both (times (both_lists p) d) (times (all_picks lists) d)) ∙ sym (ap (nat_lt 0) (times-append (both_lists p) (all_picks lists) d))

abbrev one_if : Bool → ℕ
one_if b = cond b 1 0

-- ---- a list of chosen documents has each once at most
chosen_later : (p : ℕ → Bool) (d a n : ℕ) → d < a → times (filter p (range_with_len a n)) d ≡ 0
chosen_later p d a zero lt = refl
chosen_later p d a (suc n) lt = go (p a) (chosen_later p d (a + 1) n (omega (arith, lt)))
  where
    go : (b : Bool) → times (filter p (range_with_len (a + 1) n)) d ≡ 0 → times (cond b (a ∷ filter p (range_with_len (a + 1) n)) (filter p (range_with_len (a + 1) n))) d ≡ 0
    go true rest =
        let other : nat_eq a d ≡ false = grind (arith, nat_tests) in
        let none : one_if (nat_eq a d) ≡ 0 = ap one_if other in
        omega (arith, times-cons a (filter p (range_with_len (a + 1) n)) d, none, rest)
    go false rest = rest

chosen_once : (p : ℕ → Bool) (d a n : ℕ) → times (filter p (range_with_len a n)) d ≤ 1
chosen_once p d a zero = omega arith
chosen_once p d a (suc n) = go (p a) (chosen_once p d (a + 1) n)
  where
    first : (b : Bool) → nat_eq a d ≡ b → times (filter p (range_with_len (a + 1) n)) d ≤ 1 → times (a ∷ filter p (range_with_len (a + 1) n)) d ≤ 1
    first true is rest =
        let same : a ≡ d = grind (arith, nat_tests) in
        let one : one_if (nat_eq a d) ≡ 1 = ap one_if is in
        omega (arith, times-cons a (filter p (range_with_len (a + 1) n)) d, one, chosen_later p d (a + 1) n (omega (arith, same)))
    first false is rest =
        let none : one_if (nat_eq a d) ≡ 0 = ap one_if is in
        omega (arith, times-cons a (filter p (range_with_len (a + 1) n)) d, none, rest)

    go : (b : Bool) → times (filter p (range_with_len (a + 1) n)) d ≤ 1 → times (cond b (a ∷ filter p (range_with_len (a + 1) n)) (filter p (range_with_len (a + 1) n))) d ≤ 1
    go true rest = first (nat_eq a d) refl rest
    go false rest = rest

pub both_twice : (measure : MeasureName) (marks : List Mark) (a b : List ℕ) (d : ℕ) → times (both_lists (case_picks measure marks a b)) d ≤ 2
both_twice measure marks a b d =
    let picks = case_picks measure marks a b in
    omega (arith, times-append picks.low picks.high d, chosen_once (λ doc. is_unjudged (mark_at marks doc) && least_truth measure marks a b doc) d 0 (length marks), chosen_once (λ doc. is_unjudged (mark_at marks doc) && least_truth measure marks b a doc) d 0 (length marks))

-- the lists of pairs have each document twice a pair at most
pub few_times : (measure : MeasureName) (topic : Topic) (pairs : List NamedPair) (d : ℕ) → times (all_picks (lists_on measure pairs topic)) d ≤ 2 * length pairs
few_times measure topic [] d = omega arith
few_times measure topic (p ∷ pairs) d =
    omega (arith, times-append (both_lists (picks_on measure p.first p.second topic)) (all_picks (lists_on measure pairs topic)) d, both_twice measure topic.marks (topic.ranking p.first) (topic.ranking p.second) d, few_times measure topic pairs d)

-- ---- and documents of the topic alone
pub picks_below : (measure : MeasureName) (topic : Topic) (pairs : List NamedPair) → AllByRecursion (λ d. d < length topic.marks) (all_picks (lists_on measure pairs topic))
picks_below measure topic [] = tt
picks_below measure topic (p ∷ pairs) =
    let picks = picks_on measure p.first p.second topic in
    let below : ℕ → Type 0 = λ d. d < length topic.marks in
    all-append below (both_lists picks) (all_picks (lists_on measure pairs topic))
    (all-append below picks.low picks.high (added_below topic.marks (least_truth measure topic.marks (topic.ranking p.first) (topic.ranking p.second))) (added_below topic.marks (least_truth measure topic.marks (topic.ranking p.second) (topic.ranking p.first))))
    (picks_below measure topic pairs)

-- ---- pairs by their runs alone
pub runs_within : (runs : ℕ) (pairs : List NamedPair) → All (IsRunPair runs) pairs → All (IsOfRuns runs) (map runs_of pairs)
runs_within runs pairs within = All-map (IsOfRuns runs) runs_of pairs (λ k d lt. let both = within k d lt in record { first = both.first; second = both.second })

module _ (measure : MeasureName) (desk : Desk) (t : ℕ) (marks : List Mark) where
  pub picks_are : (pairs : List NamedPair) → pair_documents measure marks (record { desk = desk; topic = t }) (map runs_of pairs) ≡ all_picks (lists_on measure pairs (topic_with desk t marks))
  picks_are [] = refl
  picks_are (p ∷ pairs) = ap (λ l. both_lists (picks_on measure p.first p.second (topic_with desk t marks)) ++ l) (picks_are pairs)

  pub heads_are : (pairs : List NamedPair) → sum_by sizes_length (map (sizes_on measure marks (record { desk = desk; topic = t })) (map runs_of pairs)) ≡ sum_by heads_length (lists_on measure pairs (topic_with desk t marks))
  heads_are [] = refl
  heads_are (p ∷ pairs) =
      let made = sizes_on measure marks (record { desk = desk; topic = t }) in
      omega (
        arith,
        sum_by-cons sizes_length (made (runs_of p)) (map made (map runs_of pairs)),
        sum_by-cons heads_length (picks_on measure p.first p.second (topic_with desk t marks)) (lists_on measure pairs (topic_with desk t marks)),
        heads_are pairs,
      )
