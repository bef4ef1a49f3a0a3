-- From documents to places: a completion along a ranking, the candidates along it, and how many documents are true in all.
use Rattle.std.proofs.Common.{◌≡◌, ℕ, zero, suc, ◌+◌, ◌-◌, ◌<◌, ◌≤◌, Bool, true, false, cond, not, ◌&&◌, ◌||◌, nat_eq, List, [], ◌∷◌, length, map, take, drop, count_by, ap, refl, sym, subst, ◌∙◌, arith}
use Rattle.std.specs.Prelude.{filter}
use Rattle.std.specs.List.{AllZip, AllByRecursion, IsDistinct, range_with_len}
use Rattle.std.proofs.lemmas.Bool.{eq-eqb}
use Rattle.std.proofs.lemmas.List.Elements.{recursion_from_All}
use Rattle.desk_model.specs.Completion.{Allows, Completes, picked_value, with_picked}
use Rattle.desk_model.specs.Mark.{is_unjudged, mark_at}
use Rattle.desk_model.specs.Ranking.{IsRanking, is_in}
use Rattle.desk_model.specs.Score.{true_count}
use Rattle.desk_model.specs.declared.types.Mark.{Mark}
use Rattle.desk_model.specs.declared.types.Mark.TheVariants.{Unjudged, Relevant, Other}
use Rattle.desk_model.proofs.Counts.{one_if, count_by-cons, count_by-split, count_by-swap, count_by-weaker, count_by-agree, not_in}
use Rattle.desk_model.proofs.Completions.{allowed_least, allowed_most}
use Rattle.desk_model.proofs.PrecisionEnds.{weaker, is_in_members}
use Rattle.small_lemmas.proofs.Tests.{neither}
use Rattle.measure_laws.proofs.RecallEnds.{IsDistinct-range, in_range, range_below}
use Rattle.desk_model.specs.Precisions.{true_ranks}
use Rattle.measure_laws.specs.Candidates.{open_docs, high_truth, low_truth}
use Rattle.measure_laws.proofs.Earliest.{opens, taken, left, first_gains, last_gains}

-- the marks along a ranking
abbrev pub along : List Mark → List ℕ → List Mark
along marks docs = map (mark_at marks) docs

pub allowed_along : (marks : List Mark) (truth : ℕ → Bool) (docs : List ℕ) → AllByRecursion (λ d. d < length marks) docs → Completes marks truth → AllZip Allows (along marks docs) (map truth docs)
allowed_along marks truth [] w c = tt
allowed_along marks truth (d ∷ ds) w c = (c d w.0, allowed_along marks truth ds w.1 c)

-- ---- counts
abbrev trues : List Bool → ℕ
trues [] = 0
trues (true ∷ gs) = suc (trues gs)
trues (false ∷ gs) = trues gs

trues-cons : (b : Bool) (gs : List Bool) → trues (b ∷ gs) ≡ one_if b + trues gs
trues-cons true gs = omega arith
trues-cons false gs = omega arith

ranks_length : (n : ℕ) (gs : List Bool) → length (true_ranks n gs) ≡ trues gs
ranks_length n [] = refl
ranks_length n (true ∷ gs) = ap suc (ranks_length (n + 1) gs)
ranks_length n (false ∷ gs) = ranks_length (n + 1) gs

trues_map : (p : ℕ → Bool) (docs : List ℕ) → trues (map p docs) ≡ count_by p docs
trues_map p [] = refl
trues_map p (d ∷ ds) = omega (arith, trues-cons (p d) (map p ds), count_by-cons p d ds, trues_map p ds)

pub ranks_counted : (n : ℕ) (p : ℕ → Bool) (docs : List ℕ) → length (true_ranks n (map p docs)) ≡ count_by p docs
ranks_counted n p docs = ranks_length n (map p docs) ∙ trues_map p docs

and_true_is : (b c : Bool) → c ≡ true → (b && c) ≡ b
and_true_is true true h = refl
and_true_is false true h = refl
and_true_is b false h = absurd (cc)

-- the true documents of a universe are those of a ranking and those that it lacks
abbrev pub lacking : (ℕ → Bool) → ℕ → List ℕ → ℕ
lacking p n docs = count_by (λ d. p d && not (is_in docs d)) (range_with_len 0 n)

pub count_parts : (p : ℕ → Bool) (n : ℕ) (docs : List ℕ) → IsRanking n docs → true_count p n ≡ count_by p docs + lacking p n docs
count_parts p n docs r =
    let inside : count_by (λ d. p d && is_in (range_with_len 0 n) d) docs ≡ count_by p docs =
    count_by-agree (λ d. p d && is_in (range_with_len 0 n) d) p docs
    (weaker (λ d. d < n) _ (λ d h. and_true_is (p d) (is_in (range_with_len 0 n) d) (in_range 0 n d (omega arith) (omega (arith, h)))) docs (recursion_from_All (λ d. d < n) docs r.within)) in
    omega (arith, count_by-split p (is_in docs) (range_with_len 0 n), count_by-swap p (range_with_len 0 n) docs (IsDistinct-range 0 n) r.distinct, inside)

-- ---- documents of lists taken from the ranking's unjudged ones
map_agree : (s t : ℕ → Bool) (docs : List ℕ) → AllByRecursion (λ d. s d ≡ t d) docs → map s docs ≡ map t docs
map_agree s t [] h = refl
map_agree s t (d ∷ ds) h = ap (λ b. b ∷ map s ds) h.0 ∙ ap (λ bs. t d ∷ bs) (map_agree s t ds h.1)

others_same : (marks : List Mark) (d : ℕ) (xs ds : List ℕ) → AllByRecursion (λ y. nat_eq d y ≡ false) ds → map (with_picked marks (is_in (d ∷ xs))) ds ≡ map (with_picked marks (is_in xs)) ds
others_same marks d xs ds h =
    map_agree (with_picked marks (is_in (d ∷ xs))) (with_picked marks (is_in xs)) ds
    (weaker (λ y. nat_eq d y ≡ false) (λ y. with_picked marks (is_in (d ∷ xs)) y ≡ with_picked marks (is_in xs) y) (λ y e. ap (λ b. picked_value (b || is_in xs y) (mark_at marks y)) e) ds h)

pub open_is : (marks : List Mark) (d : ℕ) (ds : List ℕ) (m : Mark) → mark_at marks d ≡ m → open_docs marks (d ∷ ds) ≡ cond (is_unjudged m) (d ∷ open_docs marks ds) (open_docs marks ds)
open_is marks d ds m e = ap (λ (k : Mark). cond (is_unjudged k) (d ∷ open_docs marks ds) (open_docs marks ds)) e

all_open : (P : ℕ → Type 0) (marks : List Mark) (docs : List ℕ) → AllByRecursion P docs → AllByRecursion P (open_docs marks docs)
all_open P marks [] h = tt
all_open P marks (d ∷ ds) h = by (is_unjudged (mark_at marks d)) (all_open P marks ds h.1)
  where
    by : (b : Bool) → AllByRecursion P (open_docs marks ds) → AllByRecursion P (cond b (d ∷ open_docs marks ds) (open_docs marks ds))
    by true k = (h.0, k)
    by false k = k

all_take : (P : ℕ → Type 0) (t : ℕ) (xs : List ℕ) → AllByRecursion P xs → AllByRecursion P (take t xs)
all_take P zero xs h = tt
all_take P (suc t) [] h = tt
all_take P (suc t) (x ∷ xs) h = (h.0, all_take P t xs h.1)

all_drop : (P : ℕ → Type 0) (s : ℕ) (xs : List ℕ) → AllByRecursion P xs → AllByRecursion P (drop s xs)
all_drop P zero xs h = h
all_drop P (suc s) [] h = tt
all_drop P (suc s) (x ∷ xs) h = all_drop P s xs h.1

pub opens_along : (marks : List Mark) (docs : List ℕ) → opens (along marks docs) ≡ length (open_docs marks docs)
opens_along marks [] = refl
opens_along marks (d ∷ ds) = by (mark_at marks d) (opens_along marks ds)
  where
    by : (m : Mark) → opens (along marks ds) ≡ length (open_docs marks ds) → opens (m ∷ along marks ds) ≡ length (cond (is_unjudged m) (d ∷ open_docs marks ds) (open_docs marks ds))
    by Unjudged later = ap suc later
    by Relevant later = later
    by Other later = later

-- ---- the high candidates along the ranking
pub first_along : (marks : List Mark) (docs : List ℕ) → IsDistinct nat_eq docs → (t : ℕ) → map (high_truth marks docs t) docs ≡ first_gains (along marks docs) t
unfolding IsDistinct
first_along marks [] h t = refl
first_along marks (d ∷ ds) h t = by (mark_at marks d) refl (first_along marks ds h.1) t
  where
    by : (m : Mark) → mark_at marks d ≡ m → ((k : ℕ) → map (high_truth marks ds k) ds ≡ first_gains (along marks ds) k) → (t : ℕ) → map (high_truth marks (d ∷ ds) t) (d ∷ ds) ≡ first_gains (along marks (d ∷ ds)) t
    by Relevant e later t =
        ap (λ (os : List ℕ). map (with_picked marks (is_in (take t os))) (d ∷ ds)) (open_is marks d ds Relevant e)
        ∙ ap (λ (m : Mark). picked_value (is_in (take t (open_docs marks ds)) d) m ∷ map (high_truth marks ds t) ds) e
        ∙ ap (λ gs. true ∷ gs) (later t)
        ∙ sym (ap (λ (m : Mark). first_gains (m ∷ along marks ds) t) e)
    by Other e later t =
        ap (λ (os : List ℕ). map (with_picked marks (is_in (take t os))) (d ∷ ds)) (open_is marks d ds Other e)
        ∙ ap (λ (m : Mark). picked_value (is_in (take t (open_docs marks ds)) d) m ∷ map (high_truth marks ds t) ds) e
        ∙ ap (λ gs. false ∷ gs) (later t)
        ∙ sym (ap (λ (m : Mark). first_gains (m ∷ along marks ds) t) e)
    by Unjudged e later zero =
        ap (λ (m : Mark). picked_value false m ∷ map (high_truth marks ds zero) ds) e
        ∙ ap (λ gs. false ∷ gs) (later zero)
        ∙ sym (ap (λ (m : Mark). first_gains (m ∷ along marks ds) zero) e)
    by Unjudged e later (suc t) =
        ap (λ (os : List ℕ). map (with_picked marks (is_in (take (suc t) os))) (d ∷ ds)) (open_is marks d ds Unjudged e)
        ∙ ap (λ (b : Bool). picked_value (b || is_in (take t (open_docs marks ds)) d) (mark_at marks d) ∷ map (with_picked marks (is_in (d ∷ take t (open_docs marks ds)))) ds) (eq-eqb d d refl)
        ∙ ap (λ (m : Mark). picked_value true m ∷ map (with_picked marks (is_in (d ∷ take t (open_docs marks ds)))) ds) e
        ∙ ap (λ gs. true ∷ gs) (others_same marks d (take t (open_docs marks ds)) ds h.0 ∙ later t)
        ∙ sym (ap (λ (m : Mark). first_gains (m ∷ along marks ds) (suc t)) e)

-- ---- the low candidates along the ranking
dropped_along : (marks : List Mark) (docs : List ℕ) → IsDistinct nat_eq docs → (s : ℕ) → map (with_picked marks (is_in (drop s (open_docs marks docs)))) docs ≡ last_gains (along marks docs) s
unfolding IsDistinct
dropped_along marks [] h s = refl
dropped_along marks (d ∷ ds) h s = by (mark_at marks d) refl (dropped_along marks ds h.1) s
  where
    by : (m : Mark) → mark_at marks d ≡ m → ((k : ℕ) → map (with_picked marks (is_in (drop k (open_docs marks ds)))) ds ≡ last_gains (along marks ds) k) → (s : ℕ) → map (with_picked marks (is_in (drop s (open_docs marks (d ∷ ds))))) (d ∷ ds) ≡ last_gains (along marks (d ∷ ds)) s
    by Relevant e later s =
        ap (λ (os : List ℕ). map (with_picked marks (is_in (drop s os))) (d ∷ ds)) (open_is marks d ds Relevant e)
        ∙ ap (λ (m : Mark). picked_value (is_in (drop s (open_docs marks ds)) d) m ∷ map (with_picked marks (is_in (drop s (open_docs marks ds)))) ds) e
        ∙ ap (λ gs. true ∷ gs) (later s)
        ∙ sym (ap (λ (m : Mark). last_gains (m ∷ along marks ds) s) e)
    by Other e later s =
        ap (λ (os : List ℕ). map (with_picked marks (is_in (drop s os))) (d ∷ ds)) (open_is marks d ds Other e)
        ∙ ap (λ (m : Mark). picked_value (is_in (drop s (open_docs marks ds)) d) m ∷ map (with_picked marks (is_in (drop s (open_docs marks ds)))) ds) e
        ∙ ap (λ gs. false ∷ gs) (later s)
        ∙ sym (ap (λ (m : Mark). last_gains (m ∷ along marks ds) s) e)
    by Unjudged e later zero =
        ap (λ (os : List ℕ). map (with_picked marks (is_in (drop zero os))) (d ∷ ds)) (open_is marks d ds Unjudged e)
        ∙ ap (λ (b : Bool). picked_value (b || is_in (open_docs marks ds) d) (mark_at marks d) ∷ map (with_picked marks (is_in (d ∷ open_docs marks ds))) ds) (eq-eqb d d refl)
        ∙ ap (λ (m : Mark). picked_value true m ∷ map (with_picked marks (is_in (d ∷ open_docs marks ds))) ds) e
        ∙ ap (λ gs. true ∷ gs) (others_same marks d (open_docs marks ds) ds h.0 ∙ later zero)
        ∙ sym (ap (λ (m : Mark). last_gains (m ∷ along marks ds) zero) e)
    by Unjudged e later (suc s) =
        let gone : is_in (drop s (open_docs marks ds)) d ≡ false = not_in d (drop s (open_docs marks ds)) (all_drop (λ y. nat_eq d y ≡ false) s (open_docs marks ds) (all_open (λ y. nat_eq d y ≡ false) marks ds h.0)) in
        ap (λ (os : List ℕ). map (with_picked marks (is_in (drop (suc s) os))) (d ∷ ds)) (open_is marks d ds Unjudged e)
        ∙ ap (λ (b : Bool). picked_value b (mark_at marks d) ∷ map (with_picked marks (is_in (drop s (open_docs marks ds)))) ds) gone
        ∙ ap (λ (m : Mark). picked_value false m ∷ map (with_picked marks (is_in (drop s (open_docs marks ds)))) ds) e
        ∙ ap (λ gs. false ∷ gs) (later s)
        ∙ sym (ap (λ (m : Mark). last_gains (m ∷ along marks ds) (suc s)) e)

or_none : (b : Bool) → (b || false) ≡ b
or_none true = refl
or_none false = refl

pub last_along : (marks : List Mark) (docs : List ℕ) → IsDistinct nat_eq docs → (t : ℕ) → map (low_truth marks docs t) docs ≡ last_gains (along marks docs) (length (open_docs marks docs) - t)
last_along marks docs h t =
    let os = drop (length (open_docs marks docs) - t) (open_docs marks docs) in
    map_agree (low_truth marks docs t) (with_picked marks (is_in os)) docs
    (weaker (λ d. is_in docs d ≡ true) (λ d. low_truth marks docs t d ≡ with_picked marks (is_in os) d)
    (λ d e. ap (λ (b : Bool). picked_value (is_in os d || not b) (mark_at marks d)) e ∙ ap (λ (b : Bool). picked_value b (mark_at marks d)) (or_none (is_in os d))) docs (is_in_members docs))
    ∙ dropped_along marks docs h (length (open_docs marks docs) - t)

-- ---- the documents that the ranking lacks
not_in_open : (marks : List Mark) (docs : List ℕ) (t d : ℕ) → is_in docs d ≡ false → is_in (take t (open_docs marks docs)) d ≡ false
not_in_open marks docs t d h = gone (take t (open_docs marks docs)) (all_take (λ y. nat_eq y d ≡ false) t (open_docs marks docs) (all_open (λ y. nat_eq y d ≡ false) marks docs (apart docs h)))
  where
    apart : (xs : List ℕ) → is_in xs d ≡ false → AllByRecursion (λ y. nat_eq y d ≡ false) xs
    apart [] k = tt
    apart (x ∷ xs) k = let both = neither (nat_eq x d) (is_in xs d) k in (both.0, apart xs both.1)

    gone : (xs : List ℕ) → AllByRecursion (λ y. nat_eq y d ≡ false) xs → is_in xs d ≡ false
    gone [] k = refl
    gone (x ∷ xs) k = ap (λ b. b || is_in xs d) k.0 ∙ gone xs k.1

not_is : (b : Bool) → not b ≡ true → b ≡ false
not_is true h = absurd (cc)
not_is false h = refl

and_both : (b c : Bool) → (b && c) ≡ true → (b ≡ true) × (c ≡ true)
and_both true c h = (refl, h)
and_both false c h = absurd (cc)

and_in : (b c : Bool) → b ≡ true → c ≡ true → (b && c) ≡ true
and_in b c h k = ap (λ v. v && c) h ∙ k

pub high_lacks_fewer : (marks : List Mark) (docs : List ℕ) (t : ℕ) (truth : ℕ → Bool) → Completes marks truth → lacking (high_truth marks docs t) (length marks) docs ≤ lacking truth (length marks) docs
high_lacks_fewer marks docs t truth c =
    count_by-weaker (λ d. high_truth marks docs t d && not (is_in docs d)) (λ d. truth d && not (is_in docs d)) (range_with_len 0 (length marks))
    (weaker (λ d. d < length marks) _ one (range_with_len 0 (length marks)) (range_below (length marks)))
  where
    one : (d : ℕ) → d < length marks → (high_truth marks docs t d && not (is_in docs d)) ≡ true → (truth d && not (is_in docs d)) ≡ true
    one d lt h =
        let both = and_both (high_truth marks docs t d) (not (is_in docs d)) h in
        let gone = not_in_open marks docs t d (not_is (is_in docs d) both.1) in
        let relevant : picked_value false (mark_at marks d) ≡ true = sym (ap (λ (b : Bool). picked_value b (mark_at marks d)) gone) ∙ both.0 in
        and_in (truth d) (not (is_in docs d)) (allowed_least (mark_at marks d) (truth d) (c d lt) relevant) both.1

or_last : (b c : Bool) → c ≡ true → (b || c) ≡ true
or_last true c h = refl
or_last false c h = h

pub low_lacks_more : (marks : List Mark) (docs : List ℕ) (t : ℕ) (truth : ℕ → Bool) → Completes marks truth → lacking truth (length marks) docs ≤ lacking (low_truth marks docs t) (length marks) docs
low_lacks_more marks docs t truth c =
    count_by-weaker (λ d. truth d && not (is_in docs d)) (λ d. low_truth marks docs t d && not (is_in docs d)) (range_with_len 0 (length marks))
    (weaker (λ d. d < length marks) _ one (range_with_len 0 (length marks)) (range_below (length marks)))
  where
    one : (d : ℕ) → d < length marks → (truth d && not (is_in docs d)) ≡ true → (low_truth marks docs t d && not (is_in docs d)) ≡ true
    one d lt h =
        let both = and_both (truth d) (not (is_in docs d)) h in
        let possible : picked_value true (mark_at marks d) ≡ true = allowed_most (mark_at marks d) (truth d) (c d lt) both.0 in
        let os = drop (length (open_docs marks docs) - t) (open_docs marks docs) in
        let picked : (is_in os d || not (is_in docs d)) ≡ true = or_last (is_in os d) (not (is_in docs d)) both.1 in
        and_in (low_truth marks docs t d) (not (is_in docs d)) (ap (λ (b : Bool). picked_value b (mark_at marks d)) picked ∙ possible) both.1
