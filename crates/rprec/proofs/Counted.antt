-- The counts that go with the flags of a walk.
use Rattle.std.proofs.Common.{◌≡◌, ◌≢◌, ℕ, ◌+◌, ◌-◌, ◌<◌, ◌≤◌, max, Bool, true, false, not, ◌&&◌, nat_eq, nat_lt, nat_le, List, ◌∷◌, All, length, take, drop, get_or, set, Some, arith, refl, ap, ◌∙◌, sym, subst, inl, inr}
use Rattle.std.specs.Prelude.{if◌then◌else◌}
use Rattle.std.proofs.lemmas.Bool.{cases_lt}
use Rattle.std.proofs.lemmas.Bool.Decides.{nat_tests}
use Rattle.std.proofs.lemmas.List.{get_or-set_same, get_or-set_other, length-set, set-get_or}
use Rattle.desk_model.specs.Mark.{is_unjudged, mark_at}
use Rattle.desk_model.specs.Placed.{lookup}
use Rattle.desk_model.specs.Ranking.{IsRanking, is_in}
use Rattle.desk_model.specs.declared.placed.Placed.{Placed}
use Rattle.desk_model.specs.declared.types.Mark.{Mark}
use Rattle.desk_model.specs.declared.types.Mark.TheVariants.{Unjudged, Relevant, Other}
use Rattle.topic_counts.specs.declared.counts.Counts.{Counts}
use Rattle.rprec.specs.declared.prefixes.Prefixes.{Prefixes}
use Rattle.rprec.specs.Greedy.{AreNext, one_of}
use Rattle.rprec.specs.Shared.{AreShared, met, entered as counts_entered}
use Rattle.rprec.specs.Walk.{AreCounted, AreRanksOf, AreWalked, IsWalk, both, flagged_at}
use Rattle.std.proofs.Math.Bool.{and-false}
use Rattle.rprec.proofs.Flags.{AreFlags, entered, flagged, opened, rank_place}
use Rattle.rprec.proofs.Steps.{AreBefore, ArePrefixes, number_if}

-- 1 or 0
abbrev pub one_where : Bool → ℕ
one_where b = if b then 1 else 0

-- ---- a flag raised
raised_one : (marks : List Mark) (docs : List ℕ) (flags : List Bool) (k place : ℕ) → k < length docs → k < length flags → get_or flags k false ≡ false →
    flagged_at marks docs (set flags k true) place ≡ flagged_at marks docs flags place + (if nat_eq place k then one_where (is_unjudged (mark_at marks (get_or docs k 0))) else 0)
raised_one marks docs flags k place in_docs in_flags down = by_test (nat_eq place k) refl
  where
    same : nat_eq place k ≡ true → place ≡ k
    same e = grind (arith, nat_tests)

    apart : nat_eq place k ≡ false → place ≢ k
    apart e = grind (arith, nat_tests)

    within : nat_lt k (length docs) ≡ true
    within = grind (arith, nat_tests, in_docs)

    up : flagged_at marks docs (set flags k true) k ≡ one_where (is_unjudged (mark_at marks (get_or docs k 0)))
    up =
        ap (λ (v : Bool). if (v && get_or (set flags k true) k false) && is_unjudged (mark_at marks (get_or docs k 0)) then 1 else 0) within
        ∙ ap (λ (v : Bool). if (true && v) && is_unjudged (mark_at marks (get_or docs k 0)) then 1 else 0) (get_or-set_same flags k true false in_flags)

    none : flagged_at marks docs flags k ≡ 0
    none =
        ap (λ (v : Bool). if (v && get_or flags k false) && is_unjudged (mark_at marks (get_or docs k 0)) then 1 else 0) within
        ∙ ap (λ (v : Bool). if (true && v) && is_unjudged (mark_at marks (get_or docs k 0)) then 1 else 0) down

    by_test : (b : Bool) → nat_eq place k ≡ b → flagged_at marks docs (set flags k true) place ≡ flagged_at marks docs flags place + (if b then one_where (is_unjudged (mark_at marks (get_or docs k 0))) else 0)
    by_test true e =
        let at : (n : ℕ) → n ≡ k → flagged_at marks docs (set flags k true) n ≡ flagged_at marks docs flags n + one_where (is_unjudged (mark_at marks (get_or docs k 0))) = λ n h. subst (λ (m : ℕ). flagged_at marks docs (set flags k true) m ≡ flagged_at marks docs flags m + one_where (is_unjudged (mark_at marks (get_or docs k 0)))) (sym h) (omega (arith, up, none)) in
        at place (same e)
    by_test false e =
        let other : get_or (set flags k true) place false ≡ get_or flags place false = get_or-set_other flags k place true false (apart e) in
        let kept : flagged_at marks docs (set flags k true) place ≡ flagged_at marks docs flags place = ap (λ (v : Bool). if (nat_lt place (length docs) && v) && is_unjudged (mark_at marks (get_or docs place 0)) then 1 else 0) other in
        omega (arith, kept)

pub counted_one : (counts : List ℕ) (k place u : ℕ) → k < length counts → get_or (set counts k (get_or counts k 0 + u)) place 0 ≡ get_or counts place 0 + (if nat_eq place k then u else 0)
counted_one counts k place u in_counts = by_test (nat_eq place k) refl
  where
    same : nat_eq place k ≡ true → place ≡ k
    same e = grind (arith, nat_tests)

    apart : nat_eq place k ≡ false → place ≢ k
    apart e = grind (arith, nat_tests)

    by_test : (b : Bool) → nat_eq place k ≡ b → get_or (set counts k (get_or counts k 0 + u)) place 0 ≡ get_or counts place 0 + (if b then u else 0)
    by_test true e = subst (λ (m : ℕ). get_or (set counts k (get_or counts k 0 + u)) m 0 ≡ get_or counts m 0 + u) (sym (same e)) (get_or-set_same counts k (get_or counts k 0 + u) 0 in_counts)
    by_test false e = get_or-set_other counts k place (get_or counts k 0 + u) 0 (apart e) ∙ (let none : get_or counts place 0 ≡ get_or counts place 0 + 0 = omega arith in none)

raise_first : (marks : List Mark) (xs ys : List ℕ) (f s : List Bool) (counts : List ℕ) (k u : ℕ) → AreCounted marks xs ys f s counts → k < length xs → k < length f → get_or f k false ≡ false → u ≡ one_where (is_unjudged (mark_at marks (get_or xs k 0))) →
    AreCounted marks xs ys (set f k true) s (set counts k (get_or counts k 0 + u))
raise_first marks xs ys f s counts k u h in_docs in_flags down e = record {
  first_fit = omega (arith, length-set counts k (get_or counts k 0 + u), h.first_fit);
  second_fit = omega (arith, length-set counts k (get_or counts k 0 + u), h.second_fit);
  known = h.known;
  each = λ place.
      let more = counted_one counts k place u (omega (arith, h.first_fit, in_docs)) in
      let raised = raised_one marks xs f k place in_docs in_flags down in
      let same : (if nat_eq place k then u else 0) ≡ (if nat_eq place k then one_where (is_unjudged (mark_at marks (get_or xs k 0))) else 0) = ap (λ (n : ℕ). if nat_eq place k then n else 0) e in
      omega (arith, more, raised, same, h.each place);
}

raise_second : (marks : List Mark) (xs ys : List ℕ) (f s : List Bool) (counts : List ℕ) (k u : ℕ) → AreCounted marks xs ys f s counts → k < length ys → k < length s → get_or s k false ≡ false → u ≡ one_where (is_unjudged (mark_at marks (get_or ys k 0))) →
    AreCounted marks xs ys f (set s k true) (set counts k (get_or counts k 0 + u))
raise_second marks xs ys f s counts k u h in_docs in_flags down e = record {
  first_fit = omega (arith, length-set counts k (get_or counts k 0 + u), h.first_fit);
  second_fit = omega (arith, length-set counts k (get_or counts k 0 + u), h.second_fit);
  known = h.known;
  each = λ place.
      let more = counted_one counts k place u (omega (arith, h.second_fit, in_docs)) in
      let raised = raised_one marks ys s k place in_docs in_flags down in
      let same : (if nat_eq place k then u else 0) ≡ (if nat_eq place k then one_where (is_unjudged (mark_at marks (get_or ys k 0))) else 0) = ap (λ (n : ℕ). if nat_eq place k then n else 0) e in
      omega (arith, more, raised, same, h.each place);
}

same_counted : (marks : List Mark) (xs ys : List ℕ) (f f' s s' : List Bool) (counts counts' : List ℕ) → f ≡ f' → s ≡ s' → counts ≡ counts' → AreCounted marks xs ys f s counts → AreCounted marks xs ys f' s' counts'
same_counted marks xs ys f f' s s' counts counts' e g k h =
    subst (λ (x : List Bool). AreCounted marks xs ys x s' counts') e (subst (λ (x : List Bool). AreCounted marks xs ys f x counts') g (subst (λ (x : List ℕ). AreCounted marks xs ys f s x) k h))

-- ---- one step of the places
-- what is known of the places of one document
record AreDown (xs ys : List ℕ) (x y : Placed) (f s : List Bool) : Type 0 where
  pub first : (1 ≤ x.rank) × ((x.rank ≤ length xs) × (get_or xs (x.rank - 1) 0 ≡ x.doc))
  pub second : (1 ≤ y.rank) × ((y.rank ≤ length ys) × (get_or ys (y.rank - 1) 0 ≡ y.doc))
  pub first_long : length xs ≤ length f
  pub second_long : length ys ≤ length s
  pub first_down : x.doc ≡ y.doc → get_or f (x.rank - 1) false ≡ false
  pub second_down : x.doc ≡ y.doc → get_or s (y.rank - 1) false ≡ false

counted_next : (marks : List Mark) (xs ys : List ℕ) (x y : Placed) (f s : List Bool) (counts : List ℕ) → AreDown xs ys x y f s → AreCounted marks xs ys f s counts →
    AreCounted marks xs ys (entered (λ place. place) x y f) (entered (λ place. place + 1) y x s) (counts_entered marks x y counts)
counted_next marks xs ys x y f s counts d h = by_test (nat_eq x.doc y.doc) refl
  where
    k : ℕ
    k = max x.rank y.rank - 1

    u : ℕ
    u = one_where (is_unjudged (mark_at marks x.doc))

    swapped_facts : (m n : ℕ) (b : Bool) → nat_eq m n ≡ b → nat_eq n m ≡ b
    swapped_facts m n b e = grind (arith, nat_tests, e)

    same_doc : (m n : ℕ) → nat_eq m n ≡ true → m ≡ n
    same_doc m n e = grind (arith, nat_tests)

    Goal : Type 0
    Goal = AreCounted marks xs ys (entered (λ place. place) x y f) (entered (λ place. place + 1) y x s) (counts_entered marks x y counts)

    later : nat_eq x.doc y.doc ≡ true → (b : Bool) → nat_le y.rank (x.rank - 1) ≡ b → Goal
    later e true t =
        let place : x.rank - 1 ≡ k = grind (arith, nat_tests, t) in
        let other : nat_le x.rank (y.rank - 1 + 1) ≡ false = grind (arith, nat_tests, t, d.first.0, d.second.0) in
        let is : u ≡ one_where (is_unjudged (mark_at marks (get_or xs (x.rank - 1) 0))) = ap (λ (n : ℕ). one_where (is_unjudged (mark_at marks n))) (sym d.first.1.1) in
        let raised = raise_first marks xs ys f s counts (x.rank - 1) u h (omega (arith, d.first.0, d.first.1.0)) (omega (arith, d.first.0, d.first.1.0, d.first_long)) (d.first_down (same_doc x.doc y.doc e)) is in
        same_counted marks xs ys _ _ _ _ _ _
        (sym (ap (λ (b : Bool). if b then flagged (λ place. place) x.rank y.rank f else f) e ∙ ap (λ (b : Bool). if b then set f (x.rank - 1) true else f) t))
        (sym (ap (λ (b : Bool). if b then flagged (λ place. place + 1) y.rank x.rank s else s) (swapped_facts x.doc y.doc true e) ∙ ap (λ (b : Bool). if b then set s (y.rank - 1) true else s) other))
        (ap (λ (n : ℕ). set counts n (get_or counts n 0 + u)) place ∙ sym (ap (λ (b : Bool). set counts k (get_or counts k 0 + (if b && is_unjudged (mark_at marks x.doc) then 1 else 0))) e))
        raised
    later e false t =
        let place : y.rank - 1 ≡ k = grind (arith, nat_tests, t, d.first.0) in
        let other : nat_le x.rank (y.rank - 1 + 1) ≡ true = grind (arith, nat_tests, t, d.first.0, d.second.0) in
        let is : u ≡ one_where (is_unjudged (mark_at marks (get_or ys (y.rank - 1) 0))) = ap (λ (n : ℕ). one_where (is_unjudged (mark_at marks n))) (same_doc x.doc y.doc e ∙ sym d.second.1.1) in
        let raised = raise_second marks xs ys f s counts (y.rank - 1) u h (omega (arith, d.second.0, d.second.1.0)) (omega (arith, d.second.0, d.second.1.0, d.second_long)) (d.second_down (same_doc x.doc y.doc e)) is in
        same_counted marks xs ys _ _ _ _ _ _
        (sym (ap (λ (b : Bool). if b then flagged (λ place. place) x.rank y.rank f else f) e ∙ ap (λ (b : Bool). if b then set f (x.rank - 1) true else f) t))
        (sym (ap (λ (b : Bool). if b then flagged (λ place. place + 1) y.rank x.rank s else s) (swapped_facts x.doc y.doc true e) ∙ ap (λ (b : Bool). if b then set s (y.rank - 1) true else s) other))
        (ap (λ (n : ℕ). set counts n (get_or counts n 0 + u)) place ∙ sym (ap (λ (b : Bool). set counts k (get_or counts k 0 + (if b && is_unjudged (mark_at marks x.doc) then 1 else 0))) e))
        raised

    by_test : (b : Bool) → nat_eq x.doc y.doc ≡ b → Goal
    by_test true e = later e (nat_le y.rank (x.rank - 1)) refl
    by_test false e =
        let none : get_or counts k 0 + 0 ≡ get_or counts k 0 = omega arith in
        same_counted marks xs ys _ _ _ _ _ _
        (sym (ap (λ (b : Bool). if b then flagged (λ place. place) x.rank y.rank f else f) e))
        (sym (ap (λ (b : Bool). if b then flagged (λ place. place + 1) y.rank x.rank s else s) (swapped_facts x.doc y.doc false e)))
        (sym (ap (λ (b : Bool). set counts k (get_or counts k 0 + (if b && is_unjudged (mark_at marks x.doc) then 1 else 0))) e ∙ ap (set counts k) none ∙ set-get_or counts k 0))
        h

found_first : (x : Placed) (es : List Placed) → lookup (x ∷ es) x.doc ≡ Some x.rank
found_first x es = ap (λ b. if b then Some x.rank else lookup es x.doc) (self x.doc)
  where
    self : (m : ℕ) → nat_eq m m ≡ true
    self m = grind (arith, nat_tests)

-- the places of two lists that a walk has come to
down_here : (part elsewhere : ℕ → Bool) (xs ys : List ℕ) (x y : Placed) (es fs : List Placed) (f s : List Bool) → IsWalk part elsewhere xs ys (x ∷ es) (y ∷ fs) f s → AreDown xs ys x y f s
unfolding AreRanksOf
down_here part elsewhere xs ys x y es fs f s w =
    let first = rank_place xs x.doc x.rank (w.first_ranks x.doc x.rank (found_first x es)).0 in
    let second = rank_place ys y.doc y.rank (w.second_ranks y.doc y.rank (found_first y fs)).0 in
    record {
      first = first;
      second = second;
      first_long = w.first.long;
      second_long = w.second.long;
      first_down = λ same.
          down xs ys (λ place. place) (x ∷ es) (y ∷ fs) f w.first (x.rank - 1) x.doc x.rank y.rank (omega (arith, first.0, first.1.0)) first.1.1 (found_first x es) (ap (lookup (y ∷ fs)) same ∙ found_first y fs);
      second_down = λ same.
          down ys xs (λ place. place + 1) (y ∷ fs) (x ∷ es) s w.second (y.rank - 1) y.doc y.rank x.rank (omega (arith, second.0, second.1.0)) second.1.1 (found_first y fs) (ap (lookup (x ∷ es)) (sym same) ∙ found_first x es);
    }
  where
    down : (xs ys : List ℕ) (depth : ℕ → ℕ) (es fs : List Placed) (flags : List Bool) → AreWalked elsewhere xs ys depth es fs flags → (place doc r t : ℕ) → place < length xs → get_or xs place 0 ≡ doc → lookup es doc ≡ Some r → lookup fs doc ≡ Some t → get_or flags place false ≡ false
    down xs ys depth es fs flags h place doc r t lt here first second =
        let d = get_or xs place 0 in
        let test = is_in (take (depth place) ys) d && not (elsewhere d) in
        h.each place lt ∙ ap (λ o. test && not (both o (lookup fs d))) (ap (lookup es) here ∙ first) ∙ ap (λ o. test && not (both (Some r) o)) (ap (lookup fs) here ∙ second) ∙ and-false test

pub counted_step : (marks : List Mark) (part elsewhere : ℕ → Bool) (xs ys : List ℕ) (es fs : List Placed) (i j : ℕ) (d : Placed) (f s : List Bool) (counts : List ℕ) → i < length es → j < length fs → IsWalk part elsewhere xs ys (drop i es) (drop j fs) f s → AreCounted marks xs ys f s counts →
    AreCounted marks xs ys (entered (λ place. place) (get_or es i d) (get_or fs j d) f) (entered (λ place. place + 1) (get_or fs j d) (get_or es i d) s) (counts_entered marks (get_or es i d) (get_or fs j d) counts)
counted_step marks part elsewhere xs ys es fs i j d f s counts hi hj w h =
    let x = get_or es i d in
    let y = get_or fs j d in
    let here : IsWalk part elsewhere xs ys (x ∷ drop (i + 1) es) (y ∷ drop (j + 1) fs) f s =
    subst (λ (l : List Placed). IsWalk part elsewhere xs ys l (y ∷ drop (j + 1) fs) f s) (opened es i d hi) (subst (λ (l : List Placed). IsWalk part elsewhere xs ys (drop i es) l f s) (opened fs j d hj) w) in
    counted_next marks xs ys x y f s counts (down_here part elsewhere xs ys x y (drop (i + 1) es) (drop (j + 1) fs) f s here) h

-- ---- what the code needs to know
at_most_1 : (marks : List Mark) (docs : List ℕ) (flags : List Bool) (place : ℕ) → flagged_at marks docs flags place ≤ 1
at_most_1 marks docs flags place = by_test ((nat_lt place (length docs) && get_or flags place false) && is_unjudged (mark_at marks (get_or docs place 0)))
  where
    by_test : (b : Bool) → one_where b ≤ 1
    by_test true = omega arith
    by_test false = omega arith

pub few_counted : (marks : List Mark) (xs ys : List ℕ) (f s : List Bool) (counts : List ℕ) → AreCounted marks xs ys f s counts → (place : ℕ) → get_or counts place 0 ≤ 2
few_counted marks xs ys f s counts h place = omega (arith, h.each place, at_most_1 marks xs f place, at_most_1 marks ys s place)

pub known_first : (marks : List Mark) (part elsewhere : ℕ → Bool) (xs ys : List ℕ) (es fs : List Placed) (i : ℕ) (d : Placed) (f s : List Bool) (counts : List ℕ) → i < length es → IsWalk part elsewhere xs ys (drop i es) fs f s → AreCounted marks xs ys f s counts → (get_or es i d).doc < length marks
unfolding AreRanksOf
known_first marks part elsewhere xs ys es fs i d f s counts hi w h =
    let x = get_or es i d in
    let found : lookup (drop i es) x.doc ≡ Some x.rank = ap (λ (l : List Placed). lookup l x.doc) (opened es i d hi) ∙ found_first x (drop (i + 1) es) in
    let place = rank_place xs x.doc x.rank (w.first_ranks x.doc x.rank found).0 in
    subst (λ (n : ℕ). n < length marks) place.1.1 (h.known (x.rank - 1) 0 (omega (arith, place.0, place.1.0)))

-- ---- before the first step and after the last one
pub counted_start : (marks : List Mark) (xs ys : List ℕ) (f s : List Bool) (counts : List ℕ) → ((place : ℕ) → get_or f place false ≡ false) → ((place : ℕ) → get_or s place false ≡ false) → length xs ≤ length counts → length ys ≤ length counts → All (λ doc. doc < length marks) xs → ((place : ℕ) → get_or counts place 0 ≡ 0) →
    AreCounted marks xs ys f s counts
counted_start marks xs ys f s counts df ds first_fit second_fit known none = record { first_fit = first_fit; second_fit = second_fit; known = known; each = λ place. omega (arith, none place, nothing xs f place (df place), nothing ys s place (ds place)) }
  where
    nothing : (docs : List ℕ) (flags : List Bool) (place : ℕ) → get_or flags place false ≡ false → flagged_at marks docs flags place ≡ 0
    nothing docs flags place down =
        ap (λ (v : Bool). if (nat_lt place (length docs) && v) && is_unjudged (mark_at marks (get_or docs place 0)) then 1 else 0) down
        ∙ ap (λ (v : Bool). if v && is_unjudged (mark_at marks (get_or docs place 0)) then 1 else 0) (and-false (nat_lt place (length docs)))

met_by_flag : (marks : List Mark) (docs others : List ℕ) (depth : ℕ → ℕ) (flags : List Bool) (place : ℕ) → AreFlags docs others depth flags → flagged_at marks docs flags place ≡ met marks docs (take (depth place) others) place
met_by_flag marks docs others depth flags place h = elim (cases_lt place (length docs)) [
  | inl lt ↦ ap (λ (v : Bool). if (nat_lt place (length docs) && v) && is_unjudged (mark_at marks (get_or docs place 0)) then 1 else 0) (h.each place lt)
  | inr le ↦ none (get_or flags place false) (past le) ∙ sym (none (is_in (take (depth place) others) (get_or docs place 0)) (past le))
]
  where
    past : length docs ≤ place → nat_lt place (length docs) ≡ false
    past le = grind (arith, nat_tests, le)

    none : (v : Bool) → nat_lt place (length docs) ≡ false → one_where ((nat_lt place (length docs) && v) && is_unjudged (mark_at marks (get_or docs place 0))) ≡ 0
    none v e = ap (λ (w : Bool). if (w && v) && is_unjudged (mark_at marks (get_or docs place 0)) then 1 else 0) e

pub counted_end : (marks : List Mark) (xs ys : List ℕ) (f s : List Bool) (counts : List ℕ) → AreFlags xs ys (λ place. place) f → AreFlags ys xs (λ place. place + 1) s → AreCounted marks xs ys f s counts → AreShared marks xs ys counts
counted_end marks xs ys f s counts first second h = record { each = λ place. omega (arith, h.each place, met_by_flag marks xs ys (λ place. place) f place first, met_by_flag marks ys xs (λ place. place + 1) s place second) }

-- ---- the next documents of both lists
met_next : (marks : List Mark) (docs others : List ℕ) (place : ℕ) (one : Counts) → AreNext marks docs place one → met marks docs others place ≡ number_if (is_in others (get_or docs place 0)) one.unjudged
met_next marks docs others place one h = elim (cases_lt place (length docs)) [
  | inl lt ↦
      let here = h.here lt in
      ap (λ (w : Bool). if (w && is_in others (get_or docs place 0)) && is_unjudged (mark_at marks (get_or docs place 0)) then 1 else 0) (within lt)
      ∙ by_mark (is_in others (get_or docs place 0)) (mark_at marks (get_or docs place 0)) one.unjudged (open_one (mark_at marks (get_or docs place 0)) here.least here.most)
  | inr le ↦
      let none = h.past le in
      ap (λ (w : Bool). if (w && is_in others (get_or docs place 0)) && is_unjudged (mark_at marks (get_or docs place 0)) then 1 else 0) (past le)
      ∙ sym (no_number (is_in others (get_or docs place 0)) one.unjudged (omega (arith, none.least, none.most)))
]
  where
    within : place < length docs → nat_lt place (length docs) ≡ true
    within lt = grind (arith, nat_tests, lt)

    past : length docs ≤ place → nat_lt place (length docs) ≡ false
    past le = grind (arith, nat_tests, le)

    no_number : (b : Bool) (n : ℕ) → n ≡ 0 → number_if b n ≡ 0
    no_number true n e = e
    no_number false n e = refl

    open_one : (m : Mark) → one.relevant ≡ one_of false m → one.relevant + one.unjudged ≡ one_of true m → one_where (is_unjudged m) ≡ one.unjudged
    open_one Unjudged e f = omega (arith, e, f)
    open_one Relevant e f = omega (arith, e, f)
    open_one Other e f = omega (arith, e, f)

    by_mark : (b : Bool) (m : Mark) (n : ℕ) → one_where (is_unjudged m) ≡ n → (if (true && b) && is_unjudged m then 1 else 0) ≡ number_if b n
    by_mark true m n e = e
    by_mark false m n e = refl

-- what the counts say of them
pub counted_before : (marks : List Mark) (a b : List ℕ) (place : ℕ) (f : Prefixes) (one two : Counts) (counts : List ℕ) (both : ℕ) → both ≡ get_or counts place 0 → IsRanking (length marks) a → IsRanking (length marks) b → AreShared marks a b counts → place < 10000 →
    ArePrefixes marks (take place a) (take place b) f → AreNext marks a place one → AreNext marks b place two → AreBefore marks a b place f one two both
counted_before marks a b place f one two counts both e ra rb h lt prefixes x y = record {
  short = lt;
  first_distinct = ra.distinct;
  second_distinct = rb.distinct;
  counts = prefixes;
  first = x;
  second = y;
  shared = omega (arith, e, h.each place, met_next marks a (take place b) place one x, met_next marks b (take (place + 1) a) place two y);
}
