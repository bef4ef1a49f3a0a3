-- The walk over two runs by document finds what they share.
use Rattle.std.proofs.Common.{◌≡◌, ◌≢◌, ℕ, zero, suc, ◌+◌, ◌-◌, ◌<◌, ◌≤◌, Bool, true, false, cond, not, ◌&&◌, nat_eq, nat_le, List, [], ◌∷◌, length, take, drop, get_or, set, replicate, Option, Some, None, arith, refl, ap, ◌∙◌, sym, subst, inl, inr, ◌⊎◌}
use Rattle.std.specs.Prelude.{if◌then◌else◌}
use Rattle.std.specs.List.{AllByRecursion, IsDistinct, position_from}
use Rattle.std.proofs.Math.Seq.{drop-cons}
use Rattle.std.proofs.lemmas.Bool.Decides.{nat_tests}
use Rattle.std.proofs.lemmas.List.{get_or-set_same, get_or-set_other, length-set}
use Rattle.std.proofs.Math.Bool.{and-true, and-false}
use Rattle.small_lemmas.proofs.Numbers.{same_or_not}
use Rattle.desk_model.specs.Placed.{lookup, IsAscending}
use Rattle.desk_model.specs.Ranking.{is_in, rank}
use Rattle.desk_model.specs.declared.placed.Placed.{Placed}
use Rattle.topic_counts.specs.Pairs.{after, Taken}
use Rattle.measure_laws.specs.Ranks.{IsRankWithin}
use Rattle.topic_counts.proofs.Merge.{absent_below, further, taken_head, taken_none}
use Rattle.topic_counts.proofs.Prefixes.{is_by, rank_by}
use Rattle.desk_model.specs.declared.types.Mark.{Mark}
use Rattle.desk_model.proofs.Counts.{IsDistinct-take}
use Rattle.topic_counts.specs.declared.counts.Counts.{Counts}
use Rattle.rprec.specs.declared.prefixes.Prefixes.{Prefixes}
use Rattle.rprec.specs.Greedy.{swapped}
use Rattle.rprec.specs.Walk.{AreRanksOf, AreWalked, IsWalk, both}
use Rattle.rprec.proofs.Steps.{AreBefore, ArePrefixes, after_next, number_either, prefixes_swapped}

-- for each place of a list, whether another has the document among so many first ones
pub record AreFlags (xs ys : List ℕ) (depth : ℕ → ℕ) (flags : List Bool) : Type 0 where
  pub each : (place : ℕ) → place < length xs → get_or flags place false ≡ is_in (take (depth place) ys) (get_or xs place 0)

-- the flags with that of a document of these ranks in both lists
abbrev pub flagged : (ℕ → ℕ) → ℕ → ℕ → List Bool → List Bool
flagged depth x y flags = if nat_le y (depth (x - 1)) then set flags (x - 1) true else flags

-- the flags after two places, where they are of one document
abbrev pub entered : (ℕ → ℕ) → Placed → Placed → List Bool → List Bool
entered depth x y flags = if nat_eq x.doc y.doc then flagged depth x.rank y.rank flags else flags

-- ---- ranks and places
-- from a rank on: where a document is found
found_at : (n : ℕ) (xs : List ℕ) (doc r : ℕ) → position_from (λ each. nat_eq each doc) n xs ≡ Some r → (n ≤ r) × ((r < n + length xs) × (get_or xs (r - n) 0 ≡ doc))
found_at n [] doc r e = absurd (cc)
found_at n (x ∷ xs) doc r e = by_test (found_at (n + 1) xs doc r) (nat_eq x doc) refl e
  where
    same : nat_eq x doc ≡ true → x ≡ doc
    same h = grind (arith, nat_tests)

    by_test : (position_from (λ each. nat_eq each doc) (n + 1) xs ≡ Some r → (n + 1 ≤ r) × ((r < n + 1 + length xs) × (get_or xs (r - (n + 1)) 0 ≡ doc))) → (b : Bool) → nat_eq x doc ≡ b → cond b (Some n) (position_from (λ each. nat_eq each doc) (n + 1) xs) ≡ Some r → (n ≤ r) × ((r < n + length (x ∷ xs)) × (get_or (x ∷ xs) (r - n) 0 ≡ doc))
    by_test later true eb h =
        let here : n ≡ r = cc in
        let none : r - n ≡ 0 = omega arith in
        (omega arith, (omega arith, ap (λ (k : ℕ). get_or (x ∷ xs) k 0) none ∙ same eb))
    by_test later false eb h =
        let rest = later h in
        let next : r - n ≡ suc (r - (n + 1)) = omega (arith, rest.0) in
        (omega (arith, rest.0), (omega (arith, rest.1.0), ap (λ (k : ℕ). get_or (x ∷ xs) k 0) next ∙ rest.1.1))

pub rank_place : (xs : List ℕ) (doc r : ℕ) → rank xs doc ≡ Some r → (1 ≤ r) × ((r ≤ length xs) × (get_or xs (r - 1) 0 ≡ doc))
rank_place xs doc r e = let h = found_at 1 xs doc r e in (h.0, (omega (arith, h.1.0), h.1.1))

-- the place of a document in a list without repetition
placed_at : (n : ℕ) (xs : List ℕ) (place : ℕ) → IsDistinct nat_eq xs → place < length xs → position_from (λ each. nat_eq each (get_or xs place 0)) n xs ≡ Some (n + place)
unfolding IsDistinct
placed_at n [] place h lt = absurd (omega arith)
placed_at n (x ∷ xs) zero h lt =
    let same : nat_eq x x ≡ true = self x in
    ap (λ b. cond b (Some n) (position_from (λ each. nat_eq each x) (n + 1) xs)) same ∙ ap Some (omega arith)
  where
    self : (m : ℕ) → nat_eq m m ≡ true
    self m = grind (arith, nat_tests)
placed_at n (x ∷ xs) (suc place) h lt =
    let apart : nat_eq x (get_or xs place 0) ≡ false = differs xs place h.0 (omega arith) in
    ap (λ b. cond b (Some n) (position_from (λ each. nat_eq each (get_or xs place 0)) (n + 1) xs)) apart ∙ placed_at (n + 1) xs place h.1 (omega arith) ∙ ap Some (omega arith)
  where
    differs : (ys : List ℕ) (k : ℕ) → AllByRecursion (λ y. nat_eq x y ≡ false) ys → k < length ys → nat_eq x (get_or ys k 0) ≡ false
    differs [] k g l = absurd (omega arith)
    differs (y ∷ ys) zero g l = g.0
    differs (y ∷ ys) (suc k) g l = differs ys k g.1 (omega arith)

pub rank_at : (xs : List ℕ) (place : ℕ) → IsDistinct nat_eq xs → place < length xs → rank xs (get_or xs place 0) ≡ Some (place + 1)
rank_at xs place h lt = placed_at 1 xs place h lt ∙ ap Some (omega arith)

-- ---- the walk
-- the flags with that of a document of these ranks, if it is in both lists
abbrev raised : (ℕ → ℕ) → Option ℕ → Option ℕ → List Bool → List Bool
raised depth (Some x) (Some y) flags = flagged depth x y flags
raised depth (Some x) None flags = flags
raised depth None y flags = flags

pub all_down : (n place : ℕ) → get_or (replicate n false) place false ≡ false
all_down zero place = refl
all_down (suc n) zero = refl
all_down (suc n) (suc place) = all_down n place

after_same : (es : List Placed) (doc : ℕ) (r : Option ℕ) → Taken es doc r → lookup (after es doc) doc ≡ None
after_same es doc r h = absent_below doc (after es doc) h.rest

split_less : (m n : ℕ) → m ≢ n → (m < n) ⊎ (n < m)
split_less m n h = grind arith

after_other : (es : List Placed) (doc d : ℕ) (r : Option ℕ) → Taken es doc r → d ≢ doc → lookup (after es doc) d ≡ lookup es d
after_other es doc d r h ne = elim (split_less d doc ne) [
  | inl less ↦ absent_below d (after es doc) (further d doc (after es doc) (omega arith) h.rest) ∙ sym (h.below d less)
  | inr more ↦ h.above d more
]

pub ranks_after : (part : ℕ → Bool) (xs : List ℕ) (es : List Placed) (doc : ℕ) (r : Option ℕ) → Taken es doc r → AreRanksOf part xs es → AreRanksOf part xs (after es doc)
unfolding AreRanksOf
ranks_after part xs es doc r h f d s e = elim (same_or_not d doc) [
  | inl same ↦ let none : lookup (after es doc) d ≡ None = ap (lookup (after es doc)) same ∙ after_same es doc r h in absurd (cc)
  | inr other ↦ f d s (sym (after_other es doc d r h other) ∙ e)
]

-- the ranks of the next document
pub rank_within : (part : ℕ → Bool) (xs : List ℕ) (es : List Placed) (doc n : ℕ) (r : Option ℕ) → Taken es doc r → AreRanksOf part xs es → length xs ≤ n → IsRankWithin n r
unfolding AreRanksOf
rank_within part xs es doc n None h f short = tt
rank_within part xs es doc n (Some r) h f short = let here = rank_place xs doc r (f doc r (sym h.here)).0 in (here.0, omega (arith, here.1.0))

flag_kept : (depth : ℕ → ℕ) (x y : Option ℕ) (flags : List Bool) (place : ℕ) → ((r : ℕ) → x ≡ Some r → place ≢ r - 1) → get_or (raised depth x y flags) place false ≡ get_or flags place false
flag_kept depth None y flags place f = refl
flag_kept depth (Some x) None flags place f = refl
flag_kept depth (Some x) (Some y) flags place f = at (nat_le y (depth (x - 1)))
  where
    at : (b : Bool) → get_or (if b then set flags (x - 1) true else flags) place false ≡ get_or flags place false
    at true = get_or-set_other flags (x - 1) place true false (f x refl)
    at false = refl

flag_here : (ys : List ℕ) (depth : ℕ → ℕ) (doc place : ℕ) (x y : Option ℕ) (v : Bool) (flags : List Bool) → place < length flags → ((r : ℕ) → x ≡ Some r → r ≡ place + 1) → ((r : ℕ) → y ≡ Some r → rank ys doc ≡ Some r) → ((r s : ℕ) → x ≡ Some r → y ≡ Some s → v ≡ false) →
    get_or flags place false ≡ ((is_in (take (depth place) ys) doc && not v) && not (both x y)) → get_or (raised depth x y flags) place false ≡ ((is_in (take (depth place) ys) doc && not v) && true)
flag_here ys depth doc place None y v flags lt fx fy free e = e
flag_here ys depth doc place (Some x) None v flags lt fx fy free e = e
flag_here ys depth doc place (Some x) (Some y) v flags lt fx fy free e =
    let here : x - 1 ≡ place = omega (arith, fx x refl) in
    let test = is_in (take (depth place) ys) doc in
    let by : (test && not v) ≡ nat_le y (depth (x - 1)) = ap (λ u. test && not u) (free x y refl refl) ∙ and-true test ∙ rank_by (depth place) doc ys ∙ ap (is_by (depth place)) (fy y refl) ∙ ap (λ (k : ℕ). nat_le y (depth k)) (sym here) in
    at (nat_le y (depth (x - 1))) by here
  where
    at : (b : Bool) → (is_in (take (depth place) ys) doc && not v) ≡ b → x - 1 ≡ place → get_or (if b then set flags (x - 1) true else flags) place false ≡ ((is_in (take (depth place) ys) doc && not v) && true)
    at true eb here = ap (λ (k : ℕ). get_or (set flags k true) place false) here ∙ get_or-set_same flags place true false lt ∙ sym (ap (λ b. b && true) eb)
    at false eb here = e ∙ and-false (is_in (take (depth place) ys) doc && not v) ∙ sym (ap (λ b. b && true) eb)

raised_length : (depth : ℕ → ℕ) (x y : Option ℕ) (flags : List Bool) → length (raised depth x y flags) ≡ length flags
raised_length depth None y flags = refl
raised_length depth (Some x) None flags = refl
raised_length depth (Some x) (Some y) flags = at (nat_le y (depth (x - 1)))
  where
    at : (b : Bool) → length (if b then set flags (x - 1) true else flags) ≡ length flags
    at true = length-set flags (x - 1) true
    at false = refl

-- one document more
pub walked_more : (part elsewhere : ℕ → Bool) (xs ys : List ℕ) (depth : ℕ → ℕ) (es fs : List Placed) (flags : List Bool) (doc : ℕ) (x y : Option ℕ) → IsDistinct nat_eq xs → Taken es doc x → Taken fs doc y → AreRanksOf part xs es → AreRanksOf part ys fs → ((r s : ℕ) → x ≡ Some r → y ≡ Some s → elsewhere doc ≡ false) →
    AreWalked elsewhere xs ys depth es fs flags → AreWalked elsewhere xs ys depth (after es doc) (after fs doc) (raised depth x y flags)
unfolding AreRanksOf
walked_more part elsewhere xs ys depth es fs flags doc x y distinct hx hy rx ry free w = record { long = omega (arith, raised_length depth x y flags, w.long); each = more }
  where
    kept : (place : ℕ) → place < length xs → get_or xs place 0 ≢ doc → get_or (raised depth x y flags) place false ≡ ((is_in (take (depth place) ys) (get_or xs place 0) && not (elsewhere (get_or xs place 0))) && not (both (lookup (after es doc) (get_or xs place 0)) (lookup (after fs doc) (get_or xs place 0))))
    kept place lt ne =
        let d = get_or xs place 0 in
        let test = is_in (take (depth place) ys) d && not (elsewhere d) in
        let apart : (r : ℕ) → x ≡ Some r → place ≢ r - 1 = λ r e same. ne (ap (λ (k : ℕ). get_or xs k 0) same ∙ (rank_place xs doc r (rx doc r (sym hx.here ∙ e)).0).1.1) in
        flag_kept depth x y flags place apart ∙ w.each place lt ∙ ap (λ o. test && not (both o (lookup fs d))) (sym (after_other es doc d x hx ne)) ∙ ap (λ o. test && not (both (lookup (after es doc) d) o)) (sym (after_other fs doc d y hy ne))

    here : (place : ℕ) → place < length xs → get_or xs place 0 ≡ doc → get_or (raised depth x y flags) place false ≡ ((is_in (take (depth place) ys) (get_or xs place 0) && not (elsewhere (get_or xs place 0))) && not (both (lookup (after es doc) (get_or xs place 0)) (lookup (after fs doc) (get_or xs place 0))))
    here place lt same =
        let d = get_or xs place 0 in
        let test = is_in (take (depth place) ys) d && not (elsewhere d) in
        let first : lookup es d ≡ x = ap (lookup es) same ∙ sym hx.here in
        let second : lookup fs d ≡ y = ap (lookup fs) same ∙ sym hy.here in
        let before : get_or flags place false ≡ (test && not (both x y)) = w.each place lt ∙ ap (λ o. test && not (both o (lookup fs d))) first ∙ ap (λ o. test && not (both x o)) second in
        let place_of : (r : ℕ) → x ≡ Some r → r ≡ place + 1 = λ r e.
        let one : rank xs d ≡ Some r = (rx d r (first ∙ e)).0 in
        let two : rank xs d ≡ Some (place + 1) = rank_at xs place distinct lt in cc in
        flag_here ys depth d place x y (elsewhere d) flags (omega (arith, w.long)) place_of (λ r e. (ry d r (second ∙ e)).0) (λ r s ex ey. ap elsewhere same ∙ free r s ex ey) before
        ∙ sym (ap (λ o. test && not (both o (lookup (after fs doc) d))) (ap (lookup (after es doc)) same ∙ after_same es doc x hx))

    more : (place : ℕ) → place < length xs → get_or (raised depth x y flags) place false ≡ ((is_in (take (depth place) ys) (get_or xs place 0) && not (elsewhere (get_or xs place 0))) && not (both (lookup (after es doc) (get_or xs place 0)) (lookup (after fs doc) (get_or xs place 0))))
    more place lt = elim (same_or_not (get_or xs place 0) doc) [ inl same ↦ here place lt same | inr other ↦ kept place lt other ]

-- before the first document
pub walked_start : (elsewhere : ℕ → Bool) (xs ys : List ℕ) (depth : ℕ → ℕ) (es fs : List Placed) (flags : List Bool) → IsDistinct nat_eq xs → length xs ≤ length flags →
    ((doc r s : ℕ) → rank xs doc ≡ Some r → rank ys doc ≡ Some s → (elsewhere doc ≡ true) ⊎ (both (lookup es doc) (lookup fs doc) ≡ true)) → ((place : ℕ) → get_or flags place false ≡ false) → AreWalked elsewhere xs ys depth es fs flags
walked_start elsewhere xs ys depth es fs flags distinct long left down = record {
  long = long;
  each = λ place lt. let d = get_or xs place 0 in down place ∙ sym (none (depth place) d (place + 1) (rank_at xs place distinct lt) (rank ys d) refl);
}
  where
    none_left : (k d : ℕ) → (elsewhere d ≡ true) ⊎ (both (lookup es d) (lookup fs d) ≡ true) → ((is_in (take k ys) d && not (elsewhere d)) && not (both (lookup es d) (lookup fs d))) ≡ false
    none_left k d (inl e) = ap (λ v. (is_in (take k ys) d && not v) && not (both (lookup es d) (lookup fs d))) e ∙ ap (λ v. v && not (both (lookup es d) (lookup fs d))) (and-false (is_in (take k ys) d))
    none_left k d (inr e) = ap (λ v. (is_in (take k ys) d && not (elsewhere d)) && not v) e ∙ and-false (is_in (take k ys) d && not (elsewhere d))

    none : (k d r : ℕ) → rank xs d ≡ Some r → (o : Option ℕ) → rank ys d ≡ o → ((is_in (take k ys) d && not (elsewhere d)) && not (both (lookup es d) (lookup fs d))) ≡ false
    none k d r er None e = ap (λ v. (v && not (elsewhere d)) && not (both (lookup es d) (lookup fs d))) (rank_by k d ys ∙ ap (is_by k) e)
    none k d r er (Some s) e = none_left k d (left d r s er e)

-- after the last one of either list, and elsewhere
pub walked_end : (elsewhere : ℕ → Bool) (xs ys : List ℕ) (depth : ℕ → ℕ) (es fs : List Placed) (flags : List Bool) → ((doc : ℕ) → both (lookup es doc) (lookup fs doc) ≡ false) → ((doc : ℕ) → elsewhere doc ≡ false) → AreWalked elsewhere xs ys depth es fs flags → AreFlags xs ys depth flags
walked_end elsewhere xs ys depth es fs flags none other w = record {
  each = λ place lt.
      let d = get_or xs place 0 in
      let test = is_in (take (depth place) ys) d in
      w.each place lt ∙ ap (λ b. (test && not (elsewhere d)) && not b) (none d) ∙ and-true (test && not (elsewhere d)) ∙ ap (λ b. test && not b) (other d) ∙ and-true test;
}

both_none : (o : Option ℕ) → both o None ≡ false
both_none None = refl
both_none (Some x) = refl

pub none_left : (es fs : List Placed) → (es ≡ []) ⊎ (fs ≡ []) → (d : ℕ) → both (lookup es d) (lookup fs d) ≡ false
none_left es fs (inl h) d = ap (λ (gs : List Placed). both (lookup gs d) (lookup fs d)) h
none_left es fs (inr h) d = ap (λ (gs : List Placed). both (lookup es d) (lookup gs d)) h ∙ both_none (lookup es d)

walk_by : (part elsewhere : ℕ → Bool) (xs ys : List ℕ) (es fs : List Placed) (f s : List Bool) (doc : ℕ) (x y : Option ℕ) → IsDistinct nat_eq xs → IsDistinct nat_eq ys → Taken es doc x → Taken fs doc y → IsWalk part elsewhere xs ys es fs f s →
    IsWalk part elsewhere xs ys (after es doc) (after fs doc) (raised (λ place. place) x y f) (raised (λ place. place + 1) y x s)
unfolding AreRanksOf
walk_by part elsewhere xs ys es fs f s doc x y dx dy hx hy w = record {
  first_short = w.first_short;
  second_short = w.second_short;
  first_distinct = w.first_distinct;
  second_distinct = w.second_distinct;
  first_ascends = hx.ascending;
  second_ascends = hy.ascending;
  first_ranks = ranks_after part xs es doc x hx w.first_ranks;
  second_ranks = ranks_after part ys fs doc y hy w.second_ranks;
  first = walked_more part elsewhere xs ys (λ place. place) es fs f doc x y dx hx hy w.first_ranks w.second_ranks (λ r t ex ey. w.apart doc (w.first_ranks doc r (sym hx.here ∙ ex)).1) w.first;
  second = walked_more part elsewhere ys xs (λ place. place + 1) fs es s doc y x dy hy hx w.second_ranks w.first_ranks (λ r t ey ex. w.apart doc (w.second_ranks doc r (sym hy.here ∙ ey)).1) w.second;
  apart = w.apart;
}

after_head : (x : Placed) (es : List Placed) → after (x ∷ es) x.doc ≡ es
after_head x es = ap (λ b. if b then es else x ∷ es) (self x.doc)
  where
    self : (m : ℕ) → nat_eq m m ≡ true
    self m = grind (arith, nat_tests)

after_none : (doc : ℕ) (x : Placed) (es : List Placed) → doc < x.doc → after (x ∷ es) doc ≡ x ∷ es
after_none doc x es h = ap (λ b. if b then es else x ∷ es) (apart x.doc doc h)
  where
    apart : (m n : ℕ) → n < m → nat_eq m n ≡ false
    apart m n h = grind (arith, nat_tests)

all_later : (doc : ℕ) (x : Placed) (es : List Placed) → doc < x.doc → IsAscending (x ∷ es) → AllByRecursion (λ (e : Placed). doc < e.doc) (x ∷ es)
all_later doc x es lt h = (lt, further doc x.doc es (omega arith) h.0)

-- the lists after the first places of both
abbrev pub left : Placed → Placed → List Placed → List Placed
left x y es = if nat_le x.doc y.doc then es else x ∷ es

left_by : (b : Bool) (x y : Placed) (es : List Placed) → nat_le x.doc y.doc ≡ b → left x y es ≡ (if b then es else x ∷ es)
left_by b x y es e = ap (λ c. if c then es else x ∷ es) e

entered_by : (b : Bool) (depth : ℕ → ℕ) (x y : Placed) (flags : List Bool) → nat_eq x.doc y.doc ≡ b → entered depth x y flags ≡ (if b then flagged depth x.rank y.rank flags else flags)
entered_by b depth x y flags e = ap (λ c. if c then flagged depth x.rank y.rank flags else flags) e

tests : (m n : ℕ) → (m < n → (nat_le m n ≡ true) × ((nat_le n m ≡ false) × ((nat_eq m n ≡ false) × (nat_eq n m ≡ false))))
tests m n h = (grind (arith, nat_tests), (grind (arith, nat_tests), (grind (arith, nat_tests), grind (arith, nat_tests))))

same_tests : (m n : ℕ) → m ≡ n → (nat_le m n ≡ true) × ((nat_le n m ≡ true) × ((nat_eq m n ≡ true) × (nat_eq n m ≡ true)))
same_tests m n h = (grind (arith, nat_tests), (grind (arith, nat_tests), (grind (arith, nat_tests), grind (arith, nat_tests))))

abbrev After : (ℕ → Bool) → (ℕ → Bool) → List ℕ → List ℕ → Placed → Placed → List Placed → List Placed → List Bool → List Bool → Type 0
After part elsewhere xs ys x y es fs f s = IsWalk part elsewhere xs ys (left x y es) (left y x fs) (entered (λ place. place) x y f) (entered (λ place. place + 1) y x s)

same_walk : (part elsewhere : ℕ → Bool) (xs ys : List ℕ) (es es' fs fs' : List Placed) (f f' s s' : List Bool) → es ≡ es' → fs ≡ fs' → f ≡ f' → s ≡ s' → IsWalk part elsewhere xs ys es fs f s → IsWalk part elsewhere xs ys es' fs' f' s'
same_walk part elsewhere xs ys es es' fs fs' f f' s s' e g h k w =
    subst (λ (x : List Placed). IsWalk part elsewhere xs ys x fs' f' s') e (subst (λ (x : List Placed). IsWalk part elsewhere xs ys es x f' s') g (subst (λ (x : List Bool). IsWalk part elsewhere xs ys es fs x s') h (subst (λ (x : List Bool). IsWalk part elsewhere xs ys es fs f x) k w)))

-- one step of it
pub walk_next : (part elsewhere : ℕ → Bool) (xs ys : List ℕ) (x y : Placed) (es fs : List Placed) (f s : List Bool) → IsDistinct nat_eq xs → IsDistinct nat_eq ys → IsWalk part elsewhere xs ys (x ∷ es) (y ∷ fs) f s → After part elsewhere xs ys x y es fs f s
walk_next part elsewhere xs ys x y es fs f s dx dy w = elim (same_or_not x.doc y.doc) [
  | inl same ↦
      let t = same_tests x.doc y.doc same in
      let second : Taken (y ∷ fs) x.doc (Some y.rank) = subst (λ (d : ℕ). Taken (y ∷ fs) d (Some y.rank)) (sym same) (taken_head y fs w.second_ascends) in
      let here = walk_by part elsewhere xs ys (x ∷ es) (y ∷ fs) f s x.doc (Some x.rank) (Some y.rank) dx dy (taken_head x es w.first_ascends) second w in
      let gone : after (y ∷ fs) x.doc ≡ fs = ap (after (y ∷ fs)) same ∙ after_head y fs in
      same_walk part elsewhere xs ys _ (left x y es) _ (left y x fs) _ (entered (λ place. place) x y f) _ (entered (λ place. place + 1) y x s) (after_head x es ∙ sym (left_by true x y es t.0)) (gone ∙ sym (left_by true y x fs t.1.0)) (sym (entered_by true (λ place. place) x y f t.1.1.0)) (sym (entered_by true (λ place. place + 1) y x s t.1.1.1)) here
  | inr other ↦ apart (split_less x.doc y.doc other)
]
  where
    apart : (x.doc < y.doc) ⊎ (y.doc < x.doc) → After part elsewhere xs ys x y es fs f s
    apart (inl less) =
        let t = tests x.doc y.doc less in
        let here = walk_by part elsewhere xs ys (x ∷ es) (y ∷ fs) f s x.doc (Some x.rank) None dx dy (taken_head x es w.first_ascends) (taken_none (y ∷ fs) x.doc (all_later x.doc y fs less w.second_ascends) w.second_ascends) w in
        same_walk part elsewhere xs ys _ (left x y es) _ (left y x fs) _ (entered (λ place. place) x y f) _ (entered (λ place. place + 1) y x s) (after_head x es ∙ sym (left_by true x y es t.0)) (after_none x.doc y fs less ∙ sym (left_by false y x fs t.1.0)) (sym (entered_by false (λ place. place) x y f t.1.1.0)) (sym (entered_by false (λ place. place + 1) y x s t.1.1.1)) here
    apart (inr more) =
        let t = tests y.doc x.doc more in
        let here = walk_by part elsewhere xs ys (x ∷ es) (y ∷ fs) f s y.doc None (Some y.rank) dx dy (taken_none (x ∷ es) y.doc (all_later y.doc x es more w.first_ascends) w.first_ascends) (taken_head y fs w.second_ascends) w in
        same_walk part elsewhere xs ys _ (left x y es) _ (left y x fs) _ (entered (λ place. place) x y f) _ (entered (λ place. place + 1) y x s) (after_none y.doc x es more ∙ sym (left_by false x y es t.1.0)) (after_head y fs ∙ sym (left_by true y x fs t.0)) (sym (entered_by false (λ place. place) x y f t.1.1.1)) (sym (entered_by false (λ place. place + 1) y x s t.1.1.0)) here

-- the ranks of its first places
pub head_rank : (part : ℕ → Bool) (xs : List ℕ) (x : Placed) (es : List Placed) (n : ℕ) → IsAscending (x ∷ es) → AreRanksOf part xs (x ∷ es) → length xs ≤ n → (1 ≤ x.rank) × (x.rank ≤ n)
head_rank part xs x es n h f short = rank_within part xs (x ∷ es) x.doc n (Some x.rank) (taken_head x es h) f short

pub opened : (es : List Placed) (i : ℕ) (d : Placed) → i < length es → drop i es ≡ get_or es i d ∷ drop (i + 1) es
opened es i d h = let next : suc i ≡ i + 1 = omega arith in drop-cons es i d h ∙ ap (λ (k : ℕ). get_or es i d ∷ drop k es) next

left_drop : (es : List Placed) (i p : ℕ) (d y : Placed) → i < length es → p ≡ (if nat_le (get_or es i d).doc y.doc then 1 else 0) → drop (i + p) es ≡ left (get_or es i d) y (drop (i + 1) es)
left_drop es i p d y h e = at (nat_le (get_or es i d).doc y.doc) e
  where
    at : (b : Bool) → p ≡ (if b then 1 else 0) → drop (i + p) es ≡ (if b then drop (i + 1) es else get_or es i d ∷ drop (i + 1) es)
    at true h' = ap (λ (k : ℕ). drop (i + k) es) h'
    at false h' = let here : i + p ≡ i = omega (arith, h') in ap (λ (k : ℕ). drop k es) here ∙ opened es i d h

-- one step of the places
pub walk_step : (part elsewhere : ℕ → Bool) (xs ys : List ℕ) (es fs : List Placed) (i j p q : ℕ) (d : Placed) (f s : List Bool) → IsDistinct nat_eq xs → IsDistinct nat_eq ys → i < length es → j < length fs →
    p ≡ (if nat_le (get_or es i d).doc (get_or fs j d).doc then 1 else 0) → q ≡ (if nat_le (get_or fs j d).doc (get_or es i d).doc then 1 else 0) → IsWalk part elsewhere xs ys (drop i es) (drop j fs) f s →
    IsWalk part elsewhere xs ys (drop (i + p) es) (drop (j + q) fs) (entered (λ place. place) (get_or es i d) (get_or fs j d) f) (entered (λ place. place + 1) (get_or fs j d) (get_or es i d) s)
walk_step part elsewhere xs ys es fs i j p q d f s dx dy hi hj ep eq w =
    let x = get_or es i d in
    let y = get_or fs j d in
    let here = same_walk part elsewhere xs ys (drop i es) (x ∷ drop (i + 1) es) (drop j fs) (y ∷ drop (j + 1) fs) f f s s (opened es i d hi) (opened fs j d hj) refl refl w in
    same_walk part elsewhere xs ys _ (drop (i + p) es) _ (drop (j + q) fs) _ (entered (λ place. place) x y f) _ (entered (λ place. place + 1) y x s) (sym (left_drop es i p d y hi ep)) (sym (left_drop fs j q d x hj eq)) refl refl (walk_next part elsewhere xs ys x y (drop (i + 1) es) (drop (j + 1) fs) f s dx dy here)

pub rank_first : (part elsewhere : ℕ → Bool) (xs ys : List ℕ) (es fs : List Placed) (i n : ℕ) (d : Placed) (f s : List Bool) → i < length es → IsWalk part elsewhere xs ys (drop i es) fs f s → length xs ≤ n → (1 ≤ (get_or es i d).rank) × ((get_or es i d).rank ≤ n)
rank_first part elsewhere xs ys es fs i n d f s h w short =
    head_rank part xs (get_or es i d) (drop (i + 1) es) n (subst IsAscending (opened es i d h) w.first_ascends) (subst (AreRanksOf part xs) (opened es i d h) w.first_ranks) short

pub rank_second : (part elsewhere : ℕ → Bool) (xs ys : List ℕ) (es fs : List Placed) (j n : ℕ) (d : Placed) (f s : List Bool) → j < length fs → IsWalk part elsewhere xs ys es (drop j fs) f s → length ys ≤ n → (1 ≤ (get_or fs j d).rank) × ((get_or fs j d).rank ≤ n)
rank_second part elsewhere xs ys es fs j n d f s h w short =
    head_rank part ys (get_or fs j d) (drop (j + 1) fs) n (subst IsAscending (opened fs j d h) w.second_ascends) (subst (AreRanksOf part ys) (opened fs j d h) w.second_ranks) short

-- ---- the next documents of both lists
-- the counts with them, of which some unjudged ones are now in both
pub record AreDeeper (marks : List Mark) (a b : List ℕ) (place gone : ℕ) (before : Prefixes) (one two : Counts) : Type 0 where
  pub after : Prefixes
  pub counts : ArePrefixes marks (take (place + 1) a) (take (place + 1) b) after
  pub first : after.first.relevant ≡ before.first.relevant + one.relevant
  pub second : after.second.relevant ≡ before.second.relevant + two.relevant
  pub first_open : after.first.unjudged + gone ≡ before.first.unjudged + one.unjudged
  pub second_open : after.second.unjudged + gone ≡ before.second.unjudged + two.unjudged

pub deeper : (marks : List Mark) (a b : List ℕ) (place : ℕ) (f : Prefixes) (one two : Counts) (both : ℕ) → AreBefore marks a b place f one two both → AreDeeper marks a b place both f one two
deeper marks a b place f one two both h =
    let v = is_in (take place b) (get_or a place 0) in
    let w = is_in (take (place + 1) a) (get_or b place 0) in
    let m = after_next marks a (take place b) place v f one h.first_distinct (record { counts = h.counts; next = λ k. refl; distinct = IsDistinct-take place b h.second_distinct }) h.first in
    let swapped_facts = prefixes_swapped marks (take (place + 1) a) (take place b) m.after m.counts in
    let n = after_next marks b (take (place + 1) a) place w (swapped m.after) two h.second_distinct (record { counts = swapped_facts; next = λ k. refl; distinct = IsDistinct-take (place + 1) a h.first_distinct }) h.second in
    record {
      after = swapped n.after;
      counts = prefixes_swapped marks (take (place + 1) b) (take (place + 1) a) n.after n.counts;
      first = n.other ∙ m.relevant;
      second = n.relevant ∙ ap (λ (k : ℕ). k + two.relevant) m.other;
      first_open = omega (arith, n.gone, m.unjudged, number_either v one.unjudged, h.shared);
      second_open = omega (arith, n.unjudged, m.gone, number_either w two.unjudged, h.shared);
    }
