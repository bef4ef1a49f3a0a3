-- The walk over two runs in two parts, side by side.
use Rattle.std.proofs.Common.{◌≡◌, ℕ, zero, suc, ◌+◌, ◌<◌, ◌≤◌, Bool, true, false, not, ◌&&◌, nat_eq, nat_le, nat_lt, List, [], ◌∷◌, length, take, drop, get_or, replicate, Option, Some, None, arith, refl, ap, ◌∙◌, sym, subst, inl, inr, ◌⊎◌}
use Rattle.std.specs.Prelude.{if◌then◌else◌}
use Rattle.std.specs.List.{AllByRecursion, IsDistinct}
use Rattle.std.proofs.lemmas.Grind.{common_steps}
use Rattle.std.proofs.lemmas.Bool.Decides.{nat_tests}
use Rattle.std.proofs.lemmas.List.{length-replicate}
use Rattle.desk_model.specs.Placed.{lookup, IsAscending}
use Rattle.desk_model.specs.Ranking.{IsRanking, is_in, rank}
use Rattle.desk_model.specs.declared.placed.Placed.{Placed}
use Rattle.desk_model.specs.declared.types.Mark.{Mark}
use Rattle.rprec.specs.Shared.{AreShared, entered as counts_entered}
use Rattle.rprec.specs.Walk.{AreCounted, AreRanksOf, AreWalked, IsCountedWalk, IsWalk, both}
use Rattle.rprec.proofs.Flags.{all_down, entered, rank_first, rank_second, walk_step, walked_start, walked_end}
use Rattle.rprec.proofs.Counted.{counted_end, counted_start, counted_step, few_counted, known_first}

-- whether a document is left in two lists
abbrev pub both_in : List Placed → List Placed → ℕ → Bool
both_in es fs doc = both (lookup es doc) (lookup fs doc)

-- two walks over different documents, each of which leaves to the other what is not its own
pub record AreStrands (below above : ℕ → Bool) (xs ys : List ℕ) (es fs gs hs : List Placed) (f s : List Bool) : Type 0 where
  pub lower : IsWalk below (both_in gs hs) xs ys es fs f s
  pub upper : IsWalk above (both_in es fs) xs ys gs hs f s

-- ---- one walk goes on
both_sym : (o p : Option ℕ) → both o p ≡ both p o
both_sym None None = refl
both_sym None (Some y) = refl
both_sym (Some x) None = refl
both_sym (Some x) (Some y) = refl

swap : (t a b : Bool) → ((t && not a) && not b) ≡ ((t && not b) && not a)
swap true true true = refl
swap true true false = refl
swap true false true = refl
swap true false false = refl
swap false a b = refl

seen_from_there : (xs ys : List ℕ) (depth : ℕ → ℕ) (here there : ℕ → Bool) (es fs gs hs : List Placed) (flags : List Bool) → ((d : ℕ) → here d ≡ both_in es fs d) → ((d : ℕ) → there d ≡ both_in gs hs d) → AreWalked there xs ys depth es fs flags → AreWalked here xs ys depth gs hs flags
seen_from_there xs ys depth here there es fs gs hs flags eh et w = record {
  long = w.long;
  each = λ place lt.
      let d = get_or xs place 0 in
      let test = is_in (take (depth place) ys) d in
      w.each place lt ∙ swap test (there d) (both_in es fs d) ∙ ap (λ v. (test && not v) && not (there d)) (sym (eh d)) ∙ ap (λ v. (test && not (here d)) && not v) (et d);
}

no_other : (below above : ℕ → Bool) (xs : List ℕ) (es fs : List Placed) → ((doc : ℕ) → above doc ≡ true → below doc ≡ false) → AreRanksOf below xs es → (doc : ℕ) → above doc ≡ true → both_in es fs doc ≡ false
unfolding AreRanksOf
no_other below above xs es fs apart ranks doc e = by_test (lookup es doc) refl
  where
    by_test : (o : Option ℕ) → lookup es doc ≡ o → both o (lookup fs doc) ≡ false
    by_test None eo = refl
    by_test (Some r) eo = let own = (ranks doc r eo).1 in let not_own = apart doc e in absurd (let h' : true ≡ false = sym own ∙ not_own in cc)

pub strand_next : (below above : ℕ → Bool) (xs ys : List ℕ) (es fs es' fs' gs hs : List Placed) (f s f' s' : List Bool) → ((doc : ℕ) → above doc ≡ true → below doc ≡ false) → IsWalk below (both_in gs hs) xs ys es' fs' f' s' → AreStrands below above xs ys es fs gs hs f s →
    AreStrands below above xs ys es' fs' gs hs f' s'
strand_next below above xs ys es fs es' fs' gs hs f s f' s' apart w h = record {
  lower = w;
  upper = record {
    first_short = h.upper.first_short;
    second_short = h.upper.second_short;
    first_distinct = h.upper.first_distinct;
    second_distinct = h.upper.second_distinct;
    first_ascends = h.upper.first_ascends;
    second_ascends = h.upper.second_ascends;
    first_ranks = h.upper.first_ranks;
    second_ranks = h.upper.second_ranks;
    first = seen_from_there xs ys (λ place. place) (both_in es' fs') (both_in gs hs) es' fs' gs hs f' (λ d. refl) (λ d. refl) w.first;
    second = seen_from_there ys xs (λ place. place + 1) (both_in es' fs') (both_in gs hs) fs' es' hs gs s' (λ d. both_sym (lookup es' d) (lookup fs' d)) (λ d. both_sym (lookup gs d) (lookup hs d)) w.second;
    apart = no_other below above xs es' fs' apart w.first_ranks;
  };
}

pub strands_swapped : (below above : ℕ → Bool) (xs ys : List ℕ) (es fs gs hs : List Placed) (f s : List Bool) → AreStrands below above xs ys es fs gs hs f s → AreStrands above below xs ys gs hs es fs f s
strands_swapped below above xs ys es fs gs hs f s h = record { lower = h.upper; upper = h.lower }

-- ---- the parts of a list
-- below a document, and from it on
abbrev pub is_below : ℕ → ℕ → Bool
is_below middle doc = nat_lt doc middle

abbrev pub is_above : ℕ → ℕ → Bool
is_above middle doc = not (nat_lt doc middle)

pub below_apart : (middle doc : ℕ) → is_above middle doc ≡ true → is_below middle doc ≡ false
below_apart middle doc e = by_test (nat_lt doc middle) e
  where
    by_test : (b : Bool) → not b ≡ true → b ≡ false
    by_test false h = refl
    by_test true h = sym h

pub above_apart : (middle doc : ℕ) → is_below middle doc ≡ true → is_above middle doc ≡ false
above_apart middle doc e = ap not e

-- the parts of the places of a run
pub record AreParts (middle : ℕ) (all below above : List Placed) : Type 0 where
  pub lower : IsAscending below
  pub upper : IsAscending above
  pub low : (doc : ℕ) → lookup below doc ≡ (if nat_lt doc middle then lookup all doc else None)
  pub high : (doc : ℕ) → lookup above doc ≡ (if nat_lt doc middle then None else lookup all doc)

ranks_below : (middle : ℕ) (xs : List ℕ) (all es gs : List Placed) → AreParts middle all es gs → ((doc : ℕ) → lookup all doc ≡ rank xs doc) → AreRanksOf (is_below middle) xs es
unfolding AreRanksOf
ranks_below middle xs all es gs h ranks doc r e = by_test (nat_lt doc middle) refl (sym (h.low doc) ∙ e)
  where
    by_test : (b : Bool) → nat_lt doc middle ≡ b → (if b then lookup all doc else None) ≡ Some r → (rank xs doc ≡ Some r) × (nat_lt doc middle ≡ true)
    by_test true eb eo = (sym (ranks doc) ∙ eo, eb)
    by_test false eb eo = absurd (cc)

ranks_above : (middle : ℕ) (xs : List ℕ) (all es gs : List Placed) → AreParts middle all es gs → ((doc : ℕ) → lookup all doc ≡ rank xs doc) → AreRanksOf (is_above middle) xs gs
unfolding AreRanksOf
ranks_above middle xs all es gs h ranks doc r e = by_test (nat_lt doc middle) refl (sym (h.high doc) ∙ e)
  where
    by_test : (b : Bool) → nat_lt doc middle ≡ b → (if b then None else lookup all doc) ≡ Some r → (rank xs doc ≡ Some r) × (not (nat_lt doc middle) ≡ true)
    by_test false eb eo = (sym (ranks doc) ∙ eo, ap not eb)
    by_test true eb eo = absurd (cc)

-- a document of both runs is left in the one part or in the other
left_somewhere : (middle : ℕ) (xs ys : List ℕ) (all every es fs gs hs : List Placed) → AreParts middle all es gs → AreParts middle every fs hs → ((doc : ℕ) → lookup all doc ≡ rank xs doc) → ((doc : ℕ) → lookup every doc ≡ rank ys doc) →
    (doc r s : ℕ) → rank xs doc ≡ Some r → rank ys doc ≡ Some s → (both_in gs hs doc ≡ true) ⊎ (both_in es fs doc ≡ true)
left_somewhere middle xs ys all every es fs gs hs h k ex ey doc r s er es' = by_test (nat_lt doc middle) refl
  where
    found : (o p : Option ℕ) → o ≡ Some r → p ≡ Some s → both o p ≡ true
    found o p eo ep = ap (λ (x : Option ℕ). both x p) eo ∙ ap (λ (x : Option ℕ). both (Some r) x) ep

    by_test : (b : Bool) → nat_lt doc middle ≡ b → (both_in gs hs doc ≡ true) ⊎ (both_in es fs doc ≡ true)
    by_test true eb = inr (found (lookup es doc) (lookup fs doc) (h.low doc ∙ ap (λ (v : Bool). if v then lookup all doc else None) eb ∙ ex doc ∙ er) (k.low doc ∙ ap (λ (v : Bool). if v then lookup every doc else None) eb ∙ ey doc ∙ es'))
    by_test false eb = inl (found (lookup gs doc) (lookup hs doc) (h.high doc ∙ ap (λ (v : Bool). if v then None else lookup all doc) eb ∙ ex doc ∙ er) (k.high doc ∙ ap (λ (v : Bool). if v then None else lookup every doc) eb ∙ ey doc ∙ es'))

swapped_somewhere : (a b : Bool) → (a ≡ true) ⊎ (b ≡ true) → (b ≡ true) ⊎ (a ≡ true)
swapped_somewhere a b (inl e) = inr e
swapped_somewhere a b (inr e) = inl e

-- before the first step of either walk
strand_start : (below above : ℕ → Bool) (xs ys : List ℕ) (es fs gs hs : List Placed) (f s : List Bool) → length xs ≤ 10000 → length ys ≤ 10000 → IsDistinct nat_eq xs → IsDistinct nat_eq ys → length xs ≤ length f → length ys ≤ length s → IsAscending es → IsAscending fs →
    AreRanksOf below xs es → AreRanksOf below ys fs → AreRanksOf above xs gs → ((doc : ℕ) → below doc ≡ true → above doc ≡ false) →
    ((doc r t : ℕ) → rank xs doc ≡ Some r → rank ys doc ≡ Some t → (both_in gs hs doc ≡ true) ⊎ (both_in es fs doc ≡ true)) → ((place : ℕ) → get_or f place false ≡ false) → ((place : ℕ) → get_or s place false ≡ false) → IsWalk below (both_in gs hs) xs ys es fs f s
strand_start below above xs ys es fs gs hs f s sx sy dx dy lx ly ax ay rx ry other apart left df ds = record {
  first_short = sx;
  second_short = sy;
  first_distinct = dx;
  second_distinct = dy;
  first_ascends = ax;
  second_ascends = ay;
  first_ranks = rx;
  second_ranks = ry;
  first = walked_start (both_in gs hs) xs ys (λ place. place) es fs f dx lx left df;
  second = walked_start (both_in gs hs) ys xs (λ place. place + 1) fs es s dy ly (λ doc r t er et. swapped_left doc (left doc t r et er)) ds;
  apart = no_other above below xs gs hs apart other;
}
  where
    swapped_left : (doc : ℕ) → (both_in gs hs doc ≡ true) ⊎ (both_in es fs doc ≡ true) → (both_in gs hs doc ≡ true) ⊎ (both (lookup fs doc) (lookup es doc) ≡ true)
    swapped_left doc (inl e) = inl e
    swapped_left doc (inr e) = inr (both_sym (lookup fs doc) (lookup es doc) ∙ e)

pub strands_start : (middle : ℕ) (xs ys : List ℕ) (all every es fs gs hs : List Placed) (f s : List Bool) → length xs ≤ 10000 → length ys ≤ 10000 → IsDistinct nat_eq xs → IsDistinct nat_eq ys → length xs ≤ length f → length ys ≤ length s → AreParts middle all es gs → AreParts middle every fs hs →
    ((doc : ℕ) → lookup all doc ≡ rank xs doc) → ((doc : ℕ) → lookup every doc ≡ rank ys doc) → ((place : ℕ) → get_or f place false ≡ false) → ((place : ℕ) → get_or s place false ≡ false) →
    AreStrands (is_below middle) (is_above middle) xs ys es fs gs hs f s
strands_start middle xs ys all every es fs gs hs f s sx sy dx dy lx ly h k ex ey df ds =
    let left = left_somewhere middle xs ys all every es fs gs hs h k ex ey in
    let low = ranks_below middle xs all es gs h ex in
    let low_other = ranks_below middle ys every fs hs k ey in
    let high = ranks_above middle xs all es gs h ex in
    let high_other = ranks_above middle ys every fs hs k ey in
    record {
      lower = strand_start (is_below middle) (is_above middle) xs ys es fs gs hs f s sx sy dx dy lx ly h.lower k.lower low low_other high (above_apart middle) left df ds;
      upper = strand_start (is_above middle) (is_below middle) xs ys gs hs es fs f s sx sy dx dy lx ly h.upper k.upper high high_other low (below_apart middle) (λ doc r t er et. swapped_somewhere (both_in gs hs doc) (both_in es fs doc) (left doc r t er et)) df ds;
    }

-- ---- two walks with the counts so far
pub record AreCountedStrands (marks : List Mark) (below above : ℕ → Bool) (xs ys : List ℕ) (es fs gs hs : List Placed) (counts : List ℕ) : Type 0 where
  pub in_second : List Bool
  pub in_first : List Bool
  pub strands : AreStrands below above xs ys es fs gs hs in_second in_first
  pub counted : AreCounted marks xs ys in_second in_first counts

pub counted_swapped : (marks : List Mark) (below above : ℕ → Bool) (xs ys : List ℕ) (es fs gs hs : List Placed) (counts : List ℕ) → AreCountedStrands marks below above xs ys es fs gs hs counts → AreCountedStrands marks above below xs ys gs hs es fs counts
counted_swapped marks below above xs ys es fs gs hs counts h = record { in_second = h.in_second; in_first = h.in_first; strands = strands_swapped below above xs ys es fs gs hs h.in_second h.in_first h.strands; counted = h.counted }

-- the first of them, by itself
pub lower_walk : (marks : List Mark) (below above : ℕ → Bool) (xs ys : List ℕ) (es fs gs hs : List Placed) (counts : List ℕ) → AreCountedStrands marks below above xs ys es fs gs hs counts → IsCountedWalk marks below (both_in gs hs) xs ys es fs counts
lower_walk marks below above xs ys es fs gs hs counts h = record { in_second = h.in_second; in_first = h.in_first; walk = h.strands.lower; counted = h.counted }

-- the first of them goes on
pub strand_walked : (marks : List Mark) (below above : ℕ → Bool) (xs ys : List ℕ) (es fs es' fs' gs hs : List Placed) (counts counts' : List ℕ) → ((doc : ℕ) → above doc ≡ true → below doc ≡ false) → IsCountedWalk marks below (both_in gs hs) xs ys es' fs' counts' → AreCountedStrands marks below above xs ys es fs gs hs counts →
    AreCountedStrands marks below above xs ys es' fs' gs hs counts'
strand_walked marks below above xs ys es fs es' fs' gs hs counts counts' apart w h = record {
  in_second = w.in_second;
  in_first = w.in_first;
  strands = strand_next below above xs ys es fs es' fs' gs hs h.in_second h.in_first w.in_second w.in_first apart w.walk h.strands;
  counted = w.counted;
}

-- one step of a walk
pub walk_stepped : (marks : List Mark) (part elsewhere : ℕ → Bool) (xs ys : List ℕ) (es fs : List Placed) (i j p q : ℕ) (d : Placed) (counts counts' : List ℕ) → i < length es → j < length fs →
    p ≡ (if nat_le (get_or es i d).doc (get_or fs j d).doc then 1 else 0) → q ≡ (if nat_le (get_or fs j d).doc (get_or es i d).doc then 1 else 0) → counts' ≡ counts_entered marks (get_or es i d) (get_or fs j d) counts →
    IsCountedWalk marks part elsewhere xs ys (drop i es) (drop j fs) counts → IsCountedWalk marks part elsewhere xs ys (drop (i + p) es) (drop (j + q) fs) counts'
walk_stepped marks part elsewhere xs ys es fs i j p q d counts counts' hi hj ep eq ec w =
    let x = get_or es i d in
    let y = get_or fs j d in
    record {
      in_second = entered (λ place. place) x y w.in_second;
      in_first = entered (λ place. place + 1) y x w.in_first;
      walk = walk_step part elsewhere xs ys es fs i j p q d w.in_second w.in_first w.walk.first_distinct w.walk.second_distinct hi hj ep eq w.walk;
      counted =
          subst (λ (l : List ℕ). AreCounted marks xs ys (entered (λ place. place) x y w.in_second) (entered (λ place. place + 1) y x w.in_first) l) (sym ec)
          (counted_step marks part elsewhere xs ys es fs i j d w.in_second w.in_first counts hi hj w.walk w.counted);
    }

-- what the next step of a walk needs to know of its places
pub record AreNextPlaces (marks : List Mark) (x y : Placed) (counts : List ℕ) : Type 0 where
  pub first_low : 1 ≤ x.rank
  pub first_high : x.rank ≤ length counts
  pub second_low : 1 ≤ y.rank
  pub second_high : y.rank ≤ length counts
  pub known : x.doc < length marks
  pub few : (place : ℕ) → get_or counts place 0 ≤ 2

pub next_places : (marks : List Mark) (part elsewhere : ℕ → Bool) (xs ys : List ℕ) (es fs : List Placed) (i j : ℕ) (d : Placed) (counts : List ℕ) → i < length es → j < length fs → IsCountedWalk marks part elsewhere xs ys (drop i es) (drop j fs) counts → AreNextPlaces marks (get_or es i d) (get_or fs j d) counts
next_places marks part elsewhere xs ys es fs i j d counts hi hj w =
    let first = rank_first part elsewhere xs ys es (drop j fs) i (length counts) d w.in_second w.in_first hi w.walk w.counted.first_fit in
    let second = rank_second part elsewhere xs ys (drop i es) fs j (length counts) d w.in_second w.in_first hj w.walk w.counted.second_fit in
    record {
      first_low = first.0;
      first_high = first.1;
      second_low = second.0;
      second_high = second.1;
      known = known_first marks part elsewhere xs ys es (drop j fs) i d w.in_second w.in_first counts hi w.walk w.counted;
      few = few_counted marks xs ys w.in_second w.in_first counts w.counted;
    }

-- before the first step of both
pub counted_strands_start : (marks : List Mark) (middle : ℕ) (xs ys : List ℕ) (all every es fs gs hs : List Placed) (counts : List ℕ) → IsRanking (length marks) xs → IsRanking (length marks) ys → AreParts middle all es gs → AreParts middle every fs hs →
    ((doc : ℕ) → lookup all doc ≡ rank xs doc) → ((doc : ℕ) → lookup every doc ≡ rank ys doc) → ((place : ℕ) → get_or counts place 0 ≡ 0) → length xs ≤ length counts → length ys ≤ length counts →
    AreCountedStrands marks (is_below middle) (is_above middle) xs ys es fs gs hs counts
counted_strands_start marks middle xs ys all every es fs gs hs counts rx ry h k ex ey none first_fit second_fit =
    let down : List Bool = replicate 10000 false in
    let size : length down ≡ 10000 = length-replicate 10000 false in
    record {
      in_second = down;
      in_first = down;
      strands = strands_start middle xs ys all every es fs gs hs down down rx.short ry.short rx.distinct ry.distinct (omega (arith, size, rx.short)) (omega (arith, size, ry.short)) h k ex ey (all_down 10000) (all_down 10000);
      counted = counted_start marks xs ys down down counts (all_down 10000) (all_down 10000) first_fit second_fit rx.within none;
    }

-- after the last step of both
pub counted_strands_end : (marks : List Mark) (below above : ℕ → Bool) (xs ys : List ℕ) (es fs gs hs : List Placed) (counts : List ℕ) → ((doc : ℕ) → both_in es fs doc ≡ false) → ((doc : ℕ) → both_in gs hs doc ≡ false) → AreCountedStrands marks below above xs ys es fs gs hs counts → AreShared marks xs ys counts
counted_strands_end marks below above xs ys es fs gs hs counts none other h =
    let w = h.strands.lower in
    counted_end marks xs ys h.in_second h.in_first counts (walked_end (both_in gs hs) xs ys (λ place. place) es fs h.in_second none other w.first)
    (walked_end (both_in gs hs) ys xs (λ place. place + 1) fs es h.in_first (λ doc. both_sym (lookup fs doc) (lookup es doc) ∙ none doc) other w.second) h.counted

-- ---- cutting a list
-- a document below all of a list is not in it
absent_above : (middle doc : ℕ) (es : List Placed) → ((k : ℕ) (d : Placed) → k < length es → nat_lt (get_or es k d).doc middle ≡ false) → nat_lt doc middle ≡ true → lookup es doc ≡ None
absent_above middle doc [] f h = refl
absent_above middle doc (e ∷ es) f h = ap (λ b. if b then Some e.rank else lookup es doc) (apart (f 0 e (omega arith))) ∙ absent_above middle doc es (λ k d lt. f (suc k) d (omega arith)) h
  where
    apart : nat_lt e.doc middle ≡ false → nat_eq e.doc doc ≡ false
    apart g = grind (arith, nat_tests)

pub cut_below : (middle at : ℕ) (es : List Placed) → ((k : ℕ) (d : Placed) → k < at → nat_lt (get_or es k d).doc middle ≡ true) → ((k : ℕ) (d : Placed) → at ≤ k → k < length es → nat_lt (get_or es k d).doc middle ≡ false) → at ≤ length es →
    (doc : ℕ) → lookup (take at es) doc ≡ (if nat_lt doc middle then lookup es doc else None)
cut_below middle zero es f g le doc = by_test (nat_lt doc middle) refl
  where
    by_test : (b : Bool) → nat_lt doc middle ≡ b → None ≡ (if b then lookup es doc else None)
    by_test true eb = sym (absent_above middle doc es (λ k d lt. g k d (omega arith) lt) eb)
    by_test false eb = refl
cut_below middle (suc at) [] f g le doc = absurd (omega arith)
cut_below middle (suc at) (e ∷ es) f g le doc = by_test (cut_below middle at es (λ k d lt. f (suc k) d (omega arith)) (λ k d lo hi. g (suc k) d (omega arith) (omega arith)) (omega arith) doc) (nat_eq e.doc doc) refl
  where
    same : nat_eq e.doc doc ≡ true → nat_lt doc middle ≡ true
    same h = let here = f 0 e (omega arith) in grind (arith, nat_tests)

    by_test : lookup (take at es) doc ≡ (if nat_lt doc middle then lookup es doc else None) → (b : Bool) → nat_eq e.doc doc ≡ b → (if b then Some e.rank else lookup (take at es) doc) ≡ (if nat_lt doc middle then (if b then Some e.rank else lookup es doc) else None)
    by_test rest true eb = sym (ap (λ (v : Bool). if v then Some e.rank else None) (same eb))
    by_test rest false eb = rest

pub cut_above : (middle at : ℕ) (es : List Placed) → ((k : ℕ) (d : Placed) → k < at → nat_lt (get_or es k d).doc middle ≡ true) → ((k : ℕ) (d : Placed) → at ≤ k → k < length es → nat_lt (get_or es k d).doc middle ≡ false) → at ≤ length es →
    (doc : ℕ) → lookup (drop at es) doc ≡ (if nat_lt doc middle then None else lookup es doc)
cut_above middle zero es f g le doc = by_test (nat_lt doc middle) refl
  where
    by_test : (b : Bool) → nat_lt doc middle ≡ b → lookup es doc ≡ (if b then None else lookup es doc)
    by_test true eb = absent_above middle doc es (λ k d lt. g k d (omega arith) lt) eb
    by_test false eb = refl
cut_above middle (suc at) [] f g le doc = absurd (omega arith)
cut_above middle (suc at) (e ∷ es) f g le doc = by_test (cut_above middle at es (λ k d lt. f (suc k) d (omega arith)) (λ k d lo hi. g (suc k) d (omega arith) (omega arith)) (omega arith) doc) (nat_eq e.doc doc) refl
  where
    same : nat_eq e.doc doc ≡ true → nat_lt doc middle ≡ true
    same h = let here = f 0 e (omega arith) in grind (arith, nat_tests)

    by_test : lookup (drop at es) doc ≡ (if nat_lt doc middle then None else lookup es doc) → (b : Bool) → nat_eq e.doc doc ≡ b → lookup (drop at es) doc ≡ (if nat_lt doc middle then None else (if b then Some e.rank else lookup es doc))
    by_test rest true eb = rest ∙ ap (λ (v : Bool). if v then None else lookup es doc) (same eb) ∙ sym (ap (λ (v : Bool). if v then None else Some e.rank) (same eb))
    by_test rest false eb = rest

all_taken : {X : Type 0} (P : X → Type 0) (n : ℕ) (xs : List X) → AllByRecursion P xs → AllByRecursion P (take n xs)
all_taken P zero xs h = tt
all_taken P (suc n) [] h = tt
all_taken P (suc n) (x ∷ xs) h = (h.0, all_taken P n xs h.1)

pub ascending_taken : (n : ℕ) (es : List Placed) → IsAscending es → IsAscending (take n es)
ascending_taken zero es h = tt
ascending_taken (suc n) [] h = tt
ascending_taken (suc n) (e ∷ es) h = (all_taken (λ (f : Placed). e.doc < f.doc) n es h.0, ascending_taken n es h.1)

pub ascending_dropped : (n : ℕ) (es : List Placed) → IsAscending es → IsAscending (drop n es)
ascending_dropped zero es h = h
ascending_dropped (suc n) [] h = tt
ascending_dropped (suc n) (e ∷ es) h = ascending_dropped n es h.1

-- in an ascending list no document below another comes after one that is not
all_at : (P : Placed → Type 0) (es : List Placed) (k : ℕ) (d : Placed) → AllByRecursion P es → k < length es → P (get_or es k d)
all_at P [] k d h lt = absurd (omega arith)
all_at P (e ∷ es) zero d h lt = h.0
all_at P (e ∷ es) (suc k) d h lt = all_at P es k d h.1 (omega arith)

pub ascending_parted : (middle : ℕ) (es : List Placed) → IsAscending es → (i j : ℕ) (d : Placed) → i ≤ j → j < length es → nat_lt (get_or es j d).doc middle ≡ true → nat_lt (get_or es i d).doc middle ≡ true
ascending_parted middle [] h i j d le lt e = absurd (omega arith)
ascending_parted middle (x ∷ es) h zero zero d le lt e = e
ascending_parted middle (x ∷ es) h zero (suc j) d le lt e = let less = all_at (λ (f : Placed). x.doc < f.doc) es j d h.0 (omega arith) in below less e
  where
    below : x.doc < (get_or es j d).doc → nat_lt (get_or es j d).doc middle ≡ true → nat_lt x.doc middle ≡ true
    below less e = grind (arith, nat_tests)
ascending_parted middle (x ∷ es) h (suc i) zero d le lt e = absurd (omega arith)
ascending_parted middle (x ∷ es) h (suc i) (suc j) d le lt e = ascending_parted middle es h.1 i j d (omega arith) (omega arith) e

-- ---- steps
pub dropped_all : (n : ℕ) (es : List Placed) → length es ≤ n → drop n es ≡ []
dropped_all n es h = grind (arith, common_steps)

pub at_most_one : (b : Bool) (p : ℕ) → p ≡ (if b then 1 else 0) → p ≤ 1
at_most_one true p e = omega (arith, e)
at_most_one false p e = omega (arith, e)
