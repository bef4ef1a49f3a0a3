-- One pass over the documents of a list finds what it shares with another, by their ranks there.
use Rattle.std.proofs.Common.{◌≡◌, ◌≢◌, ℕ, zero, suc, ◌+◌, ◌-◌, ◌<◌, ◌≤◌, max, min, Bool, true, false, ◌&&◌, nat_eq, nat_lt, nat_le, List, All, length, take, get_or, Option, Some, None, arith, refl, ap, ◌∙◌, sym, subst, inl, inr}
use Rattle.std.specs.Prelude.{if◌then◌else◌}
use Rattle.std.specs.List.{IsDistinct}
use Rattle.std.proofs.lemmas.Bool.{cases_lt}
use Rattle.std.proofs.lemmas.Bool.Decides.{nat_tests}
use Rattle.std.proofs.lemmas.List.{length-set, take_all}
use Rattle.small_lemmas.proofs.Numbers.{same_or_not}
use Rattle.desk_model.specs.Mark.{is_unjudged, mark_at}
use Rattle.desk_model.specs.Ranking.{is_in, rank}
use Rattle.desk_model.specs.declared.types.Mark.{Mark}
use Rattle.topic_counts.proofs.Prefixes.{is_by, rank_by}
use Rattle.measure_core.specs.Worths.{rank_or_none}
use Rattle.measure_core.specs.Ranks.{AreRanksIn}
use Rattle.rprec.specs.Shared.{AreShared, counted, met}
use Rattle.rprec.proofs.Counted.{counted_one, one_where}
use Rattle.rprec.proofs.Flags.{rank_at, rank_place}

-- of the second list's first n documents, those at later places of the first list, and at no earlier ones
abbrev pub before : List Mark → List ℕ → List ℕ → ℕ → ℕ → ℕ
before marks xs ys n place = met marks xs (take (min place n) ys) place

abbrev pub here : List Mark → List ℕ → List ℕ → ℕ → ℕ → ℕ
here marks xs ys n place = if nat_lt place n then met marks ys (take (place + 1) xs) place else 0

-- the counts after so many documents of the second list
pub record AreSharedTo (n : ℕ) (marks : List Mark) (xs ys counts : List ℕ) : Type 0 where
  pub first_fit : length xs ≤ length counts
  pub second_fit : length ys ≤ length counts
  pub each : (place : ℕ) → get_or counts place 0 ≡ before marks xs ys n place + here marks xs ys n place

module _ (marks : List Mark) (xs ys : List ℕ) (n : ℕ) (first : IsDistinct nat_eq xs) (second : IsDistinct nat_eq ys) (lt : n < length ys) where
  abbrev doc : ℕ
  doc = get_or ys n 0

  abbrev open_one : ℕ
  open_one = one_where (is_unjudged (mark_at marks doc))

  -- ---- at later places of the first list
  met_by : (docs others : List ℕ) (place : ℕ) (w i : Bool) → nat_lt place (length docs) ≡ w → is_in others (get_or docs place 0) ≡ i → met marks docs others place ≡ one_where ((w && i) && is_unjudged (mark_at marks (get_or docs place 0)))
  met_by docs others place w i e f =
      ap (λ (v : Bool). one_where ((v && is_in others (get_or docs place 0)) && is_unjudged (mark_at marks (get_or docs place 0)))) e
      ∙ ap (λ (v : Bool). one_where ((w && v) && is_unjudged (mark_at marks (get_or docs place 0)))) f

  next_by : (o : Option ℕ) → o ≢ Some (n + 1) → is_by (n + 1) o ≡ is_by n o
  next_by None h = refl
  next_by (Some r) h = let other : r ≢ n + 1 = λ e. h (ap Some e) in tests r other
    where
      tests : (r : ℕ) → r ≢ n + 1 → nat_le r (n + 1) ≡ nat_le r n
      tests r other = grind (arith, nat_tests)

  unseen : (x : ℕ) → x ≢ doc → rank ys x ≢ Some (n + 1)
  unseen x other e =
      let at = rank_place ys x (n + 1) e in
      let same : n + 1 - 1 ≡ n = omega arith in
      other (sym (sym (ap (λ (k : ℕ). get_or ys k 0) same) ∙ at.1.1))

  in_next : (x : ℕ) → x ≢ doc → is_in (take (n + 1) ys) x ≡ is_in (take n ys) x
  in_next x other = rank_by (n + 1) x ys ∙ next_by (rank ys x) (unseen x other) ∙ sym (rank_by n x ys)

  past : (docs : List ℕ) (place : ℕ) → length docs ≤ place → nat_lt place (length docs) ≡ false
  past docs place h = grind (arith, nat_tests)

  within : (docs : List ℕ) (place : ℕ) → place < length docs → nat_lt place (length docs) ≡ true
  within docs place h = grind (arith, nat_tests)

  before_kept : (place : ℕ) → (n < place → place < length xs → get_or xs place 0 ≢ doc) → before marks xs ys (n + 1) place ≡ before marks xs ys n place
  before_kept place other = elim (cases_lt n place) [
    | inl later ↦ elim (cases_lt place (length xs)) [
      | inl inside ↦
          let deep : min place (n + 1) ≡ n + 1 = omega arith in
          let low : min place n ≡ n = omega arith in
          ap (λ (k : ℕ). met marks xs (take k ys) place) deep
          ∙ met_by xs (take (n + 1) ys) place (nat_lt place (length xs)) (is_in (take n ys) (get_or xs place 0)) refl (in_next (get_or xs place 0) (other later inside))
          ∙ sym (ap (λ (k : ℕ). met marks xs (take k ys) place) low)
      | inr outside ↦ met_by xs (take (min place (n + 1)) ys) place false (is_in (take (min place (n + 1)) ys) (get_or xs place 0)) (past xs place outside) refl ∙ sym (met_by xs (take (min place n) ys) place false (is_in (take (min place n) ys) (get_or xs place 0)) (past xs place outside) refl)
    ]
    | inr early ↦ let same : min place (n + 1) ≡ min place n = omega arith in ap (λ (k : ℕ). met marks xs (take k ys) place) same
  ]

  seen_now : is_in (take (n + 1) ys) doc ≡ true
  seen_now = rank_by (n + 1) doc ys ∙ ap (is_by (n + 1)) (rank_at ys n second lt) ∙ tests (n + 1)
    where
      tests : (k : ℕ) → nat_le k k ≡ true
      tests k = grind (arith, nat_tests)

  not_yet : is_in (take n ys) doc ≡ false
  not_yet = rank_by n doc ys ∙ ap (is_by n) (rank_at ys n second lt) ∙ tests n
    where
      tests : (k : ℕ) → nat_le (k + 1) k ≡ false
      tests k = grind (arith, nat_tests)

  before_hit : (place : ℕ) → n < place → place < length xs → get_or xs place 0 ≡ doc → (before marks xs ys (n + 1) place ≡ open_one) × (before marks xs ys n place ≡ 0)
  before_hit place later inside same =
      let deep : min place (n + 1) ≡ n + 1 = omega arith in
      let low : min place n ≡ n = omega arith in (
        ap (λ (k : ℕ). met marks xs (take k ys) place) deep ∙ met_by xs (take (n + 1) ys) place true true (within xs place inside) (ap (is_in (take (n + 1) ys)) same ∙ seen_now) ∙ ap (λ (d : ℕ). one_where (is_unjudged (mark_at marks d))) same,
        ap (λ (k : ℕ). met marks xs (take k ys) place) low ∙ met_by xs (take n ys) place true false (within xs place inside) (ap (is_in (take n ys)) same ∙ not_yet),
      )

  -- ---- at no earlier places
  here_at : (m place : ℕ) (b : Bool) → nat_lt place m ≡ b → here marks xs ys m place ≡ (if b then met marks ys (take (place + 1) xs) place else 0)
  here_at m place b e = ap (λ (v : Bool). if v then met marks ys (take (place + 1) xs) place else 0) e

  here_new : (b : Bool) → is_by (n + 1) (rank xs doc) ≡ b → here marks xs ys (n + 1) n ≡ one_where (b && is_unjudged (mark_at marks doc))
  here_new b e = here_at (n + 1) n true (tests n) ∙ met_by ys (take (n + 1) xs) n true b (within ys n lt) (rank_by (n + 1) doc xs ∙ e)
    where
      tests : (k : ℕ) → nat_lt k (k + 1) ≡ true
      tests k = grind (arith, nat_tests)

  here_old : here marks xs ys n n ≡ 0
  here_old = here_at n n false (tests n)
    where
      tests : (k : ℕ) → nat_lt k k ≡ false
      tests k = grind (arith, nat_tests)

  here_kept : (place : ℕ) → (place ≡ n → is_by (n + 1) (rank xs doc) ≡ false) → here marks xs ys (n + 1) place ≡ here marks xs ys n place
  here_kept place none = elim (same_or_not place n) [
    | inl same ↦ subst (λ (k : ℕ). here marks xs ys (n + 1) k ≡ here marks xs ys n k) (sym same) (here_new false (none same) ∙ sym here_old)
    | inr other ↦ here_at (n + 1) place (nat_lt place n) (tests place other)
  ]
    where
      tests : (place : ℕ) → place ≢ n → nat_lt place (n + 1) ≡ nat_lt place n
      tests place other = grind (arith, nat_tests)

  -- ---- one document of the second list
  apart : (place : ℕ) (o : Option ℕ) → o ≡ rank xs doc → o ≢ Some (place + 1) → place < length xs → get_or xs place 0 ≢ doc
  apart place o e other inside same = other (e ∙ ap (rank xs) (sym same) ∙ rank_at xs place first inside)

  -- what it adds at a place
  abbrev gain : ℕ → ℕ → ℕ
  gain r place = if nat_eq place (max r (n + 1) - 1) then one_where (nat_lt 0 r && is_unjudged (mark_at marks doc)) else 0

  HasGained : ℕ → ℕ → Type 0
  HasGained r place = before marks xs ys (n + 1) place + here marks xs ys (n + 1) place ≡ before marks xs ys n place + here marks xs ys n place + gain r place

  by_gain : (r place g : ℕ) → gain r place ≡ g → before marks xs ys (n + 1) place + here marks xs ys (n + 1) place ≡ before marks xs ys n place + here marks xs ys n place + g → HasGained r place
  unfolding HasGained
  by_gain r place g e h = omega (arith, e, h)

  gain_at : (r place : ℕ) (b : Bool) → nat_eq place (max r (n + 1) - 1) ≡ b → gain r place ≡ (if b then one_where (nat_lt 0 r && is_unjudged (mark_at marks doc)) else 0)
  gain_at r place b e = ap (λ (v : Bool). if v then one_where (nat_lt 0 r && is_unjudged (mark_at marks doc)) else 0) e

  gained_none : (place : ℕ) → None ≡ rank xs doc → HasGained 0 place
  gained_none place e =
      let first_part = before_kept place (λ later. apart place None e (λ bad. cc)) in
      let second_part = here_kept place (λ same. ap (is_by (n + 1)) (sym e)) in
      by_gain 0 place 0 (nothing (nat_eq place (max 0 (n + 1) - 1))) (omega (arith, first_part, second_part))
    where
      nothing : (b : Bool) → ◌≡◌ {A = ℕ} (if b then 0 else 0) 0
      nothing true = refl
      nothing false = refl

  module _ (s : ℕ) (e : Some (suc s) ≡ rank xs doc) where
    found : (1 ≤ suc s) × ((suc s ≤ length xs) × (get_or xs (suc s - 1) 0 ≡ doc))
    found = rank_place xs doc (suc s) (sym e)

    found_at : get_or xs s 0 ≡ doc
    found_at = let same : suc s - 1 ≡ s = omega arith in sym (ap (λ (k : ℕ). get_or xs k 0) same) ∙ found.1.1

    gain_here : (place : ℕ) → nat_eq place (max (suc s) (n + 1) - 1) ≡ true → gain (suc s) place ≡ open_one
    gain_here place same = gain_at (suc s) place true same ∙ ap (λ (v : Bool). one_where (v && is_unjudged (mark_at marks doc))) (some s)
      where
        some : (k : ℕ) → nat_lt 0 (suc k) ≡ true
        some k = grind (arith, nat_tests)

    elsewhere : (place : ℕ) → place ≢ s → place < length xs → get_or xs place 0 ≢ doc
    elsewhere place other = apart place (Some (suc s)) e (λ bad. let same : suc s ≡ place + 1 = same_number (suc s) (place + 1) bad in other (omega (arith, same)))
      where
        same_number : (k m : ℕ) → Some k ≡ Some m → k ≡ m
        same_number k m bad = cc

    gained_later : n < s → (place : ℕ) → HasGained (suc s) place
    gained_later later place = elim (same_or_not place s) [
      | inl same ↦
          let hit = before_hit place (omega (arith, later, same)) (omega (arith, found.1.0, same)) (ap (λ (k : ℕ). get_or xs k 0) same ∙ found_at) in
          let kept = here_kept place (λ bad. absurd (omega (arith, bad, same, later))) in
          by_gain (suc s) place open_one (gain_here place (here_then place same)) (omega (arith, hit.0, hit.1, kept))
      | inr other ↦
          let first_part = before_kept place (λ after. elsewhere place other) in
          let second_part = here_kept place (λ same. ap (is_by (n + 1)) (sym e) ∙ not_by) in
          by_gain (suc s) place 0 (gain_at (suc s) place false (not_then place other)) (omega (arith, first_part, second_part))
    ]
      where
        here_then : (place : ℕ) → place ≡ s → nat_eq place (max (suc s) (n + 1) - 1) ≡ true
        here_then place same = grind (arith, nat_tests)

        not_then : (place : ℕ) → place ≢ s → nat_eq place (max (suc s) (n + 1) - 1) ≡ false
        not_then place other = grind (arith, nat_tests)

        not_by : nat_le (suc s) (n + 1) ≡ false
        not_by = grind (arith, nat_tests)

    gained_earlier : s ≤ n → (place : ℕ) → HasGained (suc s) place
    gained_earlier earlier place = elim (same_or_not place n) [
      | inl same ↦
          let first_part = before_kept place (λ after. absurd (omega (arith, after, same))) in
          let now = here_new true (ap (is_by (n + 1)) (sym e) ∙ is_now) in
          let both : here marks xs ys (n + 1) place ≡ here marks xs ys n place + open_one = subst (λ (k : ℕ). here marks xs ys (n + 1) k ≡ here marks xs ys n k + open_one) (sym same) (omega (arith, now, here_old)) in
          by_gain (suc s) place open_one (gain_here place (here_then place same)) (omega (arith, first_part, both))
      | inr other ↦
          let first_part = before_kept place (λ after. elsewhere place (λ bad. absurd (omega (arith, bad, after, earlier)))) in
          let second_part = here_kept place (λ same. absurd (other same)) in
          by_gain (suc s) place 0 (gain_at (suc s) place false (not_then place other)) (omega (arith, first_part, second_part))
    ]
      where
        here_then : (place : ℕ) → place ≡ n → nat_eq place (max (suc s) (n + 1) - 1) ≡ true
        here_then place same = grind (arith, nat_tests)

        not_then : (place : ℕ) → place ≢ n → nat_eq place (max (suc s) (n + 1) - 1) ≡ false
        not_then place other = grind (arith, nat_tests)

        is_now : nat_le (suc s) (n + 1) ≡ true
        is_now = grind (arith, nat_tests)

  gained : (r : ℕ) → rank_or_none r ≡ rank xs doc → (place : ℕ) → HasGained r place
  gained zero e place = gained_none place e
  gained (suc s) e place = elim (cases_lt n s) [ inl later ↦ gained_later s e later place | inr earlier ↦ gained_earlier s e earlier place ]

  -- the counts after it
  pub shared_next : (r : ℕ) (counts after : List ℕ) → rank_or_none r ≡ rank xs doc → max r (n + 1) ≤ length counts → after ≡ counted marks (nat_lt 0 r) doc (max r (n + 1)) counts → AreSharedTo n marks xs ys counts → AreSharedTo (n + 1) marks xs ys after
  unfolding HasGained
  shared_next r counts after e few is h =
      let k : ℕ = max r (n + 1) - 1 in
      let u : ℕ = one_where (nat_lt 0 r && is_unjudged (mark_at marks doc)) in
      let in_counts : k < length counts = omega (arith, few) in
      subst (λ (l : List ℕ). AreSharedTo (n + 1) marks xs ys l) (sym is) (record {
        first_fit = omega (arith, length-set counts k (get_or counts k 0 + u), h.first_fit);
        second_fit = omega (arith, length-set counts k (get_or counts k 0 + u), h.second_fit);
        each = λ place. let at = counted_one counts k place u in_counts in let more = gained r e place in omega (arith, at, more, h.each place);
      })

pub few_shared : (n : ℕ) (marks : List Mark) (xs ys counts : List ℕ) → AreSharedTo n marks xs ys counts → (place : ℕ) → get_or counts place 0 ≤ 2
few_shared n marks xs ys counts h place = omega (arith, h.each place, met_few xs (take (min place n) ys) place, here_few (nat_lt place n))
  where
    one_few : (b : Bool) → one_where b ≤ 1
    one_few true = omega arith
    one_few false = omega arith

    met_few : (docs others : List ℕ) (place : ℕ) → met marks docs others place ≤ 1
    met_few docs others place = one_few ((nat_lt place (length docs) && is_in others (get_or docs place 0)) && is_unjudged (mark_at marks (get_or docs place 0)))

    here_few : (b : Bool) → (if b then met marks ys (take (place + 1) xs) place else 0) ≤ 1
    here_few true = met_few ys (take (place + 1) xs) place
    here_few false = omega arith

pub shared_start : (marks : List Mark) (xs ys counts : List ℕ) → ((place : ℕ) → get_or counts place 0 ≡ 0) → length xs ≤ length counts → length ys ≤ length counts → AreSharedTo 0 marks xs ys counts
shared_start marks xs ys counts none first_fit second_fit = record {
  first_fit = first_fit;
  second_fit = second_fit;
  each = λ place.
      let low : min place 0 ≡ 0 = omega arith in
      let nothing : before marks xs ys 0 place ≡ 0 = ap (λ (k : ℕ). met marks xs (take k ys) place) low ∙ empty (nat_lt place (length xs)) place in
      let no_more : here marks xs ys 0 place ≡ 0 = ap (λ (v : Bool). if v then met marks ys (take (place + 1) xs) place else 0) (tests place) in
      omega (arith, none place, nothing, no_more);
}
  where
    tests : (k : ℕ) → nat_lt k 0 ≡ false
    tests k = grind (arith, nat_tests)

    empty : (b : Bool) (place : ℕ) → one_where ((b && false) && is_unjudged (mark_at marks (get_or xs place 0))) ≡ 0
    empty true place = refl
    empty false place = refl

pub shared_end : (n : ℕ) (marks : List Mark) (xs ys counts : List ℕ) → length ys ≤ n → AreSharedTo n marks xs ys counts → AreShared marks xs ys counts
shared_end n marks xs ys counts ended h = record { each = λ place. omega (arith, h.each place, early place, late place) }
  where
    early : (place : ℕ) → before marks xs ys n place ≡ met marks xs (take place ys) place
    early place = elim (cases_lt n place) [
      | inl later ↦ let low : min place n ≡ n = omega arith in ap (λ (k : ℕ). met marks xs (take k ys) place) low ∙ ap (λ (l : List ℕ). met marks xs l place) (take_all n ys ended ∙ sym (take_all place ys (omega (arith, ended, later))))
      | inr first ↦ let low : min place n ≡ place = omega arith in ap (λ (k : ℕ). met marks xs (take k ys) place) low
    ]

    late : (place : ℕ) → here marks xs ys n place ≡ met marks ys (take (place + 1) xs) place
    late place = elim (cases_lt place n) [
      | inl inside ↦ ap (λ (v : Bool). if v then met marks ys (take (place + 1) xs) place else 0) (tests place inside)
      | inr outside ↦ ap (λ (v : Bool). if v then met marks ys (take (place + 1) xs) place else 0) (no_tests place outside) ∙ sym (ap (λ (v : Bool). one_where ((v && is_in (take (place + 1) xs) (get_or ys place 0)) && is_unjudged (mark_at marks (get_or ys place 0)))) (past place (omega (arith, ended, outside))))
    ]
      where
        tests : (place : ℕ) → place < n → nat_lt place n ≡ true
        tests place inside = grind (arith, nat_tests)

        no_tests : (place : ℕ) → n ≤ place → nat_lt place n ≡ false
        no_tests place outside = grind (arith, nat_tests)

        past : (place : ℕ) → length ys ≤ place → nat_lt place (length ys) ≡ false
        past place h = grind (arith, nat_tests)

-- ---- what the code needs to know
pub rank_short : (xs : List ℕ) (doc r : ℕ) → rank_or_none r ≡ rank xs doc → r ≤ length xs
rank_short xs doc zero e = omega arith
rank_short xs doc (suc s) e = (rank_place xs doc (suc s) (sym e)).1.0

pub ranked_at : (marks : List Mark) (xs ys docs ranks : List ℕ) (place : ℕ) → docs ≡ ys → place < length docs → All (λ doc. doc < length marks) ys → AreRanksIn marks xs ranks → rank_or_none (get_or ranks (get_or docs place 0) 0) ≡ rank xs (get_or ys place 0)
ranked_at marks xs ys docs ranks place same lt known h =
    ap (λ (l : List ℕ). rank_or_none (get_or ranks (get_or l place 0) 0)) same ∙ h.each (get_or ys place 0) (known place 0 (subst (λ (l : List ℕ). place < length l) same lt))
