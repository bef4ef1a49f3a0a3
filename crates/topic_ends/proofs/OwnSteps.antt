-- The counts of each of two lists that the other has not, with one document more.
use Rattle.std.proofs.Common.{◌≡◌, ℕ, ◌+◌, ◌<◌, ◌≤◌, Bool, true, false, not, ◌&&◌, nat_eq, List, [], ◌∷◌, ◌++◌, length, take, get_or, arith, refl, ap, ◌∙◌, sym, subst}
use Rattle.std.specs.List.{IsDistinct}
use Rattle.std.proofs.lemmas.List.{take_all, take_more, length-take}
use Rattle.std.proofs.lemmas.List.Sums.{count_by-le-length, sum_by_push}
use Rattle.desk_model.specs.Classes.{only_count}
use Rattle.desk_model.specs.Completion.{picked_value, with_picked}
use Rattle.desk_model.specs.Mark.{mark_at}
use Rattle.desk_model.specs.Ranking.{IsRanking, is_in}
use Rattle.desk_model.specs.declared.types.Mark.{Mark}
use Rattle.desk_model.proofs.Counts.{IsDistinct-take, one_if, one_if_split}
use Rattle.desk_model.proofs.PrecisionEnds.{difference_outside}
use Rattle.measure_laws.proofs.LeastDifferences.{only_more}
use Rattle.measure_laws.proofs.Stretches.{same_take}
use Rattle.topic_ends.specs.Own.{CountsOwn, IsOrdered}
use Rattle.topic_ends.specs.declared.counts.RelevantCounts.{RelevantCounts}
use Rattle.topic_ends.specs.declared.own.Own.{Own}

pub own_ordered : (marks : List Mark) (xs ys : List ℕ) (own : Own) → length xs ≤ 10000 → length ys ≤ 10000 → CountsOwn marks xs ys own → IsOrdered own
own_ordered marks xs ys own few few' h = record {
  first = omega (arith, h.first_relevant, h.first_possible, only_more marks xs ys);
  second = omega (arith, h.second_relevant, h.second_possible, only_more marks ys xs);
  first_few = omega (arith, h.first_possible, few, count_by-le-length (λ d. with_picked marks (λ _. true) d && not (is_in ys d)) xs);
  second_few = omega (arith, h.second_possible, few', count_by-le-length (λ d. with_picked marks (λ _. true) d && not (is_in xs d)) ys);
}

-- what one document more adds to a list's own ones, and takes from the other's
first_next : (taken : Bool) (marks : List Mark) (xs ys : List ℕ) (x : ℕ) (v : Bool) → v ≡ is_in ys x →
    only_count taken marks (xs ++ x ∷ []) ys ≡ only_count taken marks xs ys + one_if (picked_value taken (mark_at marks x) && not v)
first_next taken marks xs ys x v e =
    sum_by_push (λ d. one_if (with_picked marks (λ _. taken) d && not (is_in ys d))) xs x ∙ ap (λ b. only_count taken marks xs ys + one_if (picked_value taken (mark_at marks x) && not b)) (sym e)

second_next : (taken : Bool) (marks : List Mark) (xs ys : List ℕ) (x : ℕ) (v : Bool) → v ≡ is_in ys x → IsDistinct nat_eq xs → IsDistinct nat_eq (xs ++ x ∷ []) → IsDistinct nat_eq ys →
    only_count taken marks ys (xs ++ x ∷ []) + one_if (picked_value taken (mark_at marks x) && v) ≡ only_count taken marks ys xs
second_next taken marks xs ys x v e dx dl dy =
    let p = with_picked marks (λ _. taken) in
    omega (arith, difference_outside p xs ys dx dy, difference_outside p (xs ++ x ∷ []) ys dl dy, sum_by_push (λ d. one_if (p d)) xs x, first_next taken marks xs ys x v e, one_if_split (picked_value taken (mark_at marks x)) v)

-- a ranking's first documents with the next one
pub record IsNext (marks : List Mark) (docs ys : List ℕ) (place x : ℕ) (v : Bool) : Type 0 where
  pub longer : take (place + 1) docs ≡ take place docs ++ x ∷ []
  pub shown : v ≡ is_in ys x
  pub distinct : IsDistinct nat_eq docs
  pub others : IsDistinct nat_eq ys

pub first_more : (taken : Bool) (marks : List Mark) (docs ys : List ℕ) (place x : ℕ) (v : Bool) → IsNext marks docs ys place x v →
    only_count taken marks (take (place + 1) docs) ys ≡ only_count taken marks (take place docs) ys + one_if (picked_value taken (mark_at marks x) && not v)
first_more taken marks docs ys place x v h = ap (λ xs. only_count taken marks xs ys) h.longer ∙ first_next taken marks (take place docs) ys x v h.shown

pub second_more : (taken : Bool) (marks : List Mark) (docs ys : List ℕ) (place x : ℕ) (v : Bool) → IsNext marks docs ys place x v →
    only_count taken marks ys (take (place + 1) docs) + one_if (picked_value taken (mark_at marks x) && v) ≡ only_count taken marks ys (take place docs)
second_more taken marks docs ys place x v h =
    let whole = second_next taken marks (take place docs) ys x v h.shown (IsDistinct-take place docs h.distinct) (subst (IsDistinct nat_eq) h.longer (IsDistinct-take (place + 1) docs h.distinct)) h.others in
    omega (arith, whole, ap (λ xs. only_count taken marks ys xs) h.longer)

pub prefix_short : (k : ℕ) (docs : List ℕ) → length docs ≤ 10000 → length (take k docs) ≤ 10000
prefix_short k docs h = omega (arith, h, length-take k docs)

-- the counts of the swapped lists
pub own_swapped : (marks : List Mark) (xs ys : List ℕ) (own turned : Own) → turned.first ≡ own.second → turned.second ≡ own.first → CountsOwn marks xs ys own → CountsOwn marks ys xs turned
own_swapped marks xs ys own turned e f h = record {
  first_relevant = ap (λ (c : RelevantCounts). c.relevant) e ∙ h.second_relevant;
  first_possible = ap (λ (c : RelevantCounts). c.possible) e ∙ h.second_possible;
  second_relevant = ap (λ (c : RelevantCounts). c.relevant) f ∙ h.first_relevant;
  second_possible = ap (λ (c : RelevantCounts). c.possible) f ∙ h.first_possible;
}

-- the next document of a ranking, as the code finds it
pub next_is : (marks : List Mark) (docs found others : List ℕ) (place k x : ℕ) (v : Bool) → IsRanking (length marks) docs → IsRanking (length marks) others → found ≡ docs → place < length found → x ≡ get_or found place x → v ≡ is_in (take k others) x →
    IsNext marks docs (take k others) place x v
next_is marks docs found others place k x v rd ro e lt here shown =
    let within : place < length docs = omega (arith, lt, ap length e) in
    let there : get_or docs place x ≡ x = sym (here ∙ ap (λ xs. get_or xs place x) e) in
    record {
      longer = take_more docs place x within ∙ ap (λ y. take place docs ++ y ∷ []) there;
      shown = shown;
      distinct = rd.distinct;
      others = IsDistinct-take k others ro.distinct;
    }

pub own_next : (marks : List Mark) (docs ys : List ℕ) (place x : ℕ) (v : Bool) (own after : Own) → IsNext marks docs ys place x v → CountsOwn marks (take place docs) ys own →
    after.first.relevant ≡ own.first.relevant + one_if (picked_value false (mark_at marks x) && not v) → after.first.possible ≡ own.first.possible + one_if (picked_value true (mark_at marks x) && not v) →
    after.second.relevant + one_if (picked_value false (mark_at marks x) && v) ≡ own.second.relevant → after.second.possible + one_if (picked_value true (mark_at marks x) && v) ≡ own.second.possible →
    CountsOwn marks (take (place + 1) docs) ys after
own_next marks docs ys place x v own after next h ea eb ec ed = record {
  first_relevant = omega (arith, ea, h.first_relevant, first_more false marks docs ys place x v next);
  first_possible = omega (arith, eb, h.first_possible, first_more true marks docs ys place x v next);
  second_relevant = omega (arith, ec, h.second_relevant, second_more false marks docs ys place x v next);
  second_possible = omega (arith, ed, h.second_possible, second_more true marks docs ys place x v next);
}

-- past the end of a ranking
pub own_past : (marks : List Mark) (docs found ys : List ℕ) (place : ℕ) (own : Own) → found ≡ docs → length found ≤ place → CountsOwn marks (take place docs) ys own → CountsOwn marks (take (place + 1) docs) ys own
own_past marks docs found ys place own e past h =
    let same : take place docs ≡ take (place + 1) docs = take_all place docs (omega (arith, past, ap length e)) ∙ sym (take_all (place + 1) docs (omega (arith, past, ap length e))) in
    subst (λ (xs : List ℕ). CountsOwn marks xs ys own) same h

-- no documents
pub own_none : (marks : List Mark) (xs ys : List ℕ) (own : Own) → own ≡ record { first = record { relevant = 0; possible = 0 }; second = record { relevant = 0; possible = 0 } } → CountsOwn marks (take 0 xs) (take 0 ys) own
own_none marks xs ys own e = subst (CountsOwn marks [] []) (sym e) (record { first_relevant = refl; first_possible = refl; second_relevant = refl; second_possible = refl })

-- first documents of two rankings that are all of them
pub own_later : (marks : List Mark) (a b : List ℕ) (r s : ℕ) (own : Own) → r ≤ s → (r < s → length a ≤ r) → (r < s → length b ≤ r) → CountsOwn marks (take r a) (take r b) own → CountsOwn marks (take s a) (take s b) own
own_later marks a b r s own le first second h =
    subst (λ (ys : List ℕ). CountsOwn marks (take s a) ys own) (sym (same_take b r s le second)) (subst (λ (xs : List ℕ). CountsOwn marks xs (take r b) own) (sym (same_take a r s le first)) h)
