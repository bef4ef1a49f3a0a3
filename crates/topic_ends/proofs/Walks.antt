-- One step of the walk over the documents of two rankings.
use mir.Val.{bool_byte}
use Rattle.std.proofs.Common.{◌≡◌, ◌≢◌, ℕ, ◌+◌, ◌-◌, ◌<◌, ◌≤◌, min, Bool, true, false, nat_eq, List, [], ◌∷◌, length, take, drop, slice_index_or, ◌⊎◌, inl, inr, Option, Some, None, unwrap_or, arith, refl, ap, ◌∙◌, sym, subst}
use Rattle.std.specs.Prelude.{◌↔◌, IsTrue, if◌then◌else◌}
use Rattle.std.specs.List.{AllByRecursion}
use Rattle.std.proofs.lemmas.Bool.{cases_lt, eq-eqb}
use Rattle.std.proofs.lemmas.List.{take_all, length-drop}
use Rattle.std.proofs.lemmas.List.Elements.{recursion_from_All}
use Rattle.desk_model.proofs.Counts.{nat_eq-true}
use Rattle.small_lemmas.proofs.Tests.{apart_below}
use Rattle.desk_model.specs.Placed.{lookup, IsAscending}
use Rattle.desk_model.specs.Ranking.{IsRanking, rank}
use Rattle.desk_model.specs.declared.placed.Placed.{Placed}
use Rattle.measure_laws.specs.Ranks.{earlier}
use Rattle.topic_counts.proofs.Merge.{absent_below}
use Rattle.topic_counts.proofs.Places.{ranked_within}
use Rattle.topic_ends.specs.Walk.{AreFrom, first_of}

all_from : (es : List Placed) → AllByRecursion (λ (e : Placed). 0 ≤ e.doc) es
all_from [] = tt
all_from (e ∷ es) = (omega arith, all_from es)

pub from_start : (docs : List ℕ) (places : List Placed) → IsAscending places → ((d : ℕ) → lookup places d ≡ rank docs d) → AreFrom 0 docs places
from_start docs places h k = record { ascending = h; from = all_from places; ranks = λ d _. k d }

closer : (c d : ℕ) (es : List Placed) → d ≤ c → AllByRecursion (λ (e : Placed). c < e.doc) es → AllByRecursion (λ (e : Placed). d < e.doc) es
closer c d [] h k = tt
closer c d (e ∷ es) h k = (omega (arith, k.0), closer c d es h k.1)

from_after : (d : ℕ) (es : List Placed) → AllByRecursion (λ (e : Placed). d < e.doc) es → AllByRecursion (λ (e : Placed). d + 1 ≤ e.doc) es
from_after d [] k = tt
from_after d (e ∷ es) k = (omega (arith, k.0), from_after d es k.1)

-- ---- the next document of both
-- documents before all of some places have no rank there
gap : (n doc d : ℕ) (docs : List ℕ) (places : List Placed) → AreFrom n docs places → AreFrom doc docs places → n ≤ d → d < doc → rank docs d ≡ None
gap n doc d docs places h k le lt = sym (h.ranks d le) ∙ absent_below d places (before d doc places lt k.from)
  where
    before : (d c : ℕ) (es : List Placed) → d < c → AllByRecursion (λ (e : Placed). c ≤ e.doc) es → AllByRecursion (λ (e : Placed). d < e.doc) es
    before d c [] l k = tt
    before d c (e ∷ es) l k = (omega (arith, k.0, l), before d c es l k.1)

-- the places stay as they are up to the first of their documents
from_first : (n doc : ℕ) (docs : List ℕ) (e : Placed) (es : List Placed) → AreFrom n docs (e ∷ es) → n ≤ doc → doc ≤ e.doc → AreFrom doc docs (e ∷ es)
from_first n doc docs e es h le first = record { ascending = h.ascending; from = (first, no_earlier e.doc doc es first h.ascending.0); ranks = λ d lt. h.ranks d (omega (arith, lt, le)) }
  where
    no_earlier : (c d : ℕ) (es : List Placed) → d ≤ c → AllByRecursion (λ (e : Placed). c < e.doc) es → AllByRecursion (λ (e : Placed). d ≤ e.doc) es
    no_earlier c d [] h k = tt
    no_earlier c d (e ∷ es) h k = (omega (arith, k.0), no_earlier c d es h k.1)

from_none : (n doc : ℕ) (docs : List ℕ) → AreFrom n docs [] → n ≤ doc → AreFrom doc docs []
from_none n doc docs h le = record { ascending = tt; from = tt; ranks = λ d lt. h.ranks d (omega (arith, lt, le)) }

rank_of_first : (n : ℕ) (docs : List ℕ) (e : Placed) (es : List Placed) → AreFrom n docs (e ∷ es) → rank docs e.doc ≡ Some e.rank
rank_of_first n docs e es h = sym (h.ranks e.doc h.from.0) ∙ ap (λ (b : Bool). if b then Some e.rank else lookup es e.doc) (eq-eqb e.doc e.doc refl)

-- the next document of both rankings from one on: no other is before it
pub record IsNextOf (n doc : ℕ) (xs ys : List ℕ) (first second : List Placed) : Type 0 where
  pub later : n ≤ doc
  pub first_from : AreFrom doc xs first
  pub second_from : AreFrom doc ys second
  pub begins : (first_of first ≡ Some doc) ⊎ (first_of second ≡ Some doc)

next_by : (n doc c : ℕ) (xs ys : List ℕ) (x y : Placed) (es fs : List Placed) → AreFrom n xs (x ∷ es) → AreFrom n ys (y ∷ fs) → c ≡ min x.doc y.doc → c ≡ doc → IsNextOf n doc xs ys (x ∷ es) (y ∷ fs)
next_by n doc c xs ys x y es fs h k e f = record {
  later = omega (arith, e, f, h.from.0, k.from.0);
  first_from = from_first n doc xs x es h (omega (arith, e, f, h.from.0, k.from.0)) (omega (arith, e, f));
  second_from = from_first n doc ys y fs k (omega (arith, e, f, h.from.0, k.from.0)) (omega (arith, e, f));
  begins = elim (cases_lt y.doc x.doc) [
    | inl less ↦ inr (ap (λ n. Some n) (omega (arith, e, f, less)))
    | inr more ↦ inl (ap (λ n. Some n) (omega (arith, e, f, more)))
  ];
}

pub next_is : (n doc : ℕ) (xs ys : List ℕ) (first second : List Placed) → AreFrom n xs first → AreFrom n ys second → Some doc ≡ earlier (first_of first) (first_of second) → IsNextOf n doc xs ys first second
next_is n doc xs ys [] [] h k e = absurd (cc)
next_is n doc xs ys (x ∷ es) [] h k e =
    let same : x.doc ≡ doc = ap (λ (o : Option ℕ). unwrap_or o 0) (sym e) in
    record { later = omega (arith, same, h.from.0); first_from = from_first n doc xs x es h (omega (arith, same, h.from.0)) (omega (arith, same)); second_from = from_none n doc ys k (omega (arith, same, h.from.0)); begins = inl (ap (λ n. Some n) same) }
next_is n doc xs ys [] (y ∷ fs) h k e =
    let same : y.doc ≡ doc = ap (λ (o : Option ℕ). unwrap_or o 0) (sym e) in
    record { later = omega (arith, same, k.from.0); first_from = from_none n doc xs h (omega (arith, same, k.from.0)); second_from = from_first n doc ys y fs k (omega (arith, same, k.from.0)) (omega (arith, same)); begins = inr (ap (λ n. Some n) same) }
next_is n doc xs ys (x ∷ es) (y ∷ fs) h k e = next_by n doc (min x.doc y.doc) xs ys x y es fs h k refl (ap (λ (o : Option ℕ). unwrap_or o 0) (sym e))

-- it is the next one of both in either order
pub next_swapped : (x y z : Option ℕ) → z ≡ earlier x y → z ≡ earlier y x
next_swapped None None z e = e
next_swapped None (Some y) z e = e
next_swapped (Some x) None z e = e
next_swapped (Some x) (Some y) z e = e ∙ ap (λ n. Some n) (omega arith)

-- neither has a document from there to the next one
pub none_before : (n doc : ℕ) (xs ys : List ℕ) (first second : List Placed) → AreFrom n xs first → AreFrom n ys second → IsNextOf n doc xs ys first second → (d : ℕ) → n ≤ d → d < doc → (rank xs d ≡ None) × (rank ys d ≡ None)
none_before n doc xs ys first second h k next d le lt = (gap n doc d xs first h next.first_from le lt, gap n doc d ys second k next.second_from le lt)

-- and none at all where no place is left
pub none_left_of : (n : ℕ) (xs ys : List ℕ) (first second : List Placed) → AreFrom n xs first → AreFrom n ys second → None ≡ earlier (first_of first) (first_of second) → (d : ℕ) → n ≤ d → (rank xs d ≡ None) × (rank ys d ≡ None)
none_left_of n xs ys [] [] h k e d le = (sym (h.ranks d le), sym (k.ranks d le))
none_left_of n xs ys (x ∷ es) [] h k e d le = absurd (cc)
none_left_of n xs ys [] (y ∷ fs) h k e d le = absurd (cc)
none_left_of n xs ys (x ∷ es) (y ∷ fs) h k e d le = absurd (cc)

-- it is a document of the topic
first_known : (n doc universe : ℕ) (docs : List ℕ) (places : List Placed) → IsRanking universe docs → AreFrom n docs places → first_of places ≡ Some doc → doc < universe
first_known n doc universe docs [] ra h e = absurd (cc)
first_known n doc universe docs (x ∷ es) ra h e =
    let same : x.doc ≡ doc = ap (λ (o : Option ℕ). unwrap_or o 0) e in
    subst (λ (d : ℕ). d < universe) same (ranked_within universe x.doc x.rank 1 docs (recursion_from_All (λ d. d < universe) docs ra.within) (rank_of_first n docs x es h))

pub next_known : (n doc universe : ℕ) (xs ys : List ℕ) (first second : List Placed) → IsRanking universe xs → IsRanking universe ys → IsNextOf n doc xs ys first second → doc < universe
next_known n doc universe xs ys first second ra rb next = elim next.begins [
  | inl e ↦ first_known doc doc universe xs first ra next.first_from e
  | inr e ↦ first_known doc doc universe ys second rb next.second_from e
]

-- the walk comes nearer to its end
pub next_shorter : (n doc : ℕ) (xs ys : List ℕ) (first second after_first after_second : List Placed) → IsNextOf n doc xs ys first second → length after_first ≤ length first → length after_second ≤ length second →
    (first_of first ≡ Some doc → length after_first < length first) → (first_of second ≡ Some doc → length after_second < length second) → length after_first + length after_second < length first + length second
next_shorter n doc xs ys first second after_first after_second next le le' lt lt' = elim next.begins [
  | inl e ↦ let less = lt e in omega (arith, le', less)
  | inr e ↦ let less = lt' e in omega (arith, le, less)
]

-- ---- where the first document is the next one
rank_first : (doc : ℕ) (docs : List ℕ) (e : Placed) (es : List Placed) → AreFrom doc docs (e ∷ es) → e.doc ≡ doc → Some e.rank ≡ rank docs doc
rank_first doc docs e es h same = sym (ap (λ (b : Bool). if b then Some e.rank else lookup es doc) (eq-eqb e.doc doc same)) ∙ h.ranks doc (omega arith)

after_first : (doc : ℕ) (docs : List ℕ) (e : Placed) (es : List Placed) → AreFrom doc docs (e ∷ es) → e.doc ≡ doc → AreFrom (doc + 1) docs es
after_first doc docs e es h same = record {
  ascending = h.ascending.1;
  from = from_after doc es (closer e.doc doc es (omega (arith, same)) h.ascending.0);
  ranks = λ d lt. sym (ap (λ (b : Bool). if b then Some e.rank else lookup es d) (apart_below e.doc d (omega (arith, same, lt)))) ∙ h.ranks d (omega (arith, lt));
}

-- where it is a later one
all_later : (doc : ℕ) (docs : List ℕ) (e : Placed) (es : List Placed) → AreFrom doc docs (e ∷ es) → e.doc ≢ doc → AllByRecursion (λ (x : Placed). doc < x.doc) (e ∷ es)
all_later doc docs e es h other = let less : doc < e.doc = omega (arith, h.from.0, other) in (less, closer e.doc doc es (omega (arith, less)) h.ascending.0)

rank_later : (doc : ℕ) (docs : List ℕ) (places : List Placed) → AreFrom doc docs places → AllByRecursion (λ (x : Placed). doc < x.doc) places → None ≡ rank docs doc
rank_later doc docs places h later = sym (absent_below doc places later) ∙ h.ranks doc (omega arith)

after_later : (doc : ℕ) (docs : List ℕ) (places : List Placed) → AreFrom doc docs places → AllByRecursion (λ (x : Placed). doc < x.doc) places → AreFrom (doc + 1) docs places
after_later doc docs places h later = record { ascending = h.ascending; from = from_after doc places later; ranks = λ d lt. h.ranks d (omega (arith, lt)) }

-- ---- as the code reads it
pub rank_here : (doc : ℕ) (docs : List ℕ) (places : List Placed) (d : Placed) → AreFrom doc docs places → 0 < length places → (slice_index_or places 0 d).doc ≡ doc → Some (slice_index_or places 0 d).rank ≡ rank docs doc
rank_here doc docs [] d h k same = absurd (omega (arith, k))
rank_here doc docs (e ∷ es) d h k same = rank_first doc docs e es h same

pub rank_other : (doc : ℕ) (docs : List ℕ) (places : List Placed) (d : Placed) → AreFrom doc docs places → (0 < length places → (slice_index_or places 0 d).doc ≢ doc) → None ≡ rank docs doc
rank_other doc docs [] d h other = rank_later doc docs [] h tt
rank_other doc docs (e ∷ es) d h other = rank_later doc docs (e ∷ es) h (all_later doc docs e es h (other (omega arith)))

pub none_left : (n : ℕ) (b : Bool) → b ≡ nat_eq n 0 → b ≡ true → n ≡ 0
none_left n b e f = nat_eq-true n 0 (sym e ∙ f)

-- what is left of places after the first of them
rest_is : (places : List Placed) (n : ℕ) → n ≤ length places → take (length places - n) (drop n places) ≡ drop n places
rest_is places n le = take_all (length places - n) (drop n places) (omega (arith, length-drop n places))

after_taken : (doc : ℕ) (docs : List ℕ) (places : List Placed) → AreFrom doc docs places → first_of places ≡ Some doc → AreFrom (doc + 1) docs (drop 1 places)
after_taken doc docs [] h e = absurd (cc)
after_taken doc docs (x ∷ es) h e = after_first doc docs x es h (ap (λ (o : Option ℕ). unwrap_or o 0) e)

after_kept : (doc : ℕ) (docs : List ℕ) (places : List Placed) → AreFrom doc docs places → (first_of places ≢ Some doc) → AreFrom (doc + 1) docs places
after_kept doc docs [] h other = after_later doc docs [] h tt
after_kept doc docs (x ∷ es) h other = after_later doc docs (x ∷ es) h (all_later doc docs x es h (λ same. other (ap (λ n. Some n) same)))

some_first : (doc : ℕ) (places : List Placed) → first_of places ≡ Some doc → 1 ≤ length places
some_first doc [] e = absurd (cc)
some_first doc (x ∷ es) e = omega arith

-- where one place is passed if it is the document's, and else none
pub after_passed : (doc : ℕ) (docs : List ℕ) (places : List Placed) (b : Bool) (passed : ℕ) → AreFrom doc docs places → (IsTrue b ↔ (first_of places ≡ Some doc)) → passed ≡ bool_byte b → AreFrom (doc + 1) docs (take (length places - passed) (drop passed places))
after_passed doc docs places true passed h is e =
    subst (λ n. AreFrom (doc + 1) docs (take (length places - n) (drop n places))) (sym e) (subst (AreFrom (doc + 1) docs) (sym (rest_is places 1 (some_first doc places (is.0 refl)))) (after_taken doc docs places h (is.0 refl)))
after_passed doc docs places false passed h is e =
    subst (λ n. AreFrom (doc + 1) docs (take (length places - n) (drop n places))) (sym e) (subst (AreFrom (doc + 1) docs) (sym (rest_is places 0 (omega arith))) (after_kept doc docs places h (λ first. let no : false ≡ true = is.1 first in absurd (cc))))
