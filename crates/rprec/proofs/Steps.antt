-- What one more document changes in the counts of two lists.
use Rattle.std.proofs.Common.{◌≡◌, ℕ, ◌+◌, ◌<◌, ◌≤◌, Bool, true, false, not, ◌&&◌, nat_eq, List, [], ◌∷◌, ◌++◌, length, take, get_or, count_by, ◌-◌, arith, refl, ap, ◌∙◌, sym, subst, inl, inr}
use Rattle.std.specs.Prelude.{if◌then◌else◌, slice_index}
use Rattle.std.specs.List.{IsDistinct}
use Rattle.std.proofs.lemmas.Bool.{cases_lt}
use Rattle.std.proofs.lemmas.Grind.{common_steps}
use Rattle.std.proofs.lemmas.List.{take_more, length-append}
use Rattle.std.proofs.lemmas.List.Sums.{sum_by_push}
use Rattle.desk_model.specs.Limits.{RANK_LIMIT}
use Rattle.desk_model.specs.Mark.{mark_at}
use Rattle.desk_model.specs.Classes.{only_count}
use Rattle.desk_model.specs.Completion.{picked_value, with_picked}
use Rattle.desk_model.specs.Ranking.{is_in}
use Rattle.desk_model.specs.declared.types.Mark.{Mark}
use Rattle.desk_model.specs.declared.types.Mark.TheVariants.{Unjudged, Relevant, Other}
use Rattle.desk_model.proofs.Counts.{one_if, count_by-weaker, IsDistinct-take}
use Rattle.desk_model.proofs.PrecisionEnds.{difference_outside}
use Rattle.measure_laws.proofs.RecallEnds.{every}
use Rattle.topic_counts.specs.declared.counts.Counts.{Counts}
use Rattle.rprec.specs.declared.prefixes.Prefixes.{Prefixes}
use Rattle.rprec.specs.Greedy.{AreNext, swapped, one_of}

-- the counts of two lists: of relevant documents, as far apart as those that each alone has, and of the unjudged ones that each alone has
pub record ArePrefixes (marks : List Mark) (xs ys : List ℕ) (prefixes : Prefixes) : Type 0 where
  pub relevant : prefixes.first.relevant + only_count false marks ys xs ≡ prefixes.second.relevant + only_count false marks xs ys
  pub first : prefixes.first.unjudged + only_count false marks xs ys ≡ only_count true marks xs ys
  pub second : prefixes.second.unjudged + only_count false marks ys xs ≡ only_count true marks ys xs
  pub first_few : prefixes.first.relevant + prefixes.first.unjudged ≤ length xs
  pub second_few : prefixes.second.relevant + prefixes.second.unjudged ≤ length ys

-- a number, or none
abbrev pub number_if : Bool → ℕ → ℕ
number_if taken number = if taken then number else 0

-- the counts of two lists up to a place, those of the documents there, and how many unjudged ones of these the other list has by then: the second at an earlier place, the first at no later one
pub record AreBefore (marks : List Mark) (xs ys : List ℕ) (place : ℕ) (prefixes : Prefixes) (one two : Counts) (both : ℕ) : Type 0 where
  pub short : place < RANK_LIMIT
  pub first_distinct : IsDistinct nat_eq xs
  pub second_distinct : IsDistinct nat_eq ys
  pub counts : ArePrefixes marks (take place xs) (take place ys) prefixes
  pub first : AreNext marks xs place one
  pub second : AreNext marks ys place two
  pub shared : both ≡ number_if (is_in (take place ys) (slice_index xs place)) one.unjudged + number_if (is_in (take (place + 1) xs) (slice_index ys place)) two.unjudged

-- ---- lists
whole : (xs : List ℕ) (i : ℕ) → length xs ≤ i → take i xs ≡ xs
whole xs i h = grind (arith, common_steps)

-- no document is left
pub past : (place : ℕ) (xs : List ℕ) → length xs ≤ place → take (place + 1) xs ≡ take place xs
past place xs h = whole xs (place + 1) (omega (arith, h)) ∙ sym (whole xs place h)

-- ---- counts
with_true : (b : Bool) → one_if (b && not false) ≡ one_if b
with_true true = refl
with_true false = refl

with_false : (b : Bool) → one_if (b && not true) ≡ 0
with_false true = refl
with_false false = refl

-- a count with one more document
pub count_push : (q : ℕ → Bool) (xs longer : List ℕ) (x : ℕ) → longer ≡ xs ++ x ∷ [] → count_by q longer ≡ count_by q xs + one_if (q x)
count_push q xs longer x e = ap (count_by q) e ∙ sum_by_push (λ d. one_if (q d)) xs x

-- the counts of the list with one more document, and of the other list
own_next : (taken : Bool) (marks : List Mark) (xs longer ys : List ℕ) (x : ℕ) (v : Bool) → longer ≡ xs ++ x ∷ [] → is_in ys x ≡ v →
    only_count taken marks longer ys ≡ only_count taken marks xs ys + one_if (picked_value taken (mark_at marks x) && not v)
own_next taken marks xs longer ys x v e f =
    count_push (λ d. with_picked marks (λ _. taken) d && not (is_in ys d)) xs longer x e ∙ ap (λ b. only_count taken marks xs ys + one_if (picked_value taken (mark_at marks x) && not b)) f

other_next : (taken : Bool) (marks : List Mark) (xs longer ys : List ℕ) (x : ℕ) (v : Bool) → longer ≡ xs ++ x ∷ [] → is_in ys x ≡ v → IsDistinct nat_eq xs → IsDistinct nat_eq longer → IsDistinct nat_eq ys →
    only_count taken marks ys longer + one_if (picked_value taken (mark_at marks x)) ≡ only_count taken marks ys xs + one_if (picked_value taken (mark_at marks x) && not v)
other_next taken marks xs longer ys x v e f dx dl dy =
    let p = with_picked marks (λ _. taken) in
    omega (arith, difference_outside p xs ys dx dy, difference_outside p longer ys dl dy, count_push p xs longer x e, own_next taken marks xs longer ys x v e f)

-- those that are relevant are among those that can be
fewer_relevant : (marks : List Mark) (xs ys : List ℕ) → only_count false marks xs ys ≤ only_count true marks xs ys
fewer_relevant marks xs ys = count_by-weaker _ _ xs (every _ (λ d. weaker_value (mark_at marks d) (not (is_in ys d))) xs)
  where
    weaker_value : (m : Mark) (e : Bool) → (picked_value false m && e) ≡ true → (picked_value true m && e) ≡ true
    weaker_value Unjudged e h = absurd (cc)
    weaker_value Relevant e h = h
    weaker_value Other e h = absurd (cc)

pub prefixes_swapped : (marks : List Mark) (xs ys : List ℕ) (f : Prefixes) → ArePrefixes marks xs ys f → ArePrefixes marks ys xs (swapped f)
prefixes_swapped marks xs ys f h = record { relevant = sym h.relevant; first = h.second; second = h.first; first_few = h.second_few; second_few = h.first_few }

longer_by : (xs longer : List ℕ) (x : ℕ) → longer ≡ xs ++ x ∷ [] → length longer ≡ length xs + 1
longer_by xs longer x e = ap length e ∙ length-append xs (x ∷ [])

-- the marks of a document that is counted as relevant, and as relevant or unjudged
one_each : (m : Mark) (one : Counts) → one.relevant ≡ one_of false m → one.relevant + one.unjudged ≡ one_of true m → (one_if (picked_value false m) ≡ one.relevant) × ((one_if (picked_value true m) ≡ one.relevant + one.unjudged) × (one.relevant + one.unjudged ≤ 1))
one_each Relevant one e f = (sym e, (sym f, omega (arith, f)))
one_each Unjudged one e f = (sym e, (sym f, omega (arith, f)))
one_each Other one e f = (sym e, (sym f, omega (arith, f)))

-- a document that the other list has not
pub prefixes_alone : (marks : List Mark) (xs longer ys : List ℕ) (x : ℕ) (f g : Prefixes) (one : Counts) → longer ≡ xs ++ x ∷ [] → is_in ys x ≡ false → IsDistinct nat_eq xs → IsDistinct nat_eq longer → IsDistinct nat_eq ys → ArePrefixes marks xs ys f →
    one.relevant ≡ one_of false (mark_at marks x) → one.relevant + one.unjudged ≡ one_of true (mark_at marks x) →
    g.first.relevant ≡ f.first.relevant + one.relevant → g.first.unjudged ≡ f.first.unjudged + one.unjudged → g.second.relevant ≡ f.second.relevant → g.second.unjudged ≡ f.second.unjudged → ArePrefixes marks longer ys g
prefixes_alone marks xs longer ys x f g one e v dx dl dy h er eu ea eb same same_open =
    let each = one_each (mark_at marks x) one er eu in
    let own = own_next false marks xs longer ys x false e v in
    let either = own_next true marks xs longer ys x false e v in
    let other = other_next false marks xs longer ys x false e v dx dl dy in
    let other_either = other_next true marks xs longer ys x false e v dx dl dy in
    let low = with_true (picked_value false (mark_at marks x)) in
    let high = with_true (picked_value true (mark_at marks x)) in
    record {
      relevant = omega (arith, h.relevant, ea, same, own, other, low, each.0);
      first = omega (arith, h.first, eb, own, either, low, high, each.0, each.1.0);
      second = omega (arith, h.second, same_open, other, other_either, low, high);
      first_few = omega (arith, h.first_few, ea, eb, longer_by xs longer x e, each.1.1);
      second_few = omega (arith, h.second_few, same, same_open);
    }

-- a document that it has
pub prefixes_shared : (marks : List Mark) (xs longer ys : List ℕ) (x : ℕ) (f g : Prefixes) (one : Counts) → longer ≡ xs ++ x ∷ [] → is_in ys x ≡ true → IsDistinct nat_eq xs → IsDistinct nat_eq longer → IsDistinct nat_eq ys → ArePrefixes marks xs ys f →
    one.relevant ≡ one_of false (mark_at marks x) → one.relevant + one.unjudged ≡ one_of true (mark_at marks x) →
    g.first.relevant ≡ f.first.relevant + one.relevant → g.first.unjudged ≡ f.first.unjudged → g.second.relevant ≡ f.second.relevant → g.second.unjudged + one.unjudged ≡ f.second.unjudged → ArePrefixes marks longer ys g
prefixes_shared marks xs longer ys x f g one e v dx dl dy h er eu ea eb ec ed =
    let each = one_each (mark_at marks x) one er eu in
    let own = own_next false marks xs longer ys x true e v in
    let either = own_next true marks xs longer ys x true e v in
    let other = other_next false marks xs longer ys x true e v dx dl dy in
    let other_either = other_next true marks xs longer ys x true e v dx dl dy in
    let low = with_false (picked_value false (mark_at marks x)) in
    let high = with_false (picked_value true (mark_at marks x)) in
    record {
      relevant = omega (arith, h.relevant, ea, ec, own, other, low, each.0);
      first = omega (arith, h.first, eb, own, either, low, high);
      second = omega (arith, h.second, ed, other, other_either, low, high, each.0, each.1.0);
      first_few = omega (arith, h.first_few, ea, eb, longer_by xs longer x e, each.1.1);
      second_few = omega (arith, h.second_few, ec, ed);
    }

-- where it has, there is such an unjudged one to take away
pub some_unjudged : (marks : List Mark) (xs longer ys : List ℕ) (x : ℕ) (f : Prefixes) (one : Counts) → longer ≡ xs ++ x ∷ [] → is_in ys x ≡ true → IsDistinct nat_eq xs → IsDistinct nat_eq longer → IsDistinct nat_eq ys → ArePrefixes marks xs ys f →
    one.relevant ≡ one_of false (mark_at marks x) → one.relevant + one.unjudged ≡ one_of true (mark_at marks x) → one.unjudged ≤ f.second.unjudged
some_unjudged marks xs longer ys x f one e v dx dl dy h er eu =
    let each = one_each (mark_at marks x) one er eu in
    omega (arith, h.second, fewer_relevant marks ys longer, other_next false marks xs longer ys x true e v dx dl dy, with_false (picked_value false (mark_at marks x)), other_next true marks xs longer ys x true e v dx dl dy, with_false (picked_value true (mark_at marks x)), each.0, each.1.0)

-- ---- the next document of a list
-- the counts of two lists that are to be told of the next document of a third, whose first ones the first list is, and whether the second list has it
pub record IsTold (marks : List Mark) (docs ys : List ℕ) (place : ℕ) (is_shared : Bool) (prefixes : Prefixes) : Type 0 where
  pub counts : ArePrefixes marks (take place docs) ys prefixes
  pub next : place < length docs → is_in ys (get_or docs place 0) ≡ is_shared
  pub distinct : IsDistinct nat_eq ys

-- the counts with that document
pub record AreAfter (marks : List Mark) (docs ys : List ℕ) (place : ℕ) (is_shared : Bool) (before : Prefixes) (one : Counts) : Type 0 where
  pub after : Prefixes
  pub counts : ArePrefixes marks (take (place + 1) docs) ys after
  pub relevant : after.first.relevant ≡ before.first.relevant + one.relevant
  pub unjudged : after.first.unjudged ≡ before.first.unjudged + number_if (not is_shared) one.unjudged
  pub other : after.second.relevant ≡ before.second.relevant
  pub gone : after.second.unjudged + number_if is_shared one.unjudged ≡ before.second.unjudged

-- with some unjudged documents more of the first, and fewer of the second
abbrev with_one : Prefixes → Counts → ℕ → ℕ → Prefixes
with_one f one own gone = record { first = record { relevant = f.first.relevant + one.relevant; unjudged = f.first.unjudged + own }; second = record { relevant = f.second.relevant; unjudged = f.second.unjudged - gone } }

after_here : (marks : List Mark) (docs ys : List ℕ) (place : ℕ) (b : Bool) (f : Prefixes) (one : Counts) → IsDistinct nat_eq docs → place < length docs → IsTold marks docs ys place b f →
    one.relevant ≡ one_of false (mark_at marks (get_or docs place 0)) → one.relevant + one.unjudged ≡ one_of true (mark_at marks (get_or docs place 0)) → AreAfter marks docs ys place b f one
after_here marks docs ys place true f one distinct lt h er eu =
    let x = get_or docs place 0 in
    let longer = take_more docs place 0 lt in
    let xs = IsDistinct-take place docs distinct in
    let ls = IsDistinct-take (place + 1) docs distinct in
    let there = some_unjudged marks (take place docs) (take (place + 1) docs) ys x f one longer (h.next lt) xs ls h.distinct h.counts er eu in
    let left : f.second.unjudged - one.unjudged + one.unjudged ≡ f.second.unjudged = omega (arith, there) in
    record {
      after = with_one f one 0 one.unjudged;
      counts = prefixes_shared marks (take place docs) (take (place + 1) docs) ys x f (with_one f one 0 one.unjudged) one longer (h.next lt) xs ls h.distinct h.counts er eu refl (omega arith) refl left;
      relevant = refl;
      unjudged = refl;
      other = refl;
      gone = left;
    }
after_here marks docs ys place false f one distinct lt h er eu = record {
  after = with_one f one one.unjudged 0;
  counts =
      prefixes_alone marks (take place docs) (take (place + 1) docs) ys (get_or docs place 0) f (with_one f one one.unjudged 0) one (take_more docs place 0 lt) (h.next lt) (IsDistinct-take place docs distinct) (IsDistinct-take (place + 1) docs distinct) h.distinct h.counts er eu
      refl refl refl (omega arith);
  relevant = refl;
  unjudged = refl;
  other = refl;
  gone = omega arith;
}

number_none : (b : Bool) (n : ℕ) → n ≡ 0 → number_if b n ≡ 0
number_none true n e = e
number_none false n e = refl

after_past : (marks : List Mark) (docs ys : List ℕ) (place : ℕ) (b : Bool) (f : Prefixes) (one : Counts) → length docs ≤ place → IsTold marks docs ys place b f → one.relevant ≡ 0 → one.unjudged ≡ 0 → AreAfter marks docs ys place b f one
after_past marks docs ys place b f one le h er eu = record {
  after = f;
  counts = subst (λ (xs : List ℕ). ArePrefixes marks xs ys f) (sym (past place docs le)) h.counts;
  relevant = omega (arith, er);
  unjudged = omega (arith, number_none (not b) one.unjudged eu);
  other = refl;
  gone = omega (arith, number_none b one.unjudged eu);
}

pub after_next : (marks : List Mark) (docs ys : List ℕ) (place : ℕ) (b : Bool) (f : Prefixes) (one : Counts) → IsDistinct nat_eq docs → IsTold marks docs ys place b f → AreNext marks docs place one → AreAfter marks docs ys place b f one
after_next marks docs ys place b f one distinct h next = elim (cases_lt place (length docs)) [
  | inl lt ↦ let here = next.here lt in after_here marks docs ys place b f one distinct lt h here.least here.most
  | inr le ↦ let none = next.past le in after_past marks docs ys place b f one le h none.least (omega (arith, none.least, none.most))
]

-- either the one number or the other
pub number_either : (b : Bool) (n : ℕ) → number_if (not b) n + number_if b n ≡ n
number_either true n = omega arith
number_either false n = omega arith
