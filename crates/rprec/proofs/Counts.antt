-- The counts of the first documents of two runs, depth by depth.
use Rattle.std.proofs.Common.{◌≡◌, ℕ, zero, suc, ◌+◌, ◌*◌, ◌%◌, ◌<◌, ◌≤◌, Bool, true, false, not, ◌&&◌, nat_eq, nat_lt, List, [], ◌∷◌, length, take, get_or, set, count_by, sum, arith, refl, ap, ◌∙◌, subst, inl, inr}
use Rattle.std.specs.List.{IsDistinct}
use Rattle.std.proofs.lemmas.Bool.{cases_lt}
use Rattle.std.proofs.lemmas.Grind.{common_steps}
use Rattle.std.proofs.lemmas.List.{take_more, take-take, get_or-set_same, get_or-set_other}
use Rattle.std.proofs.lemmas.List.Sums.{sum_by_more, sum_by-take-le}
use Rattle.std.proofs.lemmas.Nat.{div-mul-add, mod-mul-add}
use Rattle.desk_model.specs.Mark.{is_unjudged, mark_at}
use Rattle.desk_model.specs.Classes.{only_count}
use Rattle.desk_model.specs.Completion.{picked_value, with_picked}
use Rattle.desk_model.specs.Ranking.{IsRanking, is_in}
use Rattle.desk_model.specs.declared.types.Mark.{Mark}
use Rattle.desk_model.specs.declared.types.Mark.TheVariants.{Unjudged, Relevant, Other}
use Rattle.desk_model.proofs.Counts.{one_if, count_by-cons, IsDistinct-take}
use Rattle.desk_model.proofs.PrecisionEnds.{difference_outside}
use Rattle.measure_laws.specs.Classes.{open_in}
use Rattle.topic_counts.specs.declared.counts.Counts.{Counts}
use Rattle.rprec.specs.declared.prefixes.Prefixes.{Prefixes}
use Rattle.rprec.specs.Greedy.{AreNext, one_of, own_counts, prefixes_of}
use Rattle.rprec.specs.Packed.{IsPackedNext, pack, packed_of, unpack, unpacked_of}
use Rattle.rprec.specs.Shared.{AreShared, met}
use Rattle.rprec.specs.Sums.{AreSharedBelow, counts_of}
use Rattle.rprec.proofs.Counted.{counted_before}
use Rattle.rprec.proofs.Flags.{deeper}
use Rattle.rprec.proofs.Packed.{next_here, next_past}
use Rattle.rprec.proofs.Steps.{ArePrefixes, count_push, past}

-- ---- counts of lists
-- the own unjudged documents are those that can be relevant, and are not
own_open : (marks : List Mark) (xs ys : List ℕ) → (own_counts marks xs ys).unjudged + only_count false marks xs ys ≡ only_count true marks xs ys
own_open marks [] ys = refl
own_open marks (x ∷ xs) ys =
    omega (
      arith,
      count_by-cons (open_in marks (λ doc. not (is_in ys doc))) x xs,
      count_by-cons (λ d. with_picked marks (λ _. false) d && not (is_in ys d)) x xs,
      count_by-cons (λ d. with_picked marks (λ _. true) d && not (is_in ys d)) x xs,
      by_mark (mark_at marks x) (not (is_in ys x)),
      own_open marks xs ys,
    )
  where
    by_mark : (m : Mark) (b : Bool) → one_if (is_unjudged m && b) + one_if (picked_value false m && b) ≡ one_if (picked_value true m && b)
    by_mark Unjudged true = refl
    by_mark Unjudged false = refl
    by_mark Relevant true = refl
    by_mark Relevant false = refl
    by_mark Other b = refl

-- no document is counted twice
own_few : (marks : List Mark) (xs ys : List ℕ) → (own_counts marks xs ys).relevant + (own_counts marks xs ys).unjudged ≤ length xs
own_few marks [] ys = omega arith
own_few marks (x ∷ xs) ys =
    omega (arith, count_by-cons (with_picked marks (λ _. false)) x xs, count_by-cons (open_in marks (λ doc. not (is_in ys doc))) x xs, by_mark (mark_at marks x) (not (is_in ys x)), own_few marks xs ys)
  where
    by_mark : (m : Mark) (b : Bool) → one_if (picked_value false m) + one_if (is_unjudged m && b) ≤ 1
    by_mark Unjudged true = omega arith
    by_mark Unjudged false = omega arith
    by_mark Relevant b = omega arith
    by_mark Other b = omega arith

-- nor among all of a list
pub all_few : (marks : List Mark) (xs : List ℕ) → (counts_of marks xs).relevant + (counts_of marks xs).unjudged ≤ length xs
all_few marks [] = omega arith
all_few marks (x ∷ xs) = omega (arith, count_by-cons (with_picked marks (λ _. false)) x xs, count_by-cons (λ d. is_unjudged (mark_at marks d)) x xs, by_mark (mark_at marks x), all_few marks xs)
  where
    by_mark : (m : Mark) → one_if (picked_value false m) + one_if (is_unjudged m) ≤ 1
    by_mark Unjudged = omega arith
    by_mark Relevant = omega arith
    by_mark Other = omega arith

-- the counts of two lists are as far apart as those that each alone has
own_prefixes : (marks : List Mark) (xs ys : List ℕ) → IsDistinct nat_eq xs → IsDistinct nat_eq ys → ArePrefixes marks xs ys (record { first = own_counts marks xs ys; second = own_counts marks ys xs })
own_prefixes marks xs ys dx dy = record {
  relevant = difference_outside (with_picked marks (λ _. false)) xs ys dx dy;
  first = own_open marks xs ys;
  second = own_open marks ys xs;
  first_few = own_few marks xs ys;
  second_few = own_few marks ys xs;
}

-- so are those of the first documents of two runs
pub prefixes_are : (marks : List Mark) (a b : List ℕ) (depth : ℕ) → IsRanking (length marks) a → IsRanking (length marks) b → ArePrefixes marks (take depth a) (take depth b) (prefixes_of marks a b depth)
prefixes_are marks a b depth ra rb = own_prefixes marks (take depth a) (take depth b) (IsDistinct-take depth a ra.distinct) (IsDistinct-take depth b rb.distinct)

-- ---- one more document
-- the counts of a list up to a place, with those of the document there
record AreMore (marks : List Mark) (docs : List ℕ) (place : ℕ) (one : Counts) : Type 0 where
  pub relevant : (counts_of marks (take (place + 1) docs)).relevant ≡ (counts_of marks (take place docs)).relevant + one.relevant
  pub unjudged : (counts_of marks (take (place + 1) docs)).unjudged ≡ (counts_of marks (take place docs)).unjudged + one.unjudged

-- the next document adds its counts
are_more : (marks : List Mark) (docs : List ℕ) (place : ℕ) (one : Counts) → AreNext marks docs place one → AreMore marks docs place one
are_more marks docs place one h = elim (cases_lt place (length docs)) [
  | inl lt ↦
      let x = get_or docs place 0 in
      let longer = take_more docs place 0 lt in
      let here = h.here lt in
      record {
        relevant = omega (arith, count_push (with_picked marks (λ _. false)) (take place docs) (take (place + 1) docs) x longer, here.least);
        unjudged = omega (arith, count_push (λ d. is_unjudged (mark_at marks d)) (take place docs) (take (place + 1) docs) x longer, by_mark (mark_at marks x) here.least here.most);
      }
  | inr le ↦
      let none = h.past le in
      record {
        relevant = omega (arith, ap (λ xs. (counts_of marks xs).relevant) (past place docs le), none.least);
        unjudged = omega (arith, ap (λ xs. (counts_of marks xs).unjudged) (past place docs le), none.least, none.most);
      }
]
  where
    by_mark : (m : Mark) → one.relevant ≡ one_of false m → one.relevant + one.unjudged ≡ one_of true m → one_if (is_unjudged m) ≡ one.unjudged
    by_mark Unjudged e f = omega (arith, e, f)
    by_mark Relevant e f = omega (arith, e, f)
    by_mark Other e f = omega (arith, e, f)

-- what a number of the document at a place adds
pub number_adds : (marks : List Mark) (docs : List ℕ) (place number : ℕ) → IsPackedNext marks docs place number → pack (counts_of marks (take (place + 1) docs)) ≡ pack (counts_of marks (take place docs)) + number
number_adds marks docs place number h = let m = are_more marks docs place h.counts h.next in omega (arith, m.relevant, m.unjudged, h.same)

-- each place has such a number
some_next : (marks : List Mark) (docs : List ℕ) (place : ℕ) → (number : ℕ) × IsPackedNext marks docs place number
some_next marks docs place = elim (cases_lt place (length docs)) [ inl lt ↦ (_, next_here marks docs place _ lt refl) | inr le ↦ (0, next_past marks docs place le) ]

-- ---- what both share
-- a sum with one more place
pub sum_more : (counts : List ℕ) (place : ℕ) → sum (take (place + 1) counts) ≡ sum (take place counts) + get_or counts place 0
sum_more counts place = elim (cases_lt place (length counts)) [
  | inl lt ↦ sum_by_more (λ n. n) counts place 0 lt
  | inr le ↦ omega (arith, ap sum (past place counts le), beyond counts place le)
]
  where
    beyond : (xs : List ℕ) (n : ℕ) → length xs ≤ n → get_or xs n 0 ≡ 0
    beyond xs n le = grind (arith, common_steps)

-- where each place counts two at most
pub sum_few : (counts : List ℕ) (n : ℕ) → ((place : ℕ) → get_or counts place 0 ≤ 2) → sum (take n counts) ≤ 2 * n
sum_few counts zero few = omega arith
sum_few counts (suc n) few = subst (λ (k : ℕ). sum (take k counts) ≤ 2 * k) (omega arith) (let here : sum (take (n + 1) counts) ≤ 2 * (n + 1) = omega (arith, sum_more counts n, few n, sum_few counts n few) in here)

-- at one depth, what is a run's own and what is counted as shared are all
record AreBelow (marks : List Mark) (a b counts : List ℕ) (depth : ℕ) : Type 0 where
  pub first : (prefixes_of marks a b depth).first.unjudged + sum (take depth counts) ≡ (counts_of marks (take depth a)).unjudged
  pub second : (prefixes_of marks a b depth).second.unjudged + sum (take depth counts) ≡ (counts_of marks (take depth b)).unjudged

-- this holds at each depth
are_below : (marks : List Mark) (a b counts : List ℕ) → IsRanking (length marks) a → IsRanking (length marks) b → AreShared marks a b counts → (depth : ℕ) → depth ≤ 10000 → AreBelow marks a b counts depth
are_below marks a b counts ra rb h zero le = record { first = refl; second = refl }
are_below marks a b counts ra rb h (suc place) le =
    let before = are_below marks a b counts ra rb h place (omega arith) in
    let one = (some_next marks a place).1 in
    let two = (some_next marks b place).1 in
    let f = prefixes_of marks a b place in
    let deep = deeper marks a b place f one.counts two.counts (get_or counts place 0) (counted_before marks a b place f one.counts two.counts counts (get_or counts place 0) refl ra rb h (omega arith) (prefixes_are marks a b place ra rb) one.next two.next) in
    let after = prefixes_are marks a b (place + 1) ra rb in
    let here : AreBelow marks a b counts (place + 1) = record {
      first = omega (arith, before.first, sum_more counts place, (are_more marks a place one.counts one.next).unjudged, deep.first_open, deep.counts.first, after.first);
      second = omega (arith, before.second, sum_more counts place, (are_more marks b place two.counts two.next).unjudged, deep.second_open, deep.counts.second, after.second);
    } in
    subst (AreBelow marks a b counts) (omega arith) here

-- what is counted place by place tells it
pub shared_below : (marks : List Mark) (a b counts : List ℕ) → IsRanking (length marks) a → IsRanking (length marks) b → AreShared marks a b counts → AreSharedBelow marks a b counts
shared_below marks a b counts ra rb h = record { first = λ depth le. (are_below marks a b counts ra rb h depth le).first; second = λ depth le. (are_below marks a b counts ra rb h depth le).second }

-- each place counts two at most
pub few_shared : (marks : List Mark) (a b counts : List ℕ) → AreShared marks a b counts → (place : ℕ) → get_or counts place 0 ≤ 2
few_shared marks a b counts h place = omega (arith, h.each place, at_most_1 a (take place b), at_most_1 b (take (place + 1) a))
  where
    at_most_1 : (docs others : List ℕ) → met marks docs others place ≤ 1
    at_most_1 docs others = by_test ((nat_lt place (length docs) && is_in others (get_or docs place 0)) && is_unjudged (mark_at marks (get_or docs place 0)))
      where
        by_test : (b : Bool) → one_if b ≤ 1
        by_test true = omega arith
        by_test false = omega arith

-- ---- longer lists
-- a longer part of a list has no fewer documents of a kind
pub count_rises : (p : ℕ → Bool) (xs : List ℕ) (m n : ℕ) → m ≤ n → count_by p (take m xs) ≤ count_by p (take n xs)
count_rises p xs m n le = subst (λ (ys : List ℕ). count_by p ys ≤ count_by p (take n xs)) (take-take m n xs le) (sum_by-take-le (λ d. one_if (p d)) (take n xs) m)

-- nor a smaller sum
pub sum_rises : (xs : List ℕ) (m n : ℕ) → m ≤ n → sum (take m xs) ≤ sum (take n xs)
sum_rises xs m n le = subst (λ (ys : List ℕ). sum ys ≤ sum (take n xs)) (take-take m n xs le) (sum_by-take-le (λ k. k) (take n xs) m)

-- one more document
pub count_more : (p : ℕ → Bool) (xs : List ℕ) (n : ℕ) → count_by p (take (n + 1) xs) ≤ count_by p (take n xs) + 1
count_more p xs n = elim (cases_lt n (length xs)) [
  | inl lt ↦ omega (arith, count_push p (take n xs) (take (n + 1) xs) (get_or xs n 0) (take_more xs n 0 lt), at_most_1 (p (get_or xs n 0)))
  | inr le ↦ omega (arith, ap (count_by p) (past n xs le))
]
  where
    at_most_1 : (b : Bool) → one_if b ≤ 1
    at_most_1 true = omega arith
    at_most_1 false = omega arith

-- ---- numbers
-- what is packed is unpacked again
pub unpacked_packed : (f : Prefixes) → f.first.unjudged < 65536 → f.second.unjudged < 65536 → unpacked_of (packed_of f) ≡ f
unpacked_packed f first second = ap (λ (c : Counts). both c (unpack (pack f.second))) (unpack_pack f.first first) ∙ ap (both f.first) (unpack_pack f.second second)
  where
    both : Counts → Counts → Prefixes
    both c d = record { first = c; second = d }

    counts : ℕ → ℕ → Counts
    counts m n = record { relevant = m; unjudged = n }

    unpack_pack : (c : Counts) → c.unjudged < 65536 → unpack (pack c) ≡ c
    unpack_pack c lt = ap (λ (m : ℕ). counts m (pack c % 65536)) (div-mul-add c.relevant 65536 c.unjudged lt) ∙ ap (counts c.relevant) (mod-mul-add c.relevant 65536 c.unjudged lt)

-- ---- lists of sums
-- the next of some sums is put into their list
pub sums_next : (f : ℕ → ℕ) (numbers : List ℕ) (block number : ℕ) → block + 1 < length numbers → ((k : ℕ) → k ≤ block → get_or numbers k 0 ≡ f k) → number ≡ f (block + 1) → (k : ℕ) → k ≤ block + 1 → get_or (set numbers (block + 1) number) k 0 ≡ f k
sums_next f numbers block number lt each e k le = elim (cases_lt k (block + 1)) [
  | inl less ↦ get_or-set_other numbers (block + 1) k number 0 (λ h. absurd (omega (arith, h, less))) ∙ each k (omega (arith, less))
  | inr more ↦
      let same : block + 1 ≡ k = omega (arith, le, more) in
      subst (λ (n : ℕ). get_or (set numbers (block + 1) number) n 0 ≡ f n) same (get_or-set_same numbers (block + 1) number 0 lt ∙ e)
]
