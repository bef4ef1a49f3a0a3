-- Sums of the shares of documents, as the walk over the documents of both rankings adds them up.
use Rattle.std.proofs.Common.{◌≡◌, ℕ, zero, suc, ◌+◌, ◌-◌, ◌*◌, ◌^◌, ◌<◌, ◌≤◌, Bool, true, false, List, map, Option, None, ℤ, pos, neg_ℤ, ◌+ℤ◌, ◌≤ℤ◌, to_z, of_z, arith, refl, ap, ◌∙◌, sym, subst}
use Rattle.std.specs.Int.{w128}
use Rattle.std.specs.Prelude.{if◌then◌else◌}
use Rattle.std.specs.List.{range_with_len}
use Rattle.std.proofs.lemmas.Int.{ints}
use Rattle.std.proofs.lemmas.List.FromFn.{map-range_with_len_more}
use Rattle.desk_model.specs.Completion.{picked_value}
use Rattle.desk_model.specs.Mark.{mark_at}
use Rattle.desk_model.specs.Ranking.{rank}
use Rattle.desk_model.specs.Verdict.{whole_sum}
use Rattle.desk_model.proofs.Sums.{whole_sum-push}
use Rattle.desk_model.specs.declared.types.Mark.{Mark}
use Rattle.desk_model.specs.declared.placed.Placed.{Placed}
use Rattle.measure_laws.specs.Ranks.{comes_before, earlier}
use Rattle.measure_laws.specs.Shares.{biased_truth, share_sum_of}
use Rattle.topic_ends.specs.Walk.{AreFrom, first_of}
use Rattle.topic_ends.proofs.Walks.{IsNextOf, none_before, none_left_of}

pub shares_more : (truth : ℕ → Bool) (n : ℕ) (share : Option ℕ → Option ℕ → ℤ) (a b : List ℕ) → share_sum_of truth (n + 1) share a b ≡ share_sum_of truth n share a b +ℤ (if truth n then share (rank a n) (rank b n) else pos 0)
shares_more truth n share a b =
    let f : ℕ → ℤ = λ doc. if truth doc then share (rank a doc) (rank b doc) else pos 0 in
    ap whole_sum (map-range_with_len_more f 0 n n (omega arith)) ∙ whole_sum-push (map f (range_with_len 0 n)) (f n)

-- ---- one document more, as the code reads it
pub total_is : (n : ℕ) (sum gain : ℤ) → n ≤ 25000000 → neg_ℤ (pos (10 ^ 18 * n)) ≤ℤ sum → sum ≤ℤ pos (10 ^ 18 * n) → neg_ℤ (pos (10 ^ 18)) ≤ℤ gain → gain ≤ℤ pos (10 ^ 18) →
    to_z w128 (of_z w128 (sum +ℤ to_z w128 (of_z w128 gain))) ≡ sum +ℤ gain
total_is n sum gain few h k i j = omega (arith, ints)

-- the sum of so many documents' shares, and how large it can be
pub record IsSum (truth : ℕ → Bool) (n : ℕ) (share : Option ℕ → Option ℕ → ℤ) (a b : List ℕ) (sum : ℤ) : Type 0 where
  pub is : sum ≡ share_sum_of truth n share a b
  pub low : neg_ℤ (pos (10 ^ 18 * n)) ≤ℤ sum
  pub high : sum ≤ℤ pos (10 ^ 18 * n)

pub sum_more : (truth : ℕ → Bool) (n : ℕ) (share : Option ℕ → Option ℕ → ℤ) (a b : List ℕ) (sum gain : ℤ) → n ≤ 25000000 → IsSum truth n share a b sum →
    gain ≡ (if truth n then share (rank a n) (rank b n) else pos 0) → neg_ℤ (pos (10 ^ 18)) ≤ℤ gain → gain ≤ℤ pos (10 ^ 18) → IsSum truth (n + 1) share a b (to_z w128 (of_z w128 (sum +ℤ to_z w128 (of_z w128 gain))))
sum_more truth n share a b sum gain few h e i j =
    let total = total_is n sum gain few h.low h.high i j in
    record {
      is = total ∙ ap (λ z. z +ℤ gain) h.is ∙ ap (λ z. share_sum_of truth n share a b +ℤ z) e ∙ sym (shares_more truth n share a b);
      low = omega (arith, ints, total, h.low, i);
      high = omega (arith, ints, total, h.high, j);
    }

-- documents that neither ranking has add nothing
pub record AreAbsent (n count : ℕ) (share : Option ℕ → Option ℕ → ℤ) (a b : List ℕ) : Type 0 where
  pub nothing : share None None ≡ pos 0
  pub ranks : (d : ℕ) → n ≤ d → d < n + count → (rank a d ≡ None) × (rank b d ≡ None)

pub sum_absent : (truth : ℕ → Bool) (n count : ℕ) (share : Option ℕ → Option ℕ → ℤ) (a b : List ℕ) (sum : ℤ) → AreAbsent n count share a b → IsSum truth n share a b sum → IsSum truth (n + count) share a b sum
sum_absent truth n zero share a b sum h k = subst (λ (m : ℕ). IsSum truth m share a b sum) (omega arith) k
sum_absent truth n (suc count) share a b sum h k =
    let before = sum_absent truth n count share a b sum (record { nothing = h.nothing; ranks = λ d le lt. h.ranks d le (omega (arith, lt)) }) k in
    let none = h.ranks (n + count) (omega arith) (omega arith) in
    let here : (if truth (n + count) then share (rank a (n + count)) (rank b (n + count)) else pos 0) ≡ pos 0 =
    ap (λ (o : Option ℕ). if truth (n + count) then share o (rank b (n + count)) else pos 0) none.0 ∙ ap (λ (o : Option ℕ). if truth (n + count) then share None o else pos 0) none.1 ∙ either (truth (n + count)) (share None None) h.nothing in
    let next : n + count + 1 ≡ n + suc count = omega arith in
    subst (λ (m : ℕ). IsSum truth m share a b sum) next (record {
      is = before.is ∙ sym (plus_none (share_sum_of truth (n + count) share a b)) ∙ ap (λ z. share_sum_of truth (n + count) share a b +ℤ z) (sym here) ∙ sym (shares_more truth (n + count) share a b);
      low = omega (arith, ints, before.low);
      high = omega (arith, ints, before.high);
    })
  where
    either : (t : Bool) (z : ℤ) → z ≡ pos 0 → (if t then z else pos 0) ≡ pos 0
    either true z e = e
    either false z e = refl

    plus_none : (z : ℤ) → z +ℤ pos 0 ≡ z
    plus_none z = omega (arith, ints)

-- ---- the walk over the documents of both rankings
-- the sum of the shares of the documents before those that are left
pub record AreSummed (universe : ℕ) (truth : ℕ → Bool) (share : Option ℕ → Option ℕ → ℤ) (a b : List ℕ) (first second : List Placed) (sum : ℤ) : Type 0 where
  pub next : ℕ
  pub within : next ≤ universe
  pub first_from : AreFrom next a first
  pub second_from : AreFrom next b second
  pub total : IsSum truth next share a b sum

pub summed_next : (universe : ℕ) (truth : ℕ → Bool) (share : Option ℕ → Option ℕ → ℤ) (a b : List ℕ) (first second : List Placed) (sum : ℤ) → (h : AreSummed universe truth share a b first second sum) → (doc : ℕ) → share None None ≡ pos 0 → IsNextOf h.next doc a b first second → IsSum truth doc share a b sum
summed_next universe truth share a b first second sum h doc nothing next =
    let whole : h.next + (doc - h.next) ≡ doc = omega (arith, next.later) in
    subst (λ (m : ℕ). IsSum truth m share a b sum) whole (sum_absent truth h.next (doc - h.next) share a b sum (record { nothing = nothing; ranks = λ d le lt. none_before h.next doc a b first second h.first_from h.second_from next d le (omega (arith, lt, whole)) }) h.total)

pub summed_all : (universe : ℕ) (truth : ℕ → Bool) (share : Option ℕ → Option ℕ → ℤ) (a b : List ℕ) (first second : List Placed) (sum : ℤ) → AreSummed universe truth share a b first second sum → share None None ≡ pos 0 → None ≡ earlier (first_of first) (first_of second) → IsSum truth universe share a b sum
summed_all universe truth share a b first second sum h nothing e =
    let whole : h.next + (universe - h.next) ≡ universe = omega (arith, h.within) in
    subst (λ (m : ℕ). IsSum truth m share a b sum) whole (sum_absent truth h.next (universe - h.next) share a b sum (record { nothing = nothing; ranks = λ d le lt. none_left_of h.next a b first second h.first_from h.second_from e d le }) h.total)

-- with one more document the walk goes on after it
pub summed_more : (universe : ℕ) (truth : ℕ → Bool) (share : Option ℕ → Option ℕ → ℤ) (a b : List ℕ) (first second later_first later_second : List Placed) (sum gain : ℤ) → universe ≤ 25000000 → (h : AreSummed universe truth share a b first second sum) → (doc : ℕ) → share None None ≡ pos 0 →
    IsNextOf h.next doc a b first second → doc < universe → gain ≡ (if truth doc then share (rank a doc) (rank b doc) else pos 0) → neg_ℤ (pos (10 ^ 18)) ≤ℤ gain → gain ≤ℤ pos (10 ^ 18) → AreFrom (doc + 1) a later_first → AreFrom (doc + 1) b later_second →
    AreSummed universe truth share a b later_first later_second (to_z w128 (of_z w128 (sum +ℤ to_z w128 (of_z w128 gain))))
summed_more universe truth share a b first second later_first later_second sum gain few h doc nothing next known is low high from from' = record {
  next = doc + 1;
  within = omega (arith, known);
  first_from = from;
  second_from = from';
  total = sum_more truth doc share a b sum gain (omega (arith, known, few)) (summed_next universe truth share a b first second sum h doc nothing next) is low high;
}

-- what a document adds in the least case
pub least_gain_is : (share : Option ℕ → Option ℕ → ℤ) (marks : List Mark) (a b : List ℕ) (n : ℕ) (x y : Option ℕ) (mark : Mark) (gain : ℤ) → gain ≡ (if picked_value (comes_before y x) mark then share x y else pos 0) →
    x ≡ rank a n → y ≡ rank b n → mark ≡ mark_at marks n → gain ≡ (if biased_truth marks a b n then share (rank a n) (rank b n) else pos 0)
least_gain_is share marks a b n x y mark gain e ex ey em =
    e ∙ ap (λ (o : Option ℕ). if picked_value (comes_before y o) mark then share o y else pos 0) ex
    ∙ ap (λ (o : Option ℕ). if picked_value (comes_before o (rank a n)) mark then share (rank a n) o else pos 0) ey
    ∙ ap (λ (m : Mark). if picked_value (comes_before (rank b n) (rank a n)) m then share (rank a n) (rank b n) else pos 0) em
