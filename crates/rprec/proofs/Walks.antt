-- Walking the documents of a topic, with what is left of each class.
use Rattle.std.proofs.Common.{◌≡◌, ℕ, suc, ◌+◌, ◌-◌, ◌<◌, Bool, false, not, ◌&&◌, ◌||◌, nat_lt, List, [], ◌∷◌, ◌++◌, length, take, count_by, slice_index_or, arith, refl, ap, ◌∙◌, sym}
use Rattle.std.specs.Prelude.{if◌then◌else◌}
use Rattle.std.specs.List.{range_with_len}
use Rattle.std.proofs.lemmas.Grind.{common_steps}
use Rattle.std.proofs.lemmas.Bool.Decides.{nat_tests}
use Rattle.desk_model.specs.Mark.{mark_at}
use Rattle.desk_model.specs.Completion.{picked_value, with_picked}
use Rattle.desk_model.specs.Ranking.{is_in}
use Rattle.desk_model.specs.declared.types.Mark.{Mark}
use Rattle.desk_model.proofs.Counts.{one_if}
use Rattle.measure_laws.specs.Classes.{is_unjudged, open_in, is_among_first, size_of, judged_count}
use Rattle.measure_laws.specs.RprecCase.{greedy_pick}
use Rattle.measure_laws.specs.Prefixes.{only_second, neutral}
use Rattle.measure_laws.proofs.RprecEnds.{count_more}
use Rattle.rprec.specs.declared.values.Wanted.{Wanted}
use Rattle.rprec.specs.Picks.{picks}

some_left : (j n left : ℕ) → left ≡ j - n → nat_lt 0 left ≡ nat_lt n j
some_left j n left e = rw e (tested j n)
  where
    tested : (j n : ℕ) → nat_lt 0 (j - n) ≡ nat_lt n j
    tested j n = grind (arith, nat_tests)

-- what is left after one more document
pub left_more : (class : ℕ → Bool) (place wanted left after : ℕ) (b : Bool) → left ≡ wanted - count_by class (range_with_len 0 place) → after ≡ left - (if b then 1 else 0) → b ≡ class place →
    after ≡ wanted - count_by class (range_with_len 0 (place + 1))
left_more class place wanted left after b e f g =
    let next : suc place ≡ place + 1 = omega arith in
    let counted : count_by class (range_with_len 0 (place + 1)) ≡ count_by class (range_with_len 0 place) + one_if (class place) = ap (λ n. count_by class (range_with_len 0 n)) (sym next) ∙ count_more class place in
    let here : one_if b ≡ one_if (class place) = ap one_if g in
    omega (arith, e, f, counted, here)

-- the value of a document by what is left of each class
abbrev pub value_by : Bool → Bool → Bool → Bool → Bool → Mark → Bool
value_by second both first i j m =
    picked_value (((is_unjudged m && (j && not i)) && second) || (((is_unjudged m && (not (j && not i) && not (i && not j))) && both) || ((is_unjudged m && (i && not j)) && first))) m

pub value_is : (marks : List Mark) (a b : List ℕ) (r place : ℕ) (wanted left : Wanted) (i j value : Bool) → i ≡ is_in (take r a) place → j ≡ is_in (take r b) place →
    left.second ≡ wanted.second - count_by (open_in marks (only_second r a b)) (range_with_len 0 place) → left.both ≡ wanted.both - count_by (open_in marks (neutral r a b)) (range_with_len 0 place) →
    left.first ≡ wanted.first - count_by (open_in marks (only_second r b a)) (range_with_len 0 place) → value ≡ value_by (nat_lt 0 left.second) (nat_lt 0 left.both) (nat_lt 0 left.first) i j (mark_at marks place) →
    value ≡ with_picked marks (picks wanted marks a b r) place
value_is marks a b r place wanted left i j value ei ej es eb ef ev =
    let m = mark_at marks place in
    let s = nat_lt (count_by (open_in marks (only_second r a b)) (range_with_len 0 place)) wanted.second in
    let n = nat_lt (count_by (open_in marks (neutral r a b)) (range_with_len 0 place)) wanted.both in
    let f = nat_lt (count_by (open_in marks (only_second r b a)) (range_with_len 0 place)) wanted.first in
    ev ∙ ap (λ x. value_by x (nat_lt 0 left.both) (nat_lt 0 left.first) i j m) (some_left wanted.second _ left.second es)
    ∙ ap (λ x. value_by s x (nat_lt 0 left.first) i j m) (some_left wanted.both _ left.both eb) ∙ ap (λ x. value_by s n x i j m) (some_left wanted.first _ left.first ef)
    ∙ ap (λ x. value_by s n f x j m) ei ∙ ap (λ x. value_by s n f (is_in (take r a) place) x m) ej

pub value_more : (f : ℕ → Bool) (xs ys : List Bool) (x : Bool) (n : ℕ) → length xs ≡ n → ys ≡ xs ++ x ∷ [] → x ≡ f n → ((d : ℕ) → d < n → slice_index_or xs d false ≡ f d) → (d : ℕ) → d < n + 1 → slice_index_or ys d false ≡ f d
value_more f xs ys x n len e here before d h = grind (arith, common_steps, before d)

pub same_classes : (i j i' j' u : Bool) → i ≡ i' → j ≡ j' → ((u && (j && not i)) ≡ (u && (j' && not i'))) × (((u && (not (j && not i) && not (i && not j))) ≡ (u && (not (j' && not i') && not (i' && not j')))) × ((u && (i && not j)) ≡ (u && (i' && not j'))))
same_classes i j i' j' u e f = rw (e, f) (refl, (refl, refl))

-- ---- the numbers of the greedy choice
pub picks_are : (marks : List Mark) (a b : List ℕ) (r : ℕ) (w : Wanted) → w.second ≡ r - judged_count marks → w.both ≡ r - judged_count marks - size_of (length marks) (open_in marks (only_second r a b)) →
    w.first ≡ r - judged_count marks - size_of (length marks) (open_in marks (only_second r a b)) - size_of (length marks) (open_in marks (neutral r a b)) → picks w marks a b r ≡ greedy_pick marks a b r
picks_are marks a b r w es eb ef =
    let by : ℕ → ℕ → ℕ → ℕ → Bool = λ s n f doc. is_among_first s (open_in marks (only_second r a b)) doc || (is_among_first n (open_in marks (neutral r a b)) doc || is_among_first f (open_in marks (only_second r b a)) doc) in
    let s = r - judged_count marks in
    let n = s - size_of (length marks) (open_in marks (only_second r a b)) in
    ap (λ x. by x w.both w.first) es ∙ ap (λ x. by s x w.first) eb ∙ ap (λ x. by s n x) ef
