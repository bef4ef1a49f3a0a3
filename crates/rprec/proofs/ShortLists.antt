-- R-precision where no run has more documents than are judged relevant.
use Rattle.std.proofs.Common.{◌≡◌, ℕ, zero, suc, ◌+◌, ◌-◌, ◌<◌, ◌≤◌, min, Bool, true, false, not, ◌&&◌, List, [], ◌∷◌, ◌++◌, length, take, map, ℤ, neg_ℤ, arith, refl, ap, ◌∙◌, sym, subst}
use Rattle.std.specs.List.{range_with_len}
use Rattle.std.specs.Prelude.{if◌then◌else◌}
use Rattle.std.proofs.lemmas.Bool.{eq-eqb}
use Rattle.std.proofs.lemmas.List.{length-take, map-append, take_all, take-take}
use Rattle.std.proofs.lemmas.List.Elements.{All-take}
use Rattle.std.proofs.lemmas.List.Sums.{count_by-le-length}
use Rattle.desk_model.specs.Classes.{only_count}
use Rattle.desk_model.specs.Completion.{with_picked}
use Rattle.desk_model.specs.Pairs.{pairs_of}
use Rattle.desk_model.specs.Ranking.{IsRanking, is_in}
use Rattle.desk_model.specs.declared.types.Mark.{Mark}
use Rattle.desk_model.specs.declared.types.MeasureName.TheVariants.{RPrecision}
use Rattle.desk_model.proofs.Counts.{IsDistinct-take}
use Rattle.measure_core.specs.Laws.{AreMet}
use Rattle.measure_core.specs.Numbers.{exact_cell, exact_least}
use Rattle.measure_core.specs.Pairs.{AreAllMet, DeskTopic, pair_cells, ranking_on, run_numbers, runs_on}
use Rattle.measure_core.specs.Told.{AreTold}
use Rattle.measure_core.specs.declared.cell.Cell.{Cell}
use Rattle.measure_laws.specs.Classes.{judged_count}
use Rattle.topic_counts.specs.declared.counts.Counts.{Counts}
use Rattle.topic_counts.specs.declared.counts.OwnCounts.{OwnCounts}
use Rattle.topic_counts.specs.declared.span.Span.{Span}
use Rattle.topic_counts.specs.Numbers.{negated}
use Rattle.rprec.specs.declared.greedy.DepthCandidate.{DepthCandidate}
use Rattle.rprec.specs.declared.prefixes.Prefixes.{Prefixes}
use Rattle.rprec.specs.Greedy.{AreFew, AreTopic, IsLeast, best_beyond, candidate}
use Rattle.rprec.specs.Short.{HasNoLongerRun, zero_cell, short_cell}
use Rattle.rprec.proofs.Choices.{few_are}
use Rattle.rprec.proofs.Ends.{topic_is}
use Rattle.rprec.proofs.Steps.{ArePrefixes}
use Rattle.rprec.proofs.Tails.{best_alone, beyond_is_least, choice_gains, settled}

-- a cell and a span by their ends
abbrev cell_of : Span → Span → Cell
cell_of least most = record { least = least; most = most }

abbrev span_of : ℤ → ℤ → Span
span_of lo hi = record { lo = lo; hi = hi }

-- ---- the first documents of a run
-- they are a ranking too
short_ranking : (k n : ℕ) (a : List ℕ) → IsRanking n a → IsRanking n (take k a)
short_ranking k n a h = record {
  distinct = IsDistinct-take k a h.distinct;
  within = All-take (λ d. d < n) k a h.within;
  short = omega (arith, length-take {A = ℕ} k a, h.short);
}

pub short_met : (k : ℕ) (marks : List Mark) (a b : List ℕ) → AreMet marks a b → AreMet marks (take k a) (take k b)
short_met k marks a b h = record { first = short_ranking k (length marks) a h.first; second = short_ranking k (length marks) b h.second; small = h.small }

-- ---- what each of two runs alone has
-- the counts as those of two prefixes
abbrev pub prefixes_in : OwnCounts → Prefixes
prefixes_in own = record { first = own.first; second = own.second }

-- what is told of two runs is told of the swapped ones
abbrev pub swapped_own : OwnCounts → OwnCounts
swapped_own own = record { first = own.second; second = own.first }

pub told_swapped : (k : ℕ) (marks : List Mark) (a b : List ℕ) (own : OwnCounts) (all : Counts) → AreTold k marks a b own all → AreTold k marks b a (swapped_own own) all
told_swapped k marks a b own all h = record {
  met = record { first = h.met.second; second = h.met.first; small = h.met.small };
  first = h.second;
  second = h.first;
  topic = h.topic;
  few = h.few;
}

-- they are as far apart as the runs
own_apart : (k : ℕ) (marks : List Mark) (a b : List ℕ) (own : OwnCounts) (all : Counts) → AreTold k marks a b own all → ArePrefixes marks (take k a) (take k b) (prefixes_in own)
own_apart k marks a b own all h = record {
  relevant = omega (arith, h.first.least, h.second.least);
  first = omega (arith, h.first.least, h.first.most);
  second = omega (arith, h.second.least, h.second.most);
  first_few = omega (arith, h.first.most, count_by-le-length (λ doc. with_picked marks (λ _. true) doc && not (is_in (take k b) doc)) (take k a));
  second_few = omega (arith, h.second.most, count_by-le-length (λ doc. with_picked marks (λ _. true) doc && not (is_in (take k a) doc)) (take k b));
}

pub topic_told : (k : ℕ) (marks : List Mark) (a b : List ℕ) (own : OwnCounts) (all : Counts) → AreTold k marks a b own all → AreTopic marks all
topic_told k marks a b own all h = topic_is marks all h.topic.least h.topic.most

pub own_few : (k : ℕ) (marks : List Mark) (a b : List ℕ) (own : OwnCounts) (all : Counts) → AreTold k marks a b own all → AreFew (prefixes_in own) all
own_few k marks a b own all h =
    few_are marks a b k (prefixes_in own) all h.met.first h.met.second (own_apart k marks a b own all h) (topic_told k marks a b own all h) h.few

-- the least candidate of the runs' first documents, where as many are judged relevant
pub short_least : (k : ℕ) (marks : List Mark) (a b : List ℕ) (own : OwnCounts) (all : Counts) (c : DepthCandidate) → 0 < k → all.relevant ≡ k → AreTold k marks a b own all →
    c ≡ best_beyond (prefixes_in own) all 0 (candidate (prefixes_in own) all 0) → IsLeast marks (take k a) (take k b) c
short_least k marks a b own all c some e h is =
    beyond_is_least marks xs ys all f 0 judged c rx ry topic (omega arith) (settled marks xs ys all f 0 k topic (omega (arith, length-take {A = ℕ} k a)) (omega (arith, length-take {A = ℕ} k b)) some (omega (arith, e)) (apart (all.relevant + 0) (omega (arith, e))))
    (best_alone marks xs ys all.relevant judged (choice_gains marks xs ys all.relevant 0 f all judged rx ry (apart all.relevant e) topic (omega arith) (omega arith) refl) (omega arith)) is
  where
    xs : List ℕ
    xs = take k a

    ys : List ℕ
    ys = take k b

    f : Prefixes
    f = prefixes_in own

    judged : DepthCandidate
    judged = candidate f all 0

    rx : IsRanking (length marks) xs
    rx = short_ranking k (length marks) a h.met.first

    ry : IsRanking (length marks) ys
    ry = short_ranking k (length marks) b h.met.second

    topic : AreTopic marks all
    topic = topic_told k marks a b own all h

    again : (r : ℕ) (docs : List ℕ) → r ≡ k → take r (take k docs) ≡ take k docs
    again r docs er = take_all r (take k docs) (omega (arith, er, length-take {A = ℕ} k docs))

    apart : (r : ℕ) → r ≡ k → ArePrefixes marks (take r xs) (take r ys) f
    apart r er = subst (λ (zs : List ℕ). ArePrefixes marks (take r xs) zs f) (sym (again r b er)) (subst (λ (zs : List ℕ). ArePrefixes marks zs ys f) (sym (again r a er)) (own_apart k marks a b own all h))

-- ---- the cell of two runs
-- where as many documents are judged relevant
pub short_here : (k : ℕ) (marks : List Mark) (a b : List ℕ) → judged_count marks ≡ k → short_cell k marks a b ≡ exact_cell RPrecision marks (take k a) (take k b)
short_here k marks a b e = ap (λ (v : Bool). if v then exact_cell RPrecision marks (take k a) (take k b) else zero_cell) (eq-eqb (judged_count marks) k e)

-- from its ends, those of the swapped runs negated
pub short_is : (k : ℕ) (marks : List Mark) (a b : List ℕ) (least most negative : Span) → judged_count marks ≡ k → least ≡ exact_least RPrecision marks (take k a) (take k b) → most ≡ exact_least RPrecision marks (take k b) (take k a) →
    negative.lo ≡ neg_ℤ most.hi → negative.hi ≡ neg_ℤ most.lo → cell_of least negative ≡ short_cell k marks a b
short_is k marks a b least most negative e el em lo hi =
    ap (λ (s : Span). cell_of s negative) el ∙ ap (cell_of (exact_least RPrecision marks (take k a) (take k b))) (ends ∙ ap negated em) ∙ sym (short_here k marks a b e)
  where
    ends : negative ≡ negated most
    ends = ap (λ (z : ℤ). span_of z negative.hi) lo ∙ ap (span_of (neg_ℤ most.hi)) hi

-- ---- the cells of all pairs
-- two functions that agree on the numbers of runs agree on their pairs
agree_with : (f g : ℕ → ℕ → Cell) (x start n : ℕ) → ((y : ℕ) → y < start + n → f x y ≡ g x y) →
    map (λ (pair : ℕ × ℕ). f pair.0 pair.1) (map (λ y. (x, y)) (range_with_len start n)) ≡ map (λ (pair : ℕ × ℕ). g pair.0 pair.1) (map (λ y. (x, y)) (range_with_len start n))
agree_with f g x start zero h = refl
agree_with f g x start (suc n) h =
    ap (λ c. c ∷ map (λ (pair : ℕ × ℕ). f pair.0 pair.1) (map (λ y. (x, y)) (range_with_len (start + 1) n))) (h start (omega arith)) ∙ ap (λ cs. g x start ∷ cs) (agree_with f g x (start + 1) n (λ y lt. h y (omega (arith, lt))))

agree_on_pairs : (f g : ℕ → ℕ → Cell) (start n : ℕ) → ((x y : ℕ) → x < start + n → y < start + n → f x y ≡ g x y) →
    map (λ (pair : ℕ × ℕ). f pair.0 pair.1) (pairs_of (range_with_len start n)) ≡ map (λ (pair : ℕ × ℕ). g pair.0 pair.1) (pairs_of (range_with_len start n))
agree_on_pairs f g start zero h = refl
agree_on_pairs f g start (suc n) h =
    let later = range_with_len (start + 1) n in
    let firsts = map (λ y. (start, y)) later in
    map-append (λ (pair : ℕ × ℕ). f pair.0 pair.1) firsts (pairs_of later)
    ∙ ap (λ cs. cs ++ map (λ (pair : ℕ × ℕ). f pair.0 pair.1) (pairs_of later)) (agree_with f g start (start + 1) n (λ y lt. h start y (omega arith) (omega (arith, lt))))
    ∙ ap (λ cs. map (λ (pair : ℕ × ℕ). g pair.0 pair.1) firsts ++ cs) (agree_on_pairs f g (start + 1) n (λ x y lx ly. h x y (omega (arith, lx)) (omega (arith, ly))))
    ∙ sym (map-append (λ (pair : ℕ × ℕ). g pair.0 pair.1) firsts (pairs_of later))

-- where all runs are short, the cells of their first documents are theirs
pub short_pairs : (k : ℕ) (marks : List Mark) (t : DeskTopic) → judged_count marks ≡ k → HasNoLongerRun k t → pair_cells (short_cell k marks) t ≡ pair_cells (exact_cell RPrecision marks) t
short_pairs k marks t e short = agree_on_pairs (λ x y. short_cell k marks (ranking_on t x) (ranking_on t y)) (λ x y. exact_cell RPrecision marks (ranking_on t x) (ranking_on t y)) 0 (runs_on t) each
  where
    each : (x y : ℕ) → x < 0 + runs_on t → y < 0 + runs_on t → short_cell k marks (ranking_on t x) (ranking_on t y) ≡ exact_cell RPrecision marks (ranking_on t x) (ranking_on t y)
    each x y lx ly =
        short_here k marks (ranking_on t x) (ranking_on t y) e
        ∙ ap (λ (docs : List ℕ). exact_cell RPrecision marks docs (take k (ranking_on t y))) (take_all k (ranking_on t x) (short.each x (omega (arith, lx))))
        ∙ ap (exact_cell RPrecision marks (ranking_on t x)) (take_all k (ranking_on t y) (short.each y (omega (arith, ly))))
