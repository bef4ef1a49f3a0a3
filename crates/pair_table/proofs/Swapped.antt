-- The sums of two runs in the other order.
use Rattle.std.proofs.Common.{◌≡◌, ℕ, List, [], ◌∷◌, map, length, ℤ, neg_ℤ, ◌+ℤ◌, inl, inr, refl, ap, sym, ◌∙◌, arith}
use Rattle.std.specs.List.{AllByRecursion, AllZip}
use Rattle.std.proofs.lemmas.Int.{ints}
use Rattle.small_lemmas.proofs.Numbers.{neg_twice}
use Rattle.desk_model.specs.Desk.{Desk, IsDesk, AreMarksOf, topics_under}
use Rattle.desk_model.specs.Extremes.{Ends}
use Rattle.desk_model.specs.Order.{Topic}
use Rattle.desk_model.specs.Pairs.{pairs_of}
use Rattle.desk_model.specs.Verdict.{whole_sum}
use Rattle.desk_model.specs.declared.types.Mark.{Mark}
use Rattle.desk_model.specs.declared.types.MeasureName.{MeasureName}
use Rattle.desk_model.specs.declared.types.Totals.{Totals}
use Rattle.topic_counts.specs.declared.span.Span.{Span}
use Rattle.measure_core.specs.Laws.{MeetsLaws, swapped_cell}
use Rattle.measure_core.specs.Made.{ends_of}
use Rattle.measure_core.specs.declared.cell.Cell.{Cell}
use Rattle.pair_table.specs.Sums.{run_numbers, cell_ends, pair_sums, all_pair_sums, swapped_totals}
use Rattle.pair_table.specs.Kept.{AreSumsOf, IsCellOf, numbers_on}
use Rattle.pair_table.proofs.DeskTopics.{topics_met}
use Rattle.pair_table.proofs.Orders.{MetBy}
use Rattle.measure_core.proofs.Cells.{ends_same}
use Rattle.pair_table.proofs.Adding.{totals_same}
use Rattle.pair_table.proofs.Zips.{all_then, made_beside, IsPairBelow, pairs_below}

neg_adds : (z w v u : ℤ) → z ≡ neg_ℤ w → v ≡ neg_ℤ u → z +ℤ v ≡ neg_ℤ (w +ℤ u)
neg_adds z w v u h k = omega (arith, ints, h, k)

pub swapped_twice : (t : Totals) → swapped_totals (swapped_totals t) ≡ t
swapped_twice t = totals_same _ _ _ _ t.least_lo t.least_hi t.most_lo t.most_hi (neg_twice t.least_lo) (neg_twice t.least_hi) (neg_twice t.most_lo) (neg_twice t.most_hi)

pub cell_swapped_twice : (c : Cell) → swapped_cell (swapped_cell c) ≡ c
cell_swapped_twice c = ends_same _ _ _ _ c (neg_twice c.least.lo) (neg_twice c.least.hi) (neg_twice c.most.lo) (neg_twice c.most.hi)

-- the sum of one end of each topic is that of the other end, negated
sum_swapped : (f g : Ends → ℤ) (F G : Topic → Ends) (topics : List Topic) → AllByRecursion (λ (topic : Topic). f (F topic) ≡ neg_ℤ (g (G topic))) topics → whole_sum (map f (map F topics)) ≡ neg_ℤ (whole_sum (map g (map G topics)))
sum_swapped f g F G [] h = omega (arith, ints)
sum_swapped f g F G (t ∷ ts) h = neg_adds (f (F t)) (g (G t)) (whole_sum (map f (map F ts))) (whole_sum (map g (map G ts))) h.0 (sum_swapped f g F G ts h.1)

module _ (name : MeasureName) (cell : List Mark → List ℕ → List ℕ → Cell) (bounds : List Mark → List ℕ → Span) (laws : MeetsLaws name cell bounds) (topics : List Topic) (a b : ℕ) (met : AllByRecursion (MetBy a b) topics) where
  abbrev here : Topic → Cell
  here topic = cell topic.marks (topic.ranking a) (topic.ranking b)

  abbrev there : Topic → Cell
  there topic = cell topic.marks (topic.ranking b) (topic.ranking a)

  turn_end : (f g : Ends → ℤ) → ((c : Cell) → f (ends_of (swapped_cell c)) ≡ neg_ℤ (g (ends_of c))) → whole_sum (map f (cell_ends cell topics b a)) ≡ neg_ℤ (whole_sum (map g (cell_ends cell topics a b)))
  turn_end f g h =
      sum_swapped f g (λ topic. ends_of (there topic)) (λ topic. ends_of (here topic)) topics
      (all_then (MetBy a b) (λ (topic : Topic). f (ends_of (there topic)) ≡ neg_ℤ (g (ends_of (here topic))))
      (λ topic m. ap (λ (c : Cell). f (ends_of c)) (laws.swaps topic.marks (topic.ranking a) (topic.ranking b) m) ∙ h (here topic)) topics met)

  pub sums_swapped : pair_sums cell topics b a ≡ swapped_totals (pair_sums cell topics a b)
  unfolding pair_sums
  sums_swapped =
      totals_same _ _ _ _ _ _ _ _ (turn_end (λ (e : Ends). e.least_lo) (λ (e : Ends). e.most_hi) (λ c. refl)) (turn_end (λ (e : Ends). e.least_hi) (λ (e : Ends). e.most_lo) (λ c. refl))
      (turn_end (λ (e : Ends). e.most_lo) (λ (e : Ends). e.least_hi) (λ c. refl)) (turn_end (λ (e : Ends). e.most_hi) (λ (e : Ends). e.least_lo) (λ c. refl))

pub exact_in_both : (name : MeasureName) (cell : List Mark → List ℕ → List ℕ → Cell) (bounds : List Mark → List ℕ → Span) (desk : Desk) (marks : List (List Mark)) (i j : ℕ) (sums : Totals) →
    MeetsLaws name cell bounds → IsDesk desk → AreMarksOf desk marks →
    AreSumsOf (length desk.runs) (all_pair_sums cell (topics_under desk marks) (length desk.runs)) i j sums → sums ≡ pair_sums cell (topics_under desk marks) i j
exact_in_both name cell bounds desk marks i j sums laws valid known h =
    let topics = topics_under desk marks in
    let n = length desk.runs in
    let f = λ (pair : ℕ × ℕ). pair_sums cell topics pair.0 pair.1 in
    elim h [
      | inl straight ↦ (made_beside (IsPairBelow n) f (pairs_of (run_numbers n)) (i, j) sums (pairs_below n) straight).0
      | inr other ↦
          let found = made_beside (IsPairBelow n) f (pairs_of (run_numbers n)) (j, i) (swapped_totals sums) (pairs_below n) other in
          sym (swapped_twice sums) ∙ ap swapped_totals found.0
          ∙ sym (sums_swapped name cell bounds laws topics j i (topics_met desk marks valid known j i (omega (arith, found.1.order, found.1.below)) found.1.below))
    ]

-- ---- the cells of two runs in either order
module _ (name : MeasureName) (cell : List Mark → List ℕ → List ℕ → Cell) (bounds : List Mark → List ℕ → Span) (laws : MeetsLaws name cell bounds) (runs i j : ℕ) where
  cell_stands : (topic : Topic) (c : Cell) → MetBy j i topic → IsCellOf runs i j c (numbers_on cell bounds runs topic) → c ≡ cell topic.marks (topic.ranking i) (topic.ranking j)
  cell_stands topic c met h =
      let f = λ (pair : ℕ × ℕ). cell topic.marks (topic.ranking pair.0) (topic.ranking pair.1) in
      elim h [
        | inl straight ↦ (made_beside (IsPairBelow runs) f (pairs_of (run_numbers runs)) (i, j) c (pairs_below runs) straight).0
        | inr other ↦
            let found = made_beside (IsPairBelow runs) f (pairs_of (run_numbers runs)) (j, i) (swapped_cell c) (pairs_below runs) other in
            sym (cell_swapped_twice c) ∙ ap swapped_cell found.0 ∙ sym (laws.swaps topic.marks (topic.ranking j) (topic.ranking i) met)
      ]

  pub cells_stand : (cells : List Cell) (topics : List Topic) → AllByRecursion (MetBy j i) topics → AllZip (IsCellOf runs i j) cells (map (numbers_on cell bounds runs) topics) → map ends_of cells ≡ cell_ends cell topics i j
  cells_stand [] [] met h = refl
  cells_stand [] (t ∷ ts) met h = absurd h
  cells_stand (c ∷ cs) [] met h = absurd h
  cells_stand (c ∷ cs) (t ∷ ts) met h = ap (λ x. ends_of x ∷ map ends_of cs) (cell_stands t c met.0 h.0) ∙ ap (λ l. ends_of (cell t.marks (t.ranking i) (t.ranking j)) ∷ l) (cells_stand cs ts met.1 h.1)
