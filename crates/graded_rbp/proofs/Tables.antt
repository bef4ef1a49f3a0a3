-- The table of a level, and what a table by grades answers.
use Rattle.std.proofs.Common.{◌≡◌, ℕ, ◌<◌, ◌≤◌, List, [], ◌∷◌, All, map, length, inl, inr, refl, ap, sym, subst, ◌∙◌, arith}
use Rattle.std.specs.Prelude.{slice_get, Some}
use Rattle.std.specs.List.{AllByRecursion}
use Rattle.std.proofs.lemmas.List.{length-map}
use Rattle.std.proofs.lemmas.List.Elements.{All-from_recursion}
use Rattle.std.proofs.lemmas.List.FromFn.{length-map-range_with_len, get_or-map-range_with_len}
use Rattle.std.proofs.lemmas.Option.{slice_get_within}
use Rattle.desk_model.specs.Desk.{Desk, IsDesk, topics_under}
use Rattle.desk_model.specs.MeasureText.{IsPersistence}
use Rattle.desk_model.specs.Order.{Topic}
use Rattle.desk_model.specs.Pairs.{pairs_of}
use Rattle.desk_model.specs.Verdict.{totals_of}
use Rattle.desk_model.specs.declared.types.Mark.{Mark}
use Rattle.desk_model.specs.declared.types.MeasureName.{MeasureName}
use Rattle.desk_model.specs.declared.types.MeasureName.TheVariants.{Precision, Recall, RPrecision, Reciprocal, Biased, AveragePrecision}
use Rattle.desk_model.specs.declared.types.Totals.{Totals}
use Rattle.desk_model.proofs.Nested.{get_or-there}
use Rattle.topic_counts.specs.Ends.{IsShort}
use Rattle.topic_counts.specs.declared.span.Span.{Span}
use Rattle.measure_core.specs.Made.{AreNumbersOfName}
use Rattle.measure_core.specs.declared.cell.Cell.{Cell}
use Rattle.pair_table.specs.Kept.{AreModestTotals, AreSumsOf}
use Rattle.pair_table.specs.Sums.{run_numbers, pair_sums, run_sums, span_sum, all_pair_sums, all_run_sums, swapped_totals}
use Rattle.pair_table.proofs.DeskTopics.{topics_met, topics_met_one}
use Rattle.pair_table.proofs.Orders.{MetBy, MetOneBy}
use Rattle.pair_table.proofs.Swapped.{swapped_twice}
use Rattle.pair_table.proofs.Zips.{all_then, all_in_range, made_beside, IsPairBelow, pairs_below}
use Rattle.graded_rbp.specs.Grades.{GradedTopic, graded_topics}
use Rattle.graded_rbp.specs.Kept.{KeptByGrades, StandsByGrades, all_graded_totals, all_graded_bounds}
use Rattle.graded_rbp.specs.Numbers.{ends_on, bounds_on, level_totals, level_bounds, graded_totals, graded_bounds}
use Rattle.graded_rbp.specs.Score.{GradedMeasure, IsBiased, binary}
use Rattle.graded_rbp.proofs.Desks.{level_marks, level_of_desk, marks_of_level}
use Rattle.graded_rbp.proofs.Sizes.{totals_modest, bounds_short}
use Rattle.graded_rbp.proofs.Swapped.{graded_swapped}

map_all : {X Y : Type 0} (f g : X → Y) (xs : List X) → AllByRecursion (λ x. f x ≡ g x) xs → map f xs ≡ map g xs
map_all f g [] h = refl
map_all f g (x ∷ xs) h = ap (λ y. y ∷ map f xs) h.0 ∙ ap (λ ys. g x ∷ ys) (map_all f g xs h.1)

-- a rank-biased precision is that of a graded measure, whatever its greatest number
pub biased_by : (name : MeasureName) → IsBiased name → (m : GradedMeasure) × (name ≡ binary m)
biased_by (Precision k) h = absurd h
biased_by (Recall k) h = absurd h
biased_by RPrecision h = absurd h
biased_by Reciprocal h = absurd h
biased_by (Biased top bottom) h = (record { top = top; bottom = bottom; greatest = 0 }, refl)
biased_by AveragePrecision h = absurd h

-- ---- the table of a level
module _ (m : GradedMeasure) (cell : List Mark → List ℕ → List ℕ → Cell) (bounds : List Mark → List ℕ → Span) (numbers : AreNumbersOfName (binary m) cell bounds) where
  pair_made : (topics : List Topic) (a b : ℕ) → AllByRecursion (MetBy a b) topics → pair_sums cell topics a b ≡ totals_of (map (ends_on m a b) topics)
  unfolding pair_sums
  pair_made topics a b met =
      ap totals_of (map_all _ (ends_on m a b) topics (all_then (MetBy a b) (λ (t : Topic). _ ≡ ends_on m a b t) (λ t q. numbers.cells t.marks (t.ranking a) (t.ranking b) q) topics met))

  run_made : (topics : List Topic) (run : ℕ) → AllByRecursion (MetOneBy run) topics → run_sums bounds topics run ≡ span_sum (map (bounds_on m run) topics)
  unfolding run_sums
  run_made topics run met =
      ap span_sum (map_all _ (bounds_on m run) topics (all_then (MetOneBy run) (λ (t : Topic). _ ≡ bounds_on m run t) (λ t q. numbers.ranges t.marks (t.ranking run) q) topics met))

  module _ (desk : Desk) (level : ℕ) (valid : IsDesk desk) where
    pub totals_at_level : all_pair_sums cell (topics_under desk (level_marks desk level)) (length desk.runs) ≡ map (λ (pair : ℕ × ℕ). level_totals m pair.0 pair.1 (graded_topics desk) level) (pairs_of (run_numbers (length desk.runs)))
    totals_at_level =
        let marks = level_marks desk level in
        let n = length desk.runs in
        let known = marks_of_level desk level valid in
        let f = λ (pair : ℕ × ℕ). pair_sums cell (topics_under desk marks) pair.0 pair.1 in
        let g = λ (pair : ℕ × ℕ). level_totals m pair.0 pair.1 (graded_topics desk) level in
        map_all f g (pairs_of (run_numbers n))
        (all_then (IsPairBelow n) (λ (pair : ℕ × ℕ). f pair ≡ g pair)
        (λ pair p. pair_made (topics_under desk marks) pair.0 pair.1 (topics_met desk marks valid known pair.0 pair.1 (omega (arith, p.order, p.below)) p.below)
        ∙ ap (λ ts. totals_of (map (ends_on m pair.0 pair.1) ts)) (sym (level_of_desk desk level))) (pairs_of (run_numbers n)) (pairs_below n))

    pub bounds_at_level : all_run_sums bounds (topics_under desk (level_marks desk level)) (length desk.runs) ≡ map (λ run. level_bounds m run (graded_topics desk) level) (run_numbers (length desk.runs))
    bounds_at_level =
        let marks = level_marks desk level in
        let n = length desk.runs in
        let known = marks_of_level desk level valid in
        let f = run_sums bounds (topics_under desk marks) in
        let g = λ (run : ℕ). level_bounds m run (graded_topics desk) level in
        map_all f g (run_numbers n)
        (all_in_range (λ run. f run ≡ g run) 0 n
        (λ run _ lt. run_made (topics_under desk marks) run (topics_met_one desk marks valid known run (omega (arith, lt)))
        ∙ ap (λ ts. span_sum (map (bounds_on m run) ts)) (sym (level_of_desk desk level))))

-- ---- how many sums and bounds there are, and their sizes
pub length-all_totals : (m : GradedMeasure) (desk : Desk) → length (all_graded_totals m desk) ≡ length (pairs_of (run_numbers (length desk.runs)))
length-all_totals m desk = length-map (pairs_of (run_numbers (length desk.runs))) (λ (pair : ℕ × ℕ). graded_totals m pair.0 pair.1 (graded_topics desk))

pub length-all_bounds : (m : GradedMeasure) (desk : Desk) → length (all_graded_bounds m desk) ≡ length desk.runs
length-all_bounds m desk = length-map-range_with_len (λ run. graded_bounds m run (graded_topics desk)) 0 (length desk.runs)

all_mapped : {A B : Type 0} (P : B → Type 0) (f : A → B) (xs : List A) → AllByRecursion (λ x. P (f x)) xs → AllByRecursion P (map f xs)
all_mapped P f [] h = tt
all_mapped P f (x ∷ xs) h = (h.0, all_mapped P f xs h.1)

module _ (m : GradedMeasure) (persistence : IsPersistence m.top m.bottom) (few : m.greatest ≤ 10) (desk : Desk) (valid : IsDesk desk) where
  pub all_totals_modest : All AreModestTotals (all_graded_totals m desk)
  all_totals_modest =
      let n = length desk.runs in
      let f = λ (pair : ℕ × ℕ). graded_totals m pair.0 pair.1 (graded_topics desk) in
      All-from_recursion AreModestTotals (map f (pairs_of (run_numbers n))) (all_mapped AreModestTotals f (pairs_of (run_numbers n))
      (all_then (IsPairBelow n) (λ pair. AreModestTotals (f pair)) (λ pair p. totals_modest m persistence few desk valid pair.0 pair.1 (omega (arith, p.order, p.below)) p.below) (pairs_of (run_numbers n)) (pairs_below n)))

  pub all_bounds_short : All IsShort (all_graded_bounds m desk)
  all_bounds_short =
      let n = length desk.runs in
      let f = λ (run : ℕ). graded_bounds m run (graded_topics desk) in
      All-from_recursion IsShort (map f (run_numbers n)) (all_mapped IsShort f (run_numbers n) (all_in_range (λ run. IsShort (f run)) 0 n (λ run _ lt. bounds_short m persistence few desk valid run (omega (arith, lt)))))

-- ---- what a table answers
answered : (m : GradedMeasure) (n i j : ℕ) (topics : List GradedTopic) (sums : Totals) →
    AreSumsOf n (map (λ (pair : ℕ × ℕ). graded_totals m pair.0 pair.1 topics) (pairs_of (run_numbers n))) i j sums → sums ≡ graded_totals m i j topics
answered m n i j topics sums h =
    let f = λ (pair : ℕ × ℕ). graded_totals m pair.0 pair.1 topics in
    elim h [
      | inl straight ↦ (made_beside (IsPairBelow n) f (pairs_of (run_numbers n)) (i, j) sums (pairs_below n) straight).0
      | inr other ↦
          let found = made_beside (IsPairBelow n) f (pairs_of (run_numbers n)) (j, i) (swapped_totals sums) (pairs_below n) other in
          sym (swapped_twice sums) ∙ ap swapped_totals found.0 ∙ sym (graded_swapped m j i topics)
    ]

pub table_answers : (m : GradedMeasure) (desk : Desk) (table : KeptByGrades) (i j : ℕ) (sums : Totals) → StandsByGrades m desk table → AreSumsOf table.runs table.totals i j sums → sums ≡ graded_totals m i j (graded_topics desk)
table_answers m desk table i j sums stands h =
    answered m (length desk.runs) i j (graded_topics desk) sums
    (subst (λ (n : ℕ). AreSumsOf n (all_graded_totals m desk) i j sums) stands.runs (subst (λ (ts : List Totals). AreSumsOf table.runs ts i j sums) stands.totals h))

pub bounds_answered : (m : GradedMeasure) (desk : Desk) (table : KeptByGrades) (i : ℕ) (s : Span) → StandsByGrades m desk table → slice_get table.bounds i ≡ Some s → s ≡ graded_bounds m i (graded_topics desk)
bounds_answered m desk table i s stands there =
    let n = length desk.runs in
    let f = λ (run : ℕ). graded_bounds m run (graded_topics desk) in
    let place : slice_get (map f (run_numbers n)) i ≡ Some s = subst (λ (xs : List Span). slice_get xs i ≡ Some s) stands.bounds there in
    let within : i < n = subst (λ (k : ℕ). i < k) (length-map-range_with_len f 0 n) (slice_get_within (map f (run_numbers n)) i s place) in
    sym (get_or-there (map f (run_numbers n)) i s s place) ∙ get_or-map-range_with_len f 0 n i i s within (omega arith)
