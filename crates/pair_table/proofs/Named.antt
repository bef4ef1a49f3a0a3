-- The numbers of a name: a made measure has them, and they are determined.
use Rattle.std.proofs.Common.{◌≡◌, ℕ, ◌^◌, List, length, refl, ap, sym, ◌∙◌, arith}
use Rattle.std.specs.List.{AllByRecursion}
use Rattle.small_lemmas.proofs.Numbers.{both_ways}
use Rattle.desk_model.specs.Desk.{Desk, IsDesk, AreMarksOf, topics_under}
use Rattle.desk_model.specs.Extremes.{Ends, AreBounds}
use Rattle.desk_model.specs.Order.{Topic}
use Rattle.desk_model.specs.Pairs.{pairs_of}
use Rattle.desk_model.specs.Verdict.{totals_of}
use Rattle.desk_model.specs.declared.types.Mark.{Mark}
use Rattle.desk_model.specs.declared.types.MeasureName.{MeasureName}
use Rattle.desk_model.specs.declared.types.MeasureName.TheVariants.{Precision, Recall, RPrecision, Reciprocal, Biased, AveragePrecision}
use Rattle.desk_model.specs.declared.types.Totals.{Totals}
use Rattle.measure_laws.proofs.Unique.{named_ends_unique}
use Rattle.topic_counts.specs.declared.span.Span.{Span}
use Rattle.topic_counts.proofs.Spans.{span_same}
use Rattle.measure_core.specs.Laws.{IsMet}
use Rattle.measure_core.specs.Made.{ends_of, HasEnds, HasBounds, AreNumbersOfName}
use Rattle.measure_core.specs.declared.cell.Cell.{Cell}
use Rattle.pair_table.specs.Sums.{run_numbers, cell_ends, pair_sums, run_spans, run_sums, span_sum, all_pair_sums, all_run_sums}
use Rattle.pair_table.specs.Numbers.{AreEndsOf, ArePairNumbers, AreRunNumbers, AreNumbersIn}
use Rattle.pair_table.proofs.DeskTopics.{topics_met, topics_met_one}
use Rattle.pair_table.proofs.Zips.{zip_made, zip_making, zip_unique, zip_unique_first, all_then, all_in_range, IsPairBelow, pairs_below}
use Rattle.pair_table.proofs.Orders.{MetBy}

-- ---- a table of a measure with a name's numbers
module _ (name : MeasureName) (cell : List Mark → List ℕ → List ℕ → Cell) (bounds : List Mark → List ℕ → Span) (numbers : AreNumbersOfName name cell bounds) where
  pub pair_named : (topics : List Topic) (a b : ℕ) → AllByRecursion (MetBy a b) topics → ArePairNumbers name topics a b (pair_sums cell topics a b)
  unfolding pair_sums
  pair_named topics a b met = record {
    ends = cell_ends cell topics a b;
    named = zip_made (λ (e : Ends) (topic : Topic). HasEnds name topic.marks (topic.ranking a) (topic.ranking b) e) (λ (topic : Topic). ends_of (cell topic.marks (topic.ranking a) (topic.ranking b))) topics
        (all_then (MetBy a b) (λ (topic : Topic). HasEnds name topic.marks (topic.ranking a) (topic.ranking b) (ends_of (cell topic.marks (topic.ranking a) (topic.ranking b))))
        (λ topic m. numbers.cells topic.marks (topic.ranking a) (topic.ranking b) m) topics met);
    summed = refl;
  }

  run_named : (topics : List Topic) (run : ℕ) → AllByRecursion (λ (topic : Topic). IsMet topic.marks (topic.ranking run)) topics → AreRunNumbers name topics run (run_sums bounds topics run)
  unfolding run_sums
  run_named topics run met = record {
    spans = run_spans bounds topics run;
    named = zip_made (λ (s : Span) (topic : Topic). HasBounds name topic.marks (topic.ranking run) s) (λ (topic : Topic). bounds topic.marks (topic.ranking run)) topics
        (all_then (λ (topic : Topic). IsMet topic.marks (topic.ranking run)) (λ (topic : Topic). HasBounds name topic.marks (topic.ranking run) (bounds topic.marks (topic.ranking run)))
        (λ topic m. numbers.ranges topic.marks (topic.ranking run) m) topics met);
    summed = refl;
  }

pub table_named : (name : MeasureName) (cell : List Mark → List ℕ → List ℕ → Cell) (bounds : List Mark → List ℕ → Span) (desk : Desk) (marks : List (List Mark)) → AreNumbersOfName name cell bounds → IsDesk desk → AreMarksOf desk marks →
    AreNumbersIn name desk marks (all_run_sums bounds (topics_under desk marks) (length desk.runs)) (all_pair_sums cell (topics_under desk marks) (length desk.runs))
table_named name cell bounds desk marks numbers valid known =
    let topics = topics_under desk marks in
    let n = length desk.runs in
    record {
      runs = zip_making (λ (run : ℕ) (s : Span). AreRunNumbers name topics run s) (run_sums bounds topics) (run_numbers n)
          (all_in_range (λ run. AreRunNumbers name topics run (run_sums bounds topics run)) 0 n (λ run _ lt. run_named name cell bounds numbers topics run (topics_met_one desk marks valid known run (omega (arith, lt)))));
      pairs = zip_making (λ (pair : ℕ × ℕ) (t : Totals). ArePairNumbers name topics pair.0 pair.1 t) (λ (pair : ℕ × ℕ). pair_sums cell topics pair.0 pair.1) (pairs_of (run_numbers n))
          (all_then (IsPairBelow n) (λ (pair : ℕ × ℕ). ArePairNumbers name topics pair.0 pair.1 (pair_sums cell topics pair.0 pair.1))
          (λ pair p. pair_named name cell bounds numbers topics pair.0 pair.1 (topics_met desk marks valid known pair.0 pair.1 (omega (arith, p.order, p.below)) p.below)) (pairs_of (run_numbers n)) (pairs_below n));
    }

-- ---- numbers of a name are determined
exact_bounds_unique : (m : MeasureName) (u : ℕ) (marks : List Mark) (a : List ℕ) (s r : Span) → AreBounds m u marks a s.lo s.hi → AreBounds m u marks a r.lo r.hi → s ≡ r
exact_bounds_unique m u marks a s r h g =
    span_same s.lo r.lo s.hi r.hi (both_ways s.lo r.lo (g.low.others s.lo h.low.so) (h.low.others r.lo g.low.so)) (both_ways s.hi r.hi (h.high.others r.hi g.high.so) (g.high.others s.hi h.high.so))

bounds_unique : (name : MeasureName) (marks : List Mark) (a : List ℕ) (s r : Span) → HasBounds name marks a s → HasBounds name marks a r → s ≡ r
bounds_unique (Precision k) marks a s r h g = exact_bounds_unique (Precision k) k marks a s r h g
bounds_unique (Recall k) marks a s r h g = exact_bounds_unique (Recall k) (10 ^ 18) marks a s r h g
bounds_unique RPrecision marks a s r h g = exact_bounds_unique RPrecision (10 ^ 18) marks a s r h g
bounds_unique Reciprocal marks a s r h g = exact_bounds_unique Reciprocal (10 ^ 18) marks a s r h g
bounds_unique (Biased top bottom) marks a s r h g = h ∙ sym g
bounds_unique AveragePrecision marks a s r h g = h ∙ sym g

pub ends_one : (name : MeasureName) (topics : List Topic) (a b : ℕ) (ends others : List Ends) → AreEndsOf name topics a b ends → AreEndsOf name topics a b others → ends ≡ others
ends_one name topics a b ends others h g =
    zip_unique_first (λ (e : Ends) (topic : Topic). HasEnds name topic.marks (topic.ranking a) (topic.ranking b) e) (λ e f topic x y. named_ends_unique name topic.marks (topic.ranking a) (topic.ranking b) e f x y) ends others topics h g

pub pair_unique : (name : MeasureName) (topics : List Topic) (a b : ℕ) (t u : Totals) → ArePairNumbers name topics a b t → ArePairNumbers name topics a b u → t ≡ u
pair_unique name topics a b t u h g = h.summed ∙ ap totals_of (ends_one name topics a b h.ends g.ends h.named g.named) ∙ sym g.summed

run_unique : (name : MeasureName) (topics : List Topic) (run : ℕ) (s r : Span) → AreRunNumbers name topics run s → AreRunNumbers name topics run r → s ≡ r
run_unique name topics run s r h g =
    h.summed ∙ ap span_sum (zip_unique_first (λ (x : Span) (topic : Topic). HasBounds name topic.marks (topic.ranking run) x)
    (λ x y topic p q. bounds_unique name topic.marks (topic.ranking run) x y p q) h.spans g.spans topics h.named g.named) ∙ sym g.summed

pub table_determined : (name : MeasureName) (desk : Desk) (marks : List (List Mark)) (b c : List Span) (t u : List Totals) → AreNumbersIn name desk marks b t → AreNumbersIn name desk marks c u → (b ≡ c) × (t ≡ u)
table_determined name desk marks b c t u h g =
    let topics = topics_under desk marks in
    let n = length desk.runs in (
      zip_unique (λ (run : ℕ) (s : Span). AreRunNumbers name topics run s) (λ run s r. run_unique name topics run s r) (run_numbers n) b c h.runs g.runs,
      zip_unique (λ (pair : ℕ × ℕ) (s : Totals). ArePairNumbers name topics pair.0 pair.1 s) (λ pair s r. pair_unique name topics pair.0 pair.1 s r) (pairs_of (run_numbers n)) t u h.pairs g.pairs,
    )
