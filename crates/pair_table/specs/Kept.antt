-- What a table keeps.
use Rattle.std.specs.Prelude.{◌≡◌, ◌≢◌, ℕ, ◌+◌, ◌*◌, ◌≤◌, List, [], ◌∷◌, All, length, map, slice_get, slice_index_or, ◌⊎◌, ℤ, pos, neg_ℤ, ◌+ℤ◌, ◌-ℤ◌, ◌≤ℤ◌}
use Rattle.std.specs.List.{Contains, zip}
use Rattle.desk_model.specs.Desk.{Desk, ranking_of, topics_under}
use Rattle.desk_model.specs.Limits.{PARTS_OF_ONE, RUN_LIMIT, TOPIC_LIMIT}
use Rattle.desk_model.specs.Pairs.{pairs_of}
use Rattle.desk_model.specs.Verdict.{totals_of, verdict}
use Rattle.desk_model.specs.Order.{Topic}
use Rattle.desk_model.specs.declared.types.Mark.{Mark}
use Rattle.desk_model.specs.declared.types.Totals.{Totals}
use Rattle.desk_model.specs.declared.types.Verdict.{Verdict}
use Rattle.topic_counts.specs.Ends.{IsNear, IsShort}
use Rattle.topic_counts.specs.declared.span.Span.{Span}
use Rattle.measure_core.specs.Laws.{CellIsModest, SpanIsModest, swapped_cell}
use Rattle.measure_core.specs.Made.{ends_of}
use Rattle.measure_core.specs.declared.cell.Cell.{Cell}
use Rattle.pair_table.specs.Sums.{added, all_pair_sums, all_run_sums, run_numbers, swapped_totals}

-- ---- the numbers of a topic
-- the cell of each pair of runs, in pair order, and the bounds of each run
pub record TopicNumbers : Type 0 where
  pub cells : List Cell
  pub bounds : List Span

-- those of a measure with these cells and bounds
abbrev pub numbers_on : (List Mark → List ℕ → List ℕ → Cell) → (List Mark → List ℕ → Span) → ℕ → Topic → TopicNumbers
numbers_on cell bounds runs topic = record {
  cells = map (λ (pair : ℕ × ℕ). cell topic.marks (topic.ranking pair.0) (topic.ranking pair.1)) (pairs_of (run_numbers runs));
  bounds = map (λ run. bounds topic.marks (topic.ranking run)) (run_numbers runs);
}

-- a topic of a desk under marks, by its number
abbrev pub topic_at : Desk → List (List Mark) → ℕ → Topic
topic_at desk marks t = record { marks = slice_index_or marks t []; ranking = λ run. ranking_of desk run t }

-- those of each topic of a desk under marks
abbrev pub all_numbers : (List Mark → List ℕ → List ℕ → Cell) → (List Mark → List ℕ → Span) → Desk → List (List Mark) → List TopicNumbers
all_numbers cell bounds desk marks = map (numbers_on cell bounds (length desk.runs)) (topics_under desk marks)

-- a cell for each pair of so many runs, and bounds for each run, all of them from -2*10^18 to 2*10^18
pub record AreTopicNumbers (runs : ℕ) (t : TopicNumbers) : Type 0 where
  pub each_pair : length t.cells ≡ length (pairs_of (run_numbers runs))
  pub each_run : length t.bounds ≡ runs
  pub cells : All CellIsModest t.cells
  pub bounds : All SpanIsModest t.bounds

-- the cell of two runs in either order: that beside their pair, or the same swapped where the second run comes first
abbrev pub IsCellOf : ℕ → ℕ → ℕ → Cell → TopicNumbers → Type 0
IsCellOf runs i j cell t =
    Contains (zip (pairs_of (run_numbers runs)) t.cells) ((i, j), cell) ⊎ Contains (zip (pairs_of (run_numbers runs)) t.cells) ((j, i), swapped_cell cell)

-- ---- their sums over topics
-- each sum with the number at its place
abbrev pub each_with : {T C : Type 0} → (T → C → T) → List T → List C → List T
each_with {T = T} {C = C} change sums numbers = map (λ (p : T × C). change p.0 p.1) (zip sums numbers)

-- the sums of some lists of numbers, place by place
abbrev pub sums_by : {T C : Type 0} → (T → C → T) → List T → List (List C) → List T
sums_by add none [] = none
sums_by add none (numbers ∷ more) = each_with add (sums_by add none more) numbers

-- some sums with a cell, and without it
abbrev pub with_cell : Totals → Cell → Totals
with_cell t c = added t (ends_of c)

abbrev pub without_cell : Totals → Cell → Totals
without_cell t c = record {
  least_lo = t.least_lo -ℤ c.least.lo;
  least_hi = t.least_hi -ℤ c.least.hi;
  most_lo = t.most_lo -ℤ c.most.lo;
  most_hi = t.most_hi -ℤ c.most.hi;
}

-- the sums of a run's bounds with those of a topic, and without them
abbrev pub with_span : Span → Span → Span
with_span s t = record { lo = s.lo +ℤ t.lo; hi = s.hi +ℤ t.hi }

abbrev pub without_span : Span → Span → Span
without_span s t = record { lo = s.lo -ℤ t.lo; hi = s.hi -ℤ t.hi }

-- no sums, for each pair and for each run
abbrev pub no_totals : ℕ → List Totals
no_totals runs = map (λ (_ : ℕ × ℕ). totals_of []) (pairs_of (run_numbers runs))

abbrev pub no_bounds : ℕ → List Span
no_bounds runs = map (λ _. record { lo = pos 0; hi = pos 0 }) (run_numbers runs)

-- the sums of each pair's cells over topics
abbrev pub kept_totals : ℕ → List TopicNumbers → List Totals
kept_totals runs topics = sums_by with_cell (no_totals runs) (map (λ (t : TopicNumbers). t.cells) topics)

-- the sums of each run's bounds over topics
abbrev pub kept_bounds : ℕ → List TopicNumbers → List Span
kept_bounds runs topics = sums_by with_span (no_bounds runs) (map (λ (t : TopicNumbers). t.bounds) topics)

-- the sums of each pair's cells, in pair order, and of each run's bounds
pub record AllSums : Type 0 where
  pub totals : List Totals
  pub bounds : List Span

-- no sums, for each pair and for each run
abbrev pub no_sums : ℕ → AllSums
no_sums runs = record { totals = no_totals runs; bounds = no_bounds runs }

-- the sums of each pair's cells and of each run's bounds over topics
abbrev pub kept_sums : ℕ → List TopicNumbers → AllSums
kept_sums runs topics = record { totals = kept_totals runs topics; bounds = kept_bounds runs topics }

-- some sums with the numbers of a topic, and without them
abbrev pub sums_with : AllSums → TopicNumbers → AllSums
sums_with s t = record { totals = each_with with_cell s.totals t.cells; bounds = each_with with_span s.bounds t.bounds }

abbrev pub sums_without : AllSums → TopicNumbers → AllSums
sums_without s t = record { totals = each_with without_cell s.totals t.cells; bounds = each_with without_span s.bounds t.bounds }

-- ---- a table
-- a measure, how many runs there are, the sums of each pair in pair order, and the sums of each run's bounds
pub record HeldSums (M : Type 0) : Type 0 where
  pub measure : M
  pub runs : ℕ
  pub totals : List Totals
  pub bounds : List Span

-- sums stand for a desk under marks: they are of the desk's runs, and those of a measure with these cells and bounds over the topics
pub record SumsStandFor {M : Type 0} (cell : List Mark → List ℕ → List ℕ → Cell) (bound : List Mark → List ℕ → Span) (desk : Desk) (marks : List (List Mark)) (sums : HeldSums M) : Type 0 where
  pub runs : sums.runs ≡ length desk.runs
  pub totals : sums.totals ≡ all_pair_sums cell (topics_under desk marks) (length desk.runs)
  pub bounds : sums.bounds ≡ all_run_sums bound (topics_under desk marks) (length desk.runs)

-- a measure, how many runs there are, the numbers of each topic, the sums of each pair in pair order, and the sums of each run's bounds
pub record Kept (M : Type 0) : Type 0 where
  pub measure : M
  pub runs : ℕ
  pub topics : List TopicNumbers
  pub totals : List Totals
  pub bounds : List Span

-- the sums of a table
abbrev pub table_sums : {M : Type 0} → Kept M → HeldSums M
table_sums table = record { measure = table.measure; runs = table.runs; totals = table.totals; bounds = table.bounds }

-- a table stands for a desk under marks: its sums do, and it has the numbers of the measure on each topic
pub record StandsFor {M : Type 0} (cell : List Mark → List ℕ → List ℕ → Cell) (bound : List Mark → List ℕ → Span) (desk : Desk) (marks : List (List Mark)) (table : Kept M) : Type 0 where
  pub sums : SumsStandFor cell bound desk marks (table_sums table)
  pub topics : table.topics ≡ all_numbers cell bound desk marks

-- a table is of a desk, and has the numbers under marks on each topic but one
pub record StandsElsewhere {M : Type 0} (cell : List Mark → List ℕ → List ℕ → Cell) (bound : List Mark → List ℕ → Span) (desk : Desk) (marks : List (List Mark)) (topic : ℕ) (table : Kept M) : Type 0 where
  pub runs : table.runs ≡ length desk.runs
  pub count : length table.topics ≡ length desk.topics
  pub others : (t : ℕ) → t ≢ topic → slice_get table.topics t ≡ slice_get (all_numbers cell bound desk marks) t

-- the sums of two runs in either order: those beside their pair, or the same swapped_totals where the second run comes first
abbrev pub AreSumsOf : ℕ → List Totals → ℕ → ℕ → Totals → Type 0
AreSumsOf runs totals i j sums =
    Contains (zip (pairs_of (run_numbers runs)) totals) ((i, j), sums) ⊎ Contains (zip (pairs_of (run_numbers runs)) totals) ((j, i), swapped_totals sums)

-- all four sums are from -10^30 to 10^30
abbrev pub AreModestTotals : Totals → Type 0
AreModestTotals t = IsNear t.least_lo × IsNear t.least_hi × IsNear t.most_lo × IsNear t.most_hi

-- within so many times 2*10^18 of 0
abbrev pub IsAtMostInSize : ℕ → ℤ → Type 0
IsAtMostInSize n z = (neg_ℤ (pos (n * (2 * PARTS_OF_ONE))) ≤ℤ z) × (z ≤ℤ pos (n * (2 * PARTS_OF_ONE)))

-- all four sums are within so many times 2*10^18 of 0
abbrev pub AreWithin : ℕ → Totals → Type 0
AreWithin n t = IsAtMostInSize n t.least_lo × IsAtMostInSize n t.least_hi × IsAtMostInSize n t.most_lo × IsAtMostInSize n t.most_hi

-- so are both ends of a span
abbrev pub SpanIsWithin : ℕ → Span → Type 0
SpanIsWithin n s = IsAtMostInSize n s.lo × IsAtMostInSize n s.hi

-- the sums of as many topics as a desk may have, and one more
abbrev pub TotalsCanGrow : List Totals → Type 0
TotalsCanGrow totals = All (AreWithin (TOPIC_LIMIT + 1)) totals

abbrev pub BoundsCanGrow : List Span → Type 0
BoundsCanGrow bounds = All (SpanIsWithin (TOPIC_LIMIT + 1)) bounds

-- all sums are those of as many topics as a desk may have, and one more
abbrev pub SumsCanGrow : AllSums → Type 0
SumsCanGrow s = TotalsCanGrow s.totals × BoundsCanGrow s.bounds

-- sums for each pair of so many runs and for each run, all of them from -10^30 to 10^30
pub record AreSumsFor (runs : ℕ) (s : AllSums) : Type 0 where
  pub few : runs ≤ RUN_LIMIT
  pub each_pair : length s.totals ≡ length (pairs_of (run_numbers runs))
  pub each_run : length s.bounds ≡ runs
  pub near_sums : All AreModestTotals s.totals
  pub near_bounds : All IsShort s.bounds

-- such sums, and the verdict of each pair's
pub record AreHeldSums (runs : ℕ) (s : AllSums) (verdicts : List Verdict) : Type 0 where
  pub sums : AreSumsFor runs s
  pub each_verdict : verdicts ≡ map verdict s.totals

-- numbers for each topic, and their sums for each pair and run
pub record IsKeptTable {M : Type 0} (topics : List TopicNumbers) (sums : HeldSums M) : Type 0 where
  pub few_topics : length topics ≤ TOPIC_LIMIT
  pub numbers : All (AreTopicNumbers sums.runs) topics
  pub totals : sums.totals ≡ kept_totals sums.runs topics
  pub bounds : sums.bounds ≡ kept_bounds sums.runs topics
