-- What a table by grades keeps.
use Rattle.std.specs.Prelude.{◌≡◌, ℕ, ◌≤◌, List, All, length, map, ◌+ℤ◌}
use Rattle.desk_model.specs.Desk.{Desk}
use Rattle.desk_model.specs.Limits.{RUN_LIMIT}
use Rattle.desk_model.specs.Pairs.{pairs_of}
use Rattle.desk_model.specs.declared.types.Totals.{Totals}
use Rattle.pair_table.specs.Kept.{AreModestTotals}
use Rattle.pair_table.specs.Sums.{run_numbers}
use Rattle.topic_counts.specs.Ends.{IsShort}
use Rattle.topic_counts.specs.declared.span.Span.{Span}
use Rattle.graded_rbp.specs.Grades.{graded_topics}
use Rattle.graded_rbp.specs.Numbers.{graded_totals, graded_bounds}
use Rattle.graded_rbp.specs.Score.{GradedMeasure}

-- some sums with others
abbrev pub with_totals : Totals → Totals → Totals
with_totals t u = record {
  least_lo = t.least_lo +ℤ u.least_lo;
  least_hi = t.least_hi +ℤ u.least_hi;
  most_lo = t.most_lo +ℤ u.most_lo;
  most_hi = t.most_hi +ℤ u.most_hi;
}

-- how many runs there are, the sums of each pair in pair order, and the bounds of each run
pub record KeptByGrades : Type 0 where
  pub runs : ℕ
  pub totals : List Totals
  pub bounds : List Span

-- the sums of all pairs of a desk by grades, and the bounds of all its runs
abbrev pub all_graded_totals : GradedMeasure → Desk → List Totals
all_graded_totals m desk = map (λ (pair : ℕ × ℕ). graded_totals m pair.0 pair.1 (graded_topics desk)) (pairs_of (run_numbers (length desk.runs)))

abbrev pub all_graded_bounds : GradedMeasure → Desk → List Span
all_graded_bounds m desk = map (λ run. graded_bounds m run (graded_topics desk)) (run_numbers (length desk.runs))

-- a table has the numbers of a desk by grades
pub record StandsByGrades (m : GradedMeasure) (desk : Desk) (table : KeptByGrades) : Type 0 where
  pub runs : table.runs ≡ length desk.runs
  pub totals : table.totals ≡ all_graded_totals m desk
  pub bounds : table.bounds ≡ all_graded_bounds m desk

-- sums for each pair and bounds for each run, all of them from -10^30 to 10^30
pub record IsKeptByGrades (runs : ℕ) (totals : List Totals) (bounds : List Span) : Type 0 where
  pub few : runs ≤ RUN_LIMIT
  pub each_pair : length totals ≡ length (pairs_of (run_numbers runs))
  pub each_run : length bounds ≡ runs
  pub near_totals : All AreModestTotals totals
  pub near_bounds : All IsShort bounds
