-- The sums over all topics of a measure's cells and bounds, for each pair of runs and each run.
use Rattle.std.specs.Prelude.{ℕ, List, map, neg_ℤ, ◌+ℤ◌}
use Rattle.desk_model.specs.Extremes.{Ends}
use Rattle.desk_model.specs.Order.{Topic}
use Rattle.desk_model.specs.Pairs.{pairs_of}
use Rattle.desk_model.specs.Verdict.{whole_sum, totals_of}
use Rattle.desk_model.specs.declared.types.Mark.{Mark}
use Rattle.desk_model.specs.declared.types.Totals.{Totals}
use Rattle.topic_counts.specs.declared.span.Span.{Span}
use Rattle.measure_core.specs.Made.{ends_of}
pub use Rattle.measure_core.specs.Pairs.{run_numbers}
use Rattle.measure_core.specs.declared.cell.Cell.{Cell}

-- the ends of the cell of two runs on each topic
abbrev pub cell_ends : (List Mark → List ℕ → List ℕ → Cell) → List Topic → ℕ → ℕ → List Ends
cell_ends cell topics a b = map (λ (topic : Topic). ends_of (cell topic.marks (topic.ranking a) (topic.ranking b))) topics

-- the sums of two runs: those of the four ends over all topics
unfoldable pub pair_sums : (List Mark → List ℕ → List ℕ → Cell) → List Topic → ℕ → ℕ → Totals
pair_sums cell topics a b = totals_of (cell_ends cell topics a b)

-- some sums with the ends of one more cell
abbrev pub added : Totals → Ends → Totals
added t e = record {
  least_lo = t.least_lo +ℤ e.least_lo;
  least_hi = t.least_hi +ℤ e.least_hi;
  most_lo = t.most_lo +ℤ e.most_lo;
  most_hi = t.most_hi +ℤ e.most_hi;
}

-- the sums of lower and of upper bounds
abbrev pub span_sum : List Span → Span
span_sum spans = record { lo = whole_sum (map (λ (s : Span). s.lo) spans); hi = whole_sum (map (λ (s : Span). s.hi) spans) }

-- the bounds of a run on each topic
abbrev pub run_spans : (List Mark → List ℕ → Span) → List Topic → ℕ → List Span
run_spans bounds topics run = map (λ (topic : Topic). bounds topic.marks (topic.ranking run)) topics

-- the sums of a run's bounds over all topics
unfoldable pub run_sums : (List Mark → List ℕ → Span) → List Topic → ℕ → Span
run_sums bounds topics run = span_sum (run_spans bounds topics run)

-- the sums of each pair of so many runs, in pair order
abbrev pub all_pair_sums : (List Mark → List ℕ → List ℕ → Cell) → List Topic → ℕ → List Totals
all_pair_sums cell topics runs = map (λ pair. pair_sums cell topics pair.0 pair.1) (pairs_of (run_numbers runs))

-- the sums of each run's bounds, in run order
abbrev pub all_run_sums : (List Mark → List ℕ → Span) → List Topic → ℕ → List Span
all_run_sums bounds topics runs = map (run_sums bounds topics) (run_numbers runs)

-- the sums of two swapped runs: least and greatest change places, and each end is negated
abbrev pub swapped_totals : Totals → Totals
swapped_totals t = record { least_lo = neg_ℤ t.most_hi; least_hi = neg_ℤ t.most_lo; most_lo = neg_ℤ t.least_hi; most_hi = neg_ℤ t.least_lo }
