-- The sums of a pair and the bounds of a run by grades: those of rank-biased precision at each level, added up over the levels.
use Rattle.std.specs.Prelude.{ℕ, List, map, pos}
use Rattle.desk_model.specs.Extremes.{Ends}
use Rattle.desk_model.specs.Order.{Topic}
use Rattle.desk_model.specs.Verdict.{totals_of, whole_sum}
use Rattle.desk_model.specs.declared.types.Totals.{Totals}
use Rattle.measure_laws.specs.Shares.{biased_ends, biased_bound_lo, biased_bound_hi}
use Rattle.pair_table.specs.Sums.{span_sum}
use Rattle.topic_counts.specs.declared.span.Span.{Span}
use Rattle.graded_rbp.specs.Grades.{GradedTopic}
use Rattle.graded_rbp.specs.Levels.{levels, level_topics}
use Rattle.graded_rbp.specs.Score.{GradedMeasure}

-- the ends of a pair and the bounds of a run on a topic under marks
abbrev pub ends_on : GradedMeasure → ℕ → ℕ → Topic → Ends
ends_on m a b topic = biased_ends m.top m.bottom topic.marks (topic.ranking a) (topic.ranking b)

abbrev pub bounds_on : GradedMeasure → ℕ → Topic → Span
bounds_on m run topic = record { lo = pos (biased_bound_lo m.top m.bottom topic.marks (topic.ranking run)); hi = pos (biased_bound_hi m.top m.bottom topic.marks (topic.ranking run)) }

-- their sums over the topics at a level
abbrev pub level_totals : GradedMeasure → ℕ → ℕ → List GradedTopic → ℕ → Totals
level_totals m a b topics level = totals_of (map (ends_on m a b) (level_topics level topics))

abbrev pub level_bounds : GradedMeasure → ℕ → List GradedTopic → ℕ → Span
level_bounds m run topics level = span_sum (map (bounds_on m run) (level_topics level topics))

-- the sums of some sums
abbrev pub totals_sum : List Totals → Totals
totals_sum totals = record {
  least_lo = whole_sum (map (λ (t : Totals). t.least_lo) totals);
  least_hi = whole_sum (map (λ (t : Totals). t.least_hi) totals);
  most_lo = whole_sum (map (λ (t : Totals). t.most_lo) totals);
  most_hi = whole_sum (map (λ (t : Totals). t.most_hi) totals);
}

-- the sums of a pair by grades
abbrev pub graded_totals : GradedMeasure → ℕ → ℕ → List GradedTopic → Totals
graded_totals m a b topics = totals_sum (map (level_totals m a b topics) (levels m.greatest))

-- the bounds of a run by grades
abbrev pub graded_bounds : GradedMeasure → ℕ → List GradedTopic → Span
graded_bounds m run topics = span_sum (map (level_bounds m run topics) (levels m.greatest))
