-- A level more.
use Rattle.std.proofs.Common.{◌≡◌, ℕ, ◌+◌, List, [], ◌∷◌, map, ℤ, ◌+ℤ◌, ap, sym, ◌∙◌, arith}
use Rattle.std.proofs.lemmas.List.{map-append}
use Rattle.std.proofs.lemmas.List.FromFn.{map-range_with_len_more}
use Rattle.desk_model.specs.Verdict.{whole_sum}
use Rattle.desk_model.specs.declared.types.Totals.{Totals}
use Rattle.desk_model.proofs.Sums.{whole_sum-push}
use Rattle.topic_counts.specs.declared.span.Span.{Span}
use Rattle.topic_counts.proofs.Spans.{span_same}
use Rattle.pair_table.specs.Kept.{each_with, with_span}
use Rattle.pair_table.proofs.Adding.{totals_same}
use Rattle.pair_table.proofs.Summing.{each_made}
use Rattle.graded_rbp.specs.Grades.{GradedTopic}
use Rattle.graded_rbp.specs.Kept.{with_totals}
use Rattle.graded_rbp.specs.Levels.{levels}
use Rattle.graded_rbp.specs.Numbers.{level_totals, level_bounds, graded_totals, graded_bounds}
use Rattle.graded_rbp.specs.Score.{GradedMeasure}
use Rattle.graded_rbp.proofs.LevelScores.{map_each}

-- the same persistence with numbers up to another greatest one
abbrev pub up_to : GradedMeasure → ℕ → GradedMeasure
up_to m greatest = record { top = m.top; bottom = m.bottom; greatest = greatest }

-- a sum of one more
one_more : {Y : Type 0} (part : Y → ℤ) (of : ℕ → Y) (done : ℕ) → whole_sum (map part (map of (levels (done + 1)))) ≡ whole_sum (map part (map of (levels done))) +ℤ part (of (done + 1))
one_more part of done =
    ap (λ ys. whole_sum (map part ys)) (map-range_with_len_more of 1 done (done + 1) (omega arith))
    ∙ ap whole_sum (map-append part (map of (levels done)) (of (done + 1) ∷ []))
    ∙ whole_sum-push (map part (map of (levels done))) (part (of (done + 1)))

module _ (m : GradedMeasure) (done : ℕ) (topics : List GradedTopic) where
  totals_one_more : (a b : ℕ) → graded_totals (up_to m (done + 1)) a b topics ≡ with_totals (graded_totals (up_to m done) a b topics) (level_totals m a b topics (done + 1))
  totals_one_more a b =
      let of = level_totals m a b topics in
      totals_same _ _ _ _ _ _ _ _ (one_more (λ (t : Totals). t.least_lo) of done) (one_more (λ (t : Totals). t.least_hi) of done) (one_more (λ (t : Totals). t.most_lo) of done) (one_more (λ (t : Totals). t.most_hi) of done)

  bounds_one_more : (run : ℕ) → graded_bounds (up_to m (done + 1)) run topics ≡ with_span (graded_bounds (up_to m done) run topics) (level_bounds m run topics (done + 1))
  bounds_one_more run =
      let of = level_bounds m run topics in
      span_same _ _ _ _ (one_more (λ (s : Span). s.lo) of done) (one_more (λ (s : Span). s.hi) of done)

  pub totals_more : (pairs : List (ℕ × ℕ)) →
      each_with with_totals (map (λ (pair : ℕ × ℕ). graded_totals (up_to m done) pair.0 pair.1 topics) pairs) (map (λ (pair : ℕ × ℕ). level_totals m pair.0 pair.1 topics (done + 1)) pairs)
      ≡ map (λ (pair : ℕ × ℕ). graded_totals (up_to m (done + 1)) pair.0 pair.1 topics) pairs
  totals_more pairs =
      each_made with_totals (λ (pair : ℕ × ℕ). graded_totals (up_to m done) pair.0 pair.1 topics) (λ (pair : ℕ × ℕ). level_totals m pair.0 pair.1 topics (done + 1)) pairs
      ∙ map_each _ (λ (pair : ℕ × ℕ). graded_totals (up_to m (done + 1)) pair.0 pair.1 topics) (λ pair. sym (totals_one_more pair.0 pair.1)) pairs

  pub bounds_more : (runs : List ℕ) →
      each_with with_span (map (λ run. graded_bounds (up_to m done) run topics) runs) (map (λ run. level_bounds m run topics (done + 1)) runs) ≡ map (λ run. graded_bounds (up_to m (done + 1)) run topics) runs
  bounds_more runs =
      each_made with_span (λ run. graded_bounds (up_to m done) run topics) (λ run. level_bounds m run topics (done + 1)) runs
      ∙ map_each _ (λ run. graded_bounds (up_to m (done + 1)) run topics) (λ run. sym (bounds_one_more run)) runs
