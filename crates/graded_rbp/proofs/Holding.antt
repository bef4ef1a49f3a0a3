-- The numbers by grades hold in every completion by grades.
use Rattle.std.proofs.Common.{◌≡◌, ℕ, ◌<◌, List, [], ◌∷◌, map, length, pos, ◌≤ℤ◌, arith, sym, subst}
use Rattle.std.specs.List.{AllByRecursion}
use Rattle.std.proofs.lemmas.Int.{ints}
use Rattle.desk_model.specs.Extremes.{Ends}
use Rattle.desk_model.specs.Fraction.{Fraction, over, total, IsAtMost, IsAtLeast}
use Rattle.desk_model.specs.declared.types.Totals.{Totals}
use Rattle.desk_model.proofs.Fractions.{AllPositive, total-den, below_from_at_most, below_from_at_least, same_from_bounds, mean_below, mean_same, at_most_mean, at_least_mean, at_most_one_mean, at_least_one_mean}
use Rattle.desk_model.proofs.Topics.{over-den, total_in_every, one_total_in_every, at_most_adds, at_least_adds}
use Rattle.topic_counts.specs.declared.span.Span.{Span}
use Rattle.pair_table.proofs.Verdicts.{above_says, below_says, equal_says}
use Rattle.graded_rbp.specs.Grades.{GradedTopic, GradedCompletion, IsGradedCompletion}
use Rattle.graded_rbp.specs.Levels.{level_topics, level_completions}
use Rattle.graded_rbp.specs.Numbers.{ends_on, bounds_on, level_totals, level_bounds, graded_totals, graded_bounds}
use Rattle.graded_rbp.specs.Orders.{HoldsByGrades, HoldsOfRunByGrades, AreUndecidedByGrades}
use Rattle.graded_rbp.specs.Score.{GradedMeasure, IsGradedMeasure, binary, graded_unit, graded_scores}
use Rattle.desk_model.specs.Limits.{PARTS_OF_ONE}
use Rattle.desk_model.specs.Verdict.{verdict}
use Rattle.desk_model.specs.declared.types.Verdict.TheVariants.{Open}
use Rattle.graded_rbp.proofs.Levels.{lows_at, highs_at, bound_lows_at, bound_highs_at, all_complete}
use Rattle.graded_rbp.proofs.LevelScores.{IsRankedIn, length-graded_scores}
use Rattle.graded_rbp.proofs.OverLevels.{below, above, over_levels, one_over_levels}

pub scores-den : (m : GradedMeasure) (run : ℕ) (topics : List GradedTopic) (cs : List GradedCompletion) → AllPositive (graded_scores m run topics cs)
scores-den m run [] cs = tt
scores-den m run (t ∷ ts) [] = tt
scores-den m run (t ∷ ts) (c ∷ cs) = (over-den _ _, scores-den m run ts cs)

pub unit_positive : (m : GradedMeasure) → IsGradedMeasure m → 0 < graded_unit m
unit_positive m valid = let some = valid.some in omega (arith, some)

-- two runs that rank documents of each of some topics
pub record AreRanked (a b : ℕ) (topics : List GradedTopic) : Type 0 where
  pub some_topic : 0 < length topics
  pub first : AllByRecursion (IsRankedIn a) topics
  pub second : AllByRecursion (IsRankedIn b) topics

module _ (m : GradedMeasure) (valid : IsGradedMeasure m) (topics : List GradedTopic) where
  -- ---- a pair
  module _ (a b : ℕ) (ranked : AreRanked a b topics) where
    abbrev sums : Totals
    sums = graded_totals m a b topics

    abbrev scores : ℕ → List GradedCompletion → List Fraction
    scores run cs = graded_scores m run topics cs

    module _ (cs : List GradedCompletion) (c : IsGradedCompletion m.greatest topics cs) where
      la : length (scores a cs) ≡ length topics
      la = length-graded_scores m valid a topics cs c

      lb : length (scores b cs) ≡ length topics
      lb = length-graded_scores m valid b topics cs c

      low : IsAtMost sums.least_lo (graded_unit m) (total (scores a cs)) (total (scores b cs))
      low =
          over_levels (λ unit z. IsAtMost z unit) below (λ (t : Totals). t.least_lo) (level_totals m a b topics) m valid topics cs c a b ranked.first ranked.second
          (λ level ge le. total_in_every (λ z. IsAtMost z PARTS_OF_ONE) (at_most_adds PARTS_OF_ONE) (binary m) a b (map (λ (e : Ends). e.least_lo) (map (ends_on m a b) (level_topics level topics))) (level_topics level topics) (level_completions level cs)
          (lows_at m valid level a b topics ranked.first ranked.second) (all_complete m.greatest level topics cs le c))

      high : IsAtLeast sums.most_hi (graded_unit m) (total (scores a cs)) (total (scores b cs))
      high =
          over_levels (λ unit z. IsAtLeast z unit) above (λ (t : Totals). t.most_hi) (level_totals m a b topics) m valid topics cs c a b ranked.first ranked.second
          (λ level ge le. total_in_every (λ z. IsAtLeast z PARTS_OF_ONE) (at_least_adds PARTS_OF_ONE) (binary m) a b (map (λ (e : Ends). e.most_hi) (map (ends_on m a b) (level_topics level topics))) (level_topics level topics) (level_completions level cs)
          (highs_at m valid level a b topics ranked.first ranked.second) (all_complete m.greatest level topics cs le c))

      den_a : 0 < (total (scores a cs)).den
      den_a = total-den (scores a cs) (scores-den m a topics cs)

      den_b : 0 < (total (scores b cs)).den
      den_b = total-den (scores b cs) (scores-den m b topics cs)

    pub pair_holds : (verdict sums ≡ Open → AreUndecidedByGrades m topics a b) → HoldsByGrades m topics a b sums
    pair_holds undecided = record {
      above = λ v. record {
        in_every = λ cs c. mean_below (scores b cs) (scores a cs) (omega (arith, la cs c, lb cs c)) (omega (arith, lb cs c, ranked.some_topic))
            (below_from_at_most sums.least_lo (graded_unit m) (total (scores a cs)) (total (scores b cs)) (above_says sums v) (low cs c) (den_a cs c) (den_b cs c));
      };
      below = λ v. record {
        in_every = λ cs c. mean_below (scores a cs) (scores b cs) (omega (arith, la cs c, lb cs c)) (omega (arith, la cs c, ranked.some_topic))
            (below_from_at_least sums.most_hi (graded_unit m) (total (scores a cs)) (total (scores b cs)) (below_says sums v) (high cs c) (den_a cs c) (den_b cs c));
      };
      equal = λ v. let zeros = equal_says sums v in record {
        in_every = λ cs c. mean_same (scores a cs) (scores b cs) (omega (arith, la cs c, lb cs c))
            (same_from_bounds sums.least_lo sums.most_hi (graded_unit m) (total (scores a cs)) (total (scores b cs)) (unit_positive m valid)
            (subst (λ z. pos 0 ≤ℤ z) (sym zeros.0) (omega (arith, ints))) (subst (λ z. z ≤ℤ pos 0) (sym zeros.1) (omega (arith, ints))) (low cs c) (high cs c));
      };
      undecided = undecided;
      least = λ cs c. at_most_mean sums.least_lo (graded_unit m) (length topics) (scores a cs) (scores b cs) (la cs c) (lb cs c) (low cs c);
      most = λ cs c. at_least_mean sums.most_hi (graded_unit m) (length topics) (scores a cs) (scores b cs) (la cs c) (lb cs c) (high cs c);
    }

  -- ---- a run
  module _ (run : ℕ) (ranked : AllByRecursion (IsRankedIn run) topics) where
    abbrev spans : Span
    spans = graded_bounds m run topics

    module _ (cs : List GradedCompletion) (c : IsGradedCompletion m.greatest topics cs) where
      run_low : IsAtMost spans.lo (graded_unit m) (total (graded_scores m run topics cs)) (over 0 1)
      run_low =
          one_over_levels (λ unit z. IsAtMost z unit) below (λ (s : Span). s.lo) (level_bounds m run topics) m valid topics cs c run ranked
          (λ level le. one_total_in_every (λ z. IsAtMost z PARTS_OF_ONE) (at_most_adds PARTS_OF_ONE) (binary m) run (map (λ (s : Span). s.lo) (map (bounds_on m run) (level_topics level topics))) (level_topics level topics) (level_completions level cs)
          (bound_lows_at m valid level run topics ranked) (all_complete m.greatest level topics cs le c))

      run_high : IsAtLeast spans.hi (graded_unit m) (total (graded_scores m run topics cs)) (over 0 1)
      run_high =
          one_over_levels (λ unit z. IsAtLeast z unit) above (λ (s : Span). s.hi) (level_bounds m run topics) m valid topics cs c run ranked
          (λ level le. one_total_in_every (λ z. IsAtLeast z PARTS_OF_ONE) (at_least_adds PARTS_OF_ONE) (binary m) run (map (λ (s : Span). s.hi) (map (bounds_on m run) (level_topics level topics))) (level_topics level topics) (level_completions level cs)
          (bound_highs_at m valid level run topics ranked) (all_complete m.greatest level topics cs le c))

    pub run_holds : HoldsOfRunByGrades m topics run spans
    run_holds = record {
      low = λ cs c. at_most_one_mean spans.lo (graded_unit m) (length topics) (graded_scores m run topics cs) (length-graded_scores m valid run topics cs c) (run_low cs c);
      high = λ cs c. at_least_one_mean spans.hi (graded_unit m) (length topics) (graded_scores m run topics cs) (length-graded_scores m valid run topics cs c) (run_high cs c);
    }
