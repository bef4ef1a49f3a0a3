-- Numbers that enclose at each level enclose, added up, what is by grades.
use Rattle.std.proofs.Common.{ℕ, ◌*◌, ◌<◌, ◌≤◌, List, [], ◌∷◌, map, ℤ, arith}
use Rattle.std.specs.List.{AllByRecursion}
use Rattle.desk_model.specs.Fraction.{Fraction, over, total, IsAtMost, IsAtLeast}
use Rattle.desk_model.specs.Limits.{PARTS_OF_ONE}
use Rattle.desk_model.specs.Verdict.{whole_sum}
use Rattle.desk_model.proofs.Topics.{Adds, at_most_adds, at_least_adds, total_scores-den}
use Rattle.pair_table.proofs.Zips.{all_in_range}
use Rattle.graded_rbp.specs.Grades.{GradedTopic, GradedCompletion, IsGradedCompletion}
use Rattle.graded_rbp.specs.Levels.{levels, level_topics, level_completions}
use Rattle.graded_rbp.specs.Score.{GradedMeasure, IsGradedMeasure, binary, graded_unit, graded_scores}
use Rattle.graded_rbp.proofs.Fractions.{IsTimes, at_most_times, at_least_times, times_zeros, total_positive}
use Rattle.graded_rbp.proofs.LevelScores.{IsRankedIn, total_at, totals_times}

-- a fact of a whole number and two fractions, by a unit, that adds up, and that goes over to fractions that are so many times smaller in a unit that is as
-- many times greater
pub record Encloses (fact : ℕ → ℤ → Fraction → Fraction → Type 0) : Type 0 where
  pub adds : (unit : ℕ) → Adds (fact unit)
  pub times : (k unit : ℕ) (z : ℤ) (x y v t : Fraction) → 0 < v.den → 0 < t.den → IsTimes k x v → IsTimes k y t → fact unit z v t → fact (k * unit) z x y

pub below : Encloses (λ unit z. IsAtMost z unit)
below = record { adds = at_most_adds; times = at_most_times }

pub above : Encloses (λ unit z. IsAtLeast z unit)
above = record { adds = at_least_adds; times = at_least_times }

module _ (fact : ℕ → ℤ → Fraction → Fraction → Type 0) (encloses : Encloses fact) {Y : Type 0} (part : Y → ℤ) (of : ℕ → Y) where
  levels_add : (f g : ℕ → Fraction) (ls : List ℕ) → AllByRecursion (λ l. fact PARTS_OF_ONE (part (of l)) (f l) (g l)) ls →
      fact PARTS_OF_ONE (whole_sum (map part (map of ls))) (total (map f ls)) (total (map g ls))
  levels_add f g [] h = (encloses.adds PARTS_OF_ONE).none
  levels_add f g (l ∷ ls) h =
      (encloses.adds PARTS_OF_ONE).step (part (of l)) (whole_sum (map part (map of ls))) (f l) (g l) (total (map f ls)) (total (map g ls)) h.0 (levels_add f g ls h.1)

  module _ (m : GradedMeasure) (valid : IsGradedMeasure m) (topics : List GradedTopic) (cs : List GradedCompletion) (c : IsGradedCompletion m.greatest topics cs) where
    some_parts : (run : ℕ) → 0 < (total (map (total_at m run topics cs) (levels m.greatest))).den
    some_parts run = total_positive (total_at m run topics cs) (levels m.greatest) (λ level. total_scores-den (binary m) run (level_topics level topics) (level_completions level cs))

    -- two runs
    pub over_levels : (a b : ℕ) → AllByRecursion (IsRankedIn a) topics → AllByRecursion (IsRankedIn b) topics →
        ((level : ℕ) → 1 ≤ level → level ≤ m.greatest → fact PARTS_OF_ONE (part (of level)) (total_at m a topics cs level) (total_at m b topics cs level)) →
        fact (graded_unit m) (whole_sum (map part (map of (levels m.greatest)))) (total (graded_scores m a topics cs)) (total (graded_scores m b topics cs))
    over_levels a b ra rb each =
        encloses.times m.greatest PARTS_OF_ONE (whole_sum (map part (map of (levels m.greatest)))) (total (graded_scores m a topics cs)) (total (graded_scores m b topics cs))
        (total (map (total_at m a topics cs) (levels m.greatest))) (total (map (total_at m b topics cs) (levels m.greatest))) (some_parts a) (some_parts b)
        (totals_times m valid a topics cs c ra) (totals_times m valid b topics cs c rb)
        (levels_add (total_at m a topics cs) (total_at m b topics cs) (levels m.greatest)
        (all_in_range (λ level. fact PARTS_OF_ONE (part (of level)) (total_at m a topics cs level) (total_at m b topics cs level)) 1 m.greatest (λ level ge lt. each level ge (omega (arith, lt)))))

    -- one run, beside zero
    pub one_over_levels : (run : ℕ) → AllByRecursion (IsRankedIn run) topics →
        ((level : ℕ) → level ≤ m.greatest → fact PARTS_OF_ONE (part (of level)) (total_at m run topics cs level) (over 0 1)) →
        fact (graded_unit m) (whole_sum (map part (map of (levels m.greatest)))) (total (graded_scores m run topics cs)) (over 0 1)
    one_over_levels run ranked each =
        let none : ℕ → Fraction = λ _. over 0 1 in
        encloses.times m.greatest PARTS_OF_ONE (whole_sum (map part (map of (levels m.greatest)))) (total (graded_scores m run topics cs)) (over 0 1)
        (total (map (total_at m run topics cs) (levels m.greatest))) (total (map none (levels m.greatest))) (some_parts run) (total_positive none (levels m.greatest) (λ level. omega arith))
        (totals_times m valid run topics cs c ranked) (times_zeros m.greatest (levels m.greatest))
        (levels_add (total_at m run topics cs) none (levels m.greatest)
        (all_in_range (λ level. fact PARTS_OF_ONE (part (of level)) (total_at m run topics cs level) (over 0 1)) 1 m.greatest (λ level ge lt. each level (omega (arith, lt)))))
