-- The sums by grades of swapped runs.
use Rattle.std.proofs.Common.{◌≡◌, ℕ, List, [], ◌∷◌, map, ℤ, neg_ℤ, ◌+ℤ◌, refl, sym, arith}
use Rattle.std.proofs.lemmas.Int.{ints}
use Rattle.small_lemmas.proofs.Numbers.{neg_twice}
use Rattle.desk_model.specs.Extremes.{Ends}
use Rattle.desk_model.specs.Order.{Topic}
use Rattle.desk_model.specs.Verdict.{whole_sum}
use Rattle.desk_model.specs.declared.types.Totals.{Totals}
use Rattle.measure_laws.specs.Shares.{biased_least_lo, biased_least_hi}
use Rattle.pair_table.specs.Sums.{swapped_totals}
use Rattle.pair_table.proofs.Adding.{totals_same}
use Rattle.graded_rbp.specs.Grades.{GradedTopic}
use Rattle.graded_rbp.specs.Levels.{levels, level_topics}
use Rattle.graded_rbp.specs.Numbers.{ends_on, level_totals, graded_totals}
use Rattle.graded_rbp.specs.Score.{GradedMeasure}

neg_adds : (z w v u : ℤ) → z ≡ neg_ℤ w → v ≡ neg_ℤ u → z +ℤ v ≡ neg_ℤ (w +ℤ u)
neg_adds z w v u h k = omega (arith, ints, h, k)

-- one end of each element is the other end of another element, negated
sum_swapped : {X Y : Type 0} (f g : Y → ℤ) (F G : X → Y) → ((x : X) → f (F x) ≡ neg_ℤ (g (G x))) → (xs : List X) → whole_sum (map f (map F xs)) ≡ neg_ℤ (whole_sum (map g (map G xs)))
sum_swapped f g F G h [] = omega (arith, ints)
sum_swapped f g F G h (x ∷ xs) = neg_adds (f (F x)) (g (G x)) (whole_sum (map f (map F xs))) (whole_sum (map g (map G xs))) (h x) (sum_swapped f g F G h xs)

module _ (m : GradedMeasure) (a b : ℕ) (topics : List GradedTopic) where
  abbrev low : Topic → ℤ
  low t = biased_least_lo m.top m.bottom t.marks (t.ranking b) (t.ranking a)

  abbrev high : Topic → ℤ
  high t = biased_least_hi m.top m.bottom t.marks (t.ranking b) (t.ranking a)

  pub graded_swapped : graded_totals m b a topics ≡ swapped_totals (graded_totals m a b topics)
  graded_swapped =
      let F = level_totals m b a topics in
      let G = level_totals m a b topics in
      let ls = levels m.greatest in
      totals_same _ _ _ _ _ _ _ _
      (sum_swapped (λ (t : Totals). t.least_lo) (λ (t : Totals). t.most_hi) F G (λ level. sum_swapped (λ (e : Ends). e.least_lo) (λ (e : Ends). e.most_hi) (ends_on m b a) (ends_on m a b) (λ t. sym (neg_twice (low t))) (level_topics level topics)) ls)
      (sum_swapped (λ (t : Totals). t.least_hi) (λ (t : Totals). t.most_lo) F G (λ level. sum_swapped (λ (e : Ends). e.least_hi) (λ (e : Ends). e.most_lo) (ends_on m b a) (ends_on m a b) (λ t. sym (neg_twice (high t))) (level_topics level topics)) ls)
      (sum_swapped (λ (t : Totals). t.most_lo) (λ (t : Totals). t.least_hi) F G (λ level. sum_swapped (λ (e : Ends). e.most_lo) (λ (e : Ends). e.least_hi) (ends_on m b a) (ends_on m a b) (λ t. refl) (level_topics level topics)) ls)
      (sum_swapped (λ (t : Totals). t.most_hi) (λ (t : Totals). t.least_lo) F G (λ level. sum_swapped (λ (e : Ends). e.most_hi) (λ (e : Ends). e.least_lo) (ends_on m b a) (ends_on m a b) (λ t. refl) (level_topics level topics)) ls)
