-- How large the numbers by grades are.
use Rattle.std.proofs.Common.{◌≡◌, ℕ, suc, ◌+◌, ◌*◌, ◌^◌, ◌<◌, ◌≤◌, List, [], ◌∷◌, map, length, ℤ, pos, neg_ℤ, ◌+ℤ◌, arith, subst}
use Rattle.std.specs.List.{AllByRecursion}
use Rattle.std.proofs.Math.Nat.{mul-le-mul}
use Rattle.std.proofs.lemmas.Int.{ints}
use Rattle.std.proofs.lemmas.List.FromFn.{length-range_with_len}
use Rattle.desk_model.specs.Desk.{Desk, IsDesk}
use Rattle.desk_model.specs.Extremes.{Ends}
use Rattle.desk_model.specs.MeasureText.{IsPersistence}
use Rattle.desk_model.specs.Order.{Topic}
use Rattle.desk_model.specs.Verdict.{whole_sum}
use Rattle.desk_model.specs.declared.types.Totals.{Totals}
use Rattle.measure_laws.specs.Shares.{IsModest, biased_least_lo, biased_least_hi}
use Rattle.measure_laws.proofs.Persistence.{lo_modest, hi_modest, bounds_small}
use Rattle.pair_table.specs.Kept.{AreModestTotals, IsAtMostInSize}
use Rattle.topic_counts.specs.Ends.{IsNear, IsShort}
use Rattle.topic_counts.specs.declared.span.Span.{Span}
use Rattle.graded_rbp.specs.Grades.{GradedTopic, graded_topics}
use Rattle.graded_rbp.specs.Levels.{levels, level_topic, level_topics}
use Rattle.graded_rbp.specs.Numbers.{ends_on, bounds_on, level_totals, level_bounds, graded_totals, graded_bounds}
use Rattle.graded_rbp.specs.Score.{GradedMeasure}
use Rattle.graded_rbp.proofs.Desks.{desk_ranked, length-graded_topics}
use Rattle.graded_rbp.proofs.Levels.{ranked_level}
use Rattle.graded_rbp.proofs.LevelScores.{IsRankedIn}

-- a sum of numbers, each within so many times 2*10^18
size_step : (k n : ℕ) (z w : ℤ) → IsAtMostInSize k z → IsAtMostInSize (n * k) w → IsAtMostInSize ((n + 1) * k) (z +ℤ w)
size_step k n z w h g = omega (arith, ints)

sum_sized : {X Y : Type 0} (k : ℕ) (part : Y → ℤ) (of : X → Y) (xs : List X) → AllByRecursion (λ x. IsAtMostInSize k (part (of x))) xs → IsAtMostInSize (length xs * k) (whole_sum (map part (map of xs)))
sum_sized k part of [] h = omega (arith, ints)
sum_sized k part of (x ∷ xs) h =
    let one : length xs + 1 ≡ suc (length xs) = omega arith in
    subst (λ n. IsAtMostInSize (n * k) (part (of x) +ℤ whole_sum (map part (map of xs)))) one (size_step k (length xs) (part (of x)) (whole_sum (map part (map of xs))) h.0 (sum_sized k part of xs h.1))

every : {X : Type 0} (P : X → Type 0) → ((x : X) → P x) → (xs : List X) → AllByRecursion P xs
every P h [] = tt
every P h (x ∷ xs) = (h x, every P h xs)

sized_near : (g t : ℕ) (z : ℤ) → g ≤ 10 → t ≤ 10000 → IsAtMostInSize (g * (t * 1)) z → IsNear z
sized_near g t z few some h = let least = mul-le-mul few some in omega (arith, ints, least)

-- over topics, and then over levels
module _ {Y : Type 0} (m : GradedMeasure) (few : m.greatest ≤ 10) (topics : List GradedTopic) (some : length topics ≤ 10000) where
  twice : (part : Y → ℤ) (total : ℕ → Y) → ((level : ℕ) → IsAtMostInSize (length topics * 1) (part (total level))) → IsNear (whole_sum (map part (map total (levels m.greatest))))
  twice part total each =
      sized_near m.greatest (length topics) (whole_sum (map part (map total (levels m.greatest)))) few some
      (subst (λ n. IsAtMostInSize (n * (length topics * 1)) (whole_sum (map part (map total (levels m.greatest))))) (length-range_with_len 1 m.greatest)
      (sum_sized (length topics * 1) part total (levels m.greatest) (every (λ level. IsAtMostInSize (length topics * 1) (part (total level))) each (levels m.greatest))))

neg_modest : (z : ℤ) → IsModest z → IsModest (neg_ℤ z)
neg_modest z h = omega (arith, ints)

modest_size : (z : ℤ) → IsModest z → IsAtMostInSize 1 z
modest_size z h = omega (arith, ints)

small_size : (n : ℕ) → n ≤ 10 ^ 18 → IsAtMostInSize 1 (pos n)
small_size n h = omega (arith, ints)

-- the sum over the topics at a level
level_sized : {Y : Type 0} (part : Y → ℤ) (of : Topic → Y) (level : ℕ) (P : GradedTopic → Type 0) → ((t : GradedTopic) → P t → IsAtMostInSize 1 (part (of (level_topic level t)))) →
    (topics : List GradedTopic) → AllByRecursion P topics → IsAtMostInSize (length topics * 1) (whole_sum (map part (map of (level_topics level topics))))
level_sized part of level P each [] h = omega (arith, ints)
level_sized part of level P each (t ∷ ts) h =
    let z = part (of (level_topic level t)) in
    let w = whole_sum (map part (map of (level_topics level ts))) in
    let one : length ts + 1 ≡ suc (length ts) = omega arith in
    subst (λ n. IsAtMostInSize (n * 1) (z +ℤ w)) one (size_step 1 (length ts) z w (each t h.0) (level_sized part of level P each ts h.1))

both : {X : Type 0} (P Q : X → Type 0) (xs : List X) → AllByRecursion P xs → AllByRecursion Q xs → AllByRecursion (λ x. P x × Q x) xs
both P Q [] h k = tt
both P Q (x ∷ xs) h k = ((h.0, k.0), both P Q xs h.1 k.1)

module _ (m : GradedMeasure) (persistence : IsPersistence m.top m.bottom) (few : m.greatest ≤ 10) (desk : Desk) (is_desk : IsDesk desk) where
  some_topics : length (graded_topics desk) ≤ 10000
  some_topics = omega (arith, length-graded_topics desk, is_desk.topics)

  module _ (a b : ℕ) (in_a : a < length desk.runs) (in_b : b < length desk.runs) where
    abbrev Ranked : GradedTopic → Type 0
    Ranked t = IsRankedIn a t × IsRankedIn b t

    ranked : AllByRecursion Ranked (graded_topics desk)
    ranked = both (IsRankedIn a) (IsRankedIn b) (graded_topics desk) (desk_ranked desk is_desk a in_a) (desk_ranked desk is_desk b in_b)

    -- one end of each topic
    over_topics : (part : Ends → ℤ) (level : ℕ) → ((t : GradedTopic) → Ranked t → IsModest (part (ends_on m a b (level_topic level t)))) →
        IsAtMostInSize (length (graded_topics desk) * 1) (whole_sum (map part (map (ends_on m a b) (level_topics level (graded_topics desk)))))
    over_topics part level each = level_sized part (ends_on m a b) level Ranked (λ t r. modest_size _ (each t r)) (graded_topics desk) ranked

    abbrev low : ℕ → ℕ → ℕ → GradedTopic → ℤ
    low i j level t = biased_least_lo m.top m.bottom (level_topic level t).marks (t.ranking i) (t.ranking j)

    abbrev high : ℕ → ℕ → ℕ → GradedTopic → ℤ
    high i j level t = biased_least_hi m.top m.bottom (level_topic level t).marks (t.ranking i) (t.ranking j)

    low_modest : (level : ℕ) (t : GradedTopic) → Ranked t → IsModest (low a b level t) × IsModest (low b a level t)
    low_modest level t r =
        let qa = ranked_level level a t r.0 in
        let qb = ranked_level level b t r.1 in
        (lo_modest m.top m.bottom (level_topic level t).marks (t.ranking a) (t.ranking b) persistence qa qb, lo_modest m.top m.bottom (level_topic level t).marks (t.ranking b) (t.ranking a) persistence qb qa)

    high_modest : (level : ℕ) (t : GradedTopic) → Ranked t → IsModest (high a b level t) × IsModest (high b a level t)
    high_modest level t r =
        let qa = ranked_level level a t r.0 in
        let qb = ranked_level level b t r.1 in
        (hi_modest m.top m.bottom (level_topic level t).marks (t.ranking a) (t.ranking b) persistence qa qb, hi_modest m.top m.bottom (level_topic level t).marks (t.ranking b) (t.ranking a) persistence qb qa)

    pub totals_modest : AreModestTotals (graded_totals m a b (graded_topics desk))
    totals_modest =
        let topics = graded_topics desk in (
          twice m few topics some_topics (λ (t : Totals). t.least_lo) (level_totals m a b topics) (λ level. over_topics (λ (e : Ends). e.least_lo) level (λ t r. (low_modest level t r).0)),
          twice m few topics some_topics (λ (t : Totals). t.least_hi) (level_totals m a b topics) (λ level. over_topics (λ (e : Ends). e.least_hi) level (λ t r. (high_modest level t r).0)),
          twice m few topics some_topics (λ (t : Totals). t.most_lo) (level_totals m a b topics) (λ level. over_topics (λ (e : Ends). e.most_lo) level (λ t r. neg_modest (high b a level t) (high_modest level t r).1)),
          twice m few topics some_topics (λ (t : Totals). t.most_hi) (level_totals m a b topics) (λ level. over_topics (λ (e : Ends). e.most_hi) level (λ t r. neg_modest (low b a level t) (low_modest level t r).1)),
        )

  module _ (run : ℕ) (in_run : run < length desk.runs) where
    small : (level : ℕ) (t : GradedTopic) → IsRankedIn run t → (IsAtMostInSize 1 (bounds_on m run (level_topic level t)).lo) × (IsAtMostInSize 1 (bounds_on m run (level_topic level t)).hi)
    small level t r =
        let sizes = bounds_small m.top m.bottom (level_topic level t).marks (t.ranking run) persistence (ranked_level level run t r) in
        (small_size _ sizes.0, small_size _ sizes.1)

    pub bounds_short : IsShort (graded_bounds m run (graded_topics desk))
    bounds_short =
        let topics = graded_topics desk in
        let r = desk_ranked desk is_desk run in_run in (
          twice m few topics some_topics (λ (s : Span). s.lo) (level_bounds m run topics) (λ level. level_sized (λ (s : Span). s.lo) (bounds_on m run) level (IsRankedIn run) (λ t q. (small level t q).0) topics r),
          twice m few topics some_topics (λ (s : Span). s.hi) (level_bounds m run topics) (λ level. level_sized (λ (s : Span). s.hi) (bounds_on m run) level (IsRankedIn run) (λ t q. (small level t q).1) topics r),
        )
