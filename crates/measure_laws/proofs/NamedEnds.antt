-- The ends that a measure's name has hold: over all completions, and in one.
use Rattle.std.proofs.Common.{◌≡◌, ℕ, ◌+◌, ◌-◌, ◌^◌, ◌<◌, ◌≤◌, Bool, List, [], ◌++◌, map, length, ℤ, neg_ℤ, arith, sym, subst}
use Rattle.desk_model.specs.Ranking.{IsRanking}
use Rattle.desk_model.specs.Fraction.{IsAtMost, IsAtLeast}
use Rattle.desk_model.specs.Score.{biased, score}
use Rattle.desk_model.specs.Extremes.{InEvery, Ends}
use Rattle.desk_model.specs.MeasureText.{IsMeasure}
use Rattle.desk_model.specs.declared.types.Mark.{Mark}
use Rattle.desk_model.specs.declared.types.MeasureName.{MeasureName}
use Rattle.desk_model.specs.declared.types.MeasureName.TheVariants.{Precision, Recall, RPrecision, Reciprocal, Biased, AveragePrecision}
use Rattle.measure_laws.specs.Measures.{unit_of}
use Rattle.measure_laws.specs.Shares.{biased_upper_end}
use Rattle.measure_laws.specs.Cases.{HasLeastTails}
use Rattle.measure_laws.specs.Ends.{HasEnds, IsUpperEnd, IsLowerEnd}
use Rattle.small_lemmas.proofs.Numbers.{neg_twice}
use Rattle.measure_laws.specs.Parts.{average_precision}
use Rattle.measure_laws.specs.AverageEnds.{average_least_lo}
use Rattle.measure_laws.proofs.AverageLeast.{low_encloses as average_low, upper_holds as average_upper}
use Rattle.measure_laws.proofs.Swapping.{at_most_swapped, at_least_swapped}
use Rattle.measure_laws.proofs.Weights.{persistence-small}
use Rattle.measure_laws.proofs.BiasedUpper.{biased_high}
use Rattle.measure_laws.proofs.Persistence.{least_encloses, most_encloses}

pub low_encloses : (m : MeasureName) (marks : List Mark) (a b : List ℕ) (e : Ends) → IsMeasure m → IsRanking (length marks) a → IsRanking (length marks) b → HasEnds m marks a b e → InEvery m marks a b (IsAtMost e.least_lo (unit_of m))
low_encloses (Precision k) marks a b e valid ra rb h = h.least_lo.so
low_encloses (Recall k) marks a b e valid ra rb h = h.least_lo.so
low_encloses RPrecision marks a b e valid ra rb h = h.least_lo.so
low_encloses Reciprocal marks a b e valid ra rb h = h.least_lo.so
low_encloses (Biased top bottom) marks a b e valid ra rb h =
    subst (λ (ends : Ends). InEvery (Biased top bottom) marks a b (IsAtMost ends.least_lo (10 ^ 18))) (sym h) (least_encloses top bottom marks a b valid ra rb)
low_encloses AveragePrecision marks a b e valid ra rb h = λ truth tail_a tail_b c.
    subst (λ (ends : Ends). IsAtMost ends.least_lo (10 ^ 18) (average_precision (length marks) truth a) (average_precision (length marks) truth b)) (sym h) (average_low marks a b truth ra rb c)

pub high_encloses : (m : MeasureName) (marks : List Mark) (a b : List ℕ) (e : Ends) → IsMeasure m → IsRanking (length marks) a → IsRanking (length marks) b → HasEnds m marks a b e → InEvery m marks a b (IsAtLeast e.most_hi (unit_of m))
high_encloses (Precision k) marks a b e valid ra rb h = h.most_hi.so
high_encloses (Recall k) marks a b e valid ra rb h = h.most_hi.so
high_encloses RPrecision marks a b e valid ra rb h = h.most_hi.so
high_encloses Reciprocal marks a b e valid ra rb h = h.most_hi.so
high_encloses (Biased top bottom) marks a b e valid ra rb h =
    subst (λ (ends : Ends). InEvery (Biased top bottom) marks a b (IsAtLeast ends.most_hi (10 ^ 18))) (sym h) (most_encloses top bottom marks a b valid ra rb)
high_encloses AveragePrecision marks a b e valid ra rb h = λ truth tail_a tail_b c.
    subst (λ (ends : Ends). IsAtLeast ends.most_hi (10 ^ 18) (average_precision (length marks) truth a) (average_precision (length marks) truth b)) (sym h)
    (at_most_swapped (average_least_lo marks b a) (10 ^ 18) _ _ (average_low marks b a truth rb ra c))

-- the upper end of a completion
pub upper_holds : (m : MeasureName) (n : ℕ) (truth : ℕ → Bool) (a b : List ℕ) (z : ℤ) (tail_a tail_b : List Bool) → IsMeasure m → IsRanking n a → IsRanking n b → IsUpperEnd m n truth a b z → HasLeastTails m tail_a tail_b →
    IsAtLeast z (unit_of m) (score m n truth a tail_a) (score m n truth b tail_b)
upper_holds (Precision k) n truth a b z tail_a tail_b valid ra rb h tails = h.so
upper_holds (Recall k) n truth a b z tail_a tail_b valid ra rb h tails = h.so
upper_holds RPrecision n truth a b z tail_a tail_b valid ra rb h tails = h.so
upper_holds Reciprocal n truth a b z tail_a tail_b valid ra rb h tails = h.so
upper_holds (Biased top bottom) n truth a b z tail_a tail_b valid ra rb h tails =
    let apart : 0 < bottom - top = omega (arith, valid.below_one) in
    let few : top + (bottom - top) ≤ 1000000 = omega (arith, valid.below_one, persistence-small top bottom valid) in
    let whole : top + (bottom - top) ≡ bottom = omega (arith, valid.below_one) in
    let high : IsAtLeast (biased_upper_end top bottom truth n a b) (10 ^ 18) (biased top bottom (map truth a ++ [])) (biased top bottom (map truth b ++ tail_b)) =
    subst (λ (c : ℕ). IsAtLeast (biased_upper_end top c truth n a b) (10 ^ 18) (biased top c (map truth a ++ [])) (biased top c (map truth b ++ tail_b))) whole
    (biased_high top (bottom - top) n truth a b valid.positive apart few ra rb tail_b tails.1) in
    subst (λ (w : ℤ). IsAtLeast w (10 ^ 18) (biased top bottom (map truth a ++ tail_a)) (biased top bottom (map truth b ++ tail_b))) (sym h)
    (subst (λ (t : List Bool). IsAtLeast (biased_upper_end top bottom truth n a b) (10 ^ 18) (biased top bottom (map truth a ++ t)) (biased top bottom (map truth b ++ tail_b))) (sym tails.0) high)
upper_holds AveragePrecision n truth a b z tail_a tail_b valid ra rb h tails =
    subst (λ (w : ℤ). IsAtLeast w (10 ^ 18) (average_precision n truth a) (average_precision n truth b)) (sym h) (average_upper n truth a b)

-- the lower end, with the tails swapped
pub lower_holds : (m : MeasureName) (n : ℕ) (truth : ℕ → Bool) (a b : List ℕ) (z : ℤ) (tail_a tail_b : List Bool) → IsMeasure m → IsRanking n a → IsRanking n b → IsLowerEnd m n truth a b z → HasLeastTails m tail_b tail_a →
    IsAtMost z (unit_of m) (score m n truth a tail_a) (score m n truth b tail_b)
lower_holds m n truth a b z tail_a tail_b valid ra rb h tails =
    subst (λ (w : ℤ). IsAtMost w (unit_of m) (score m n truth a tail_a) (score m n truth b tail_b)) (neg_twice z)
    (at_least_swapped (neg_ℤ z) (unit_of m) _ _ (upper_holds m n truth b a (neg_ℤ z) tail_b tail_a valid rb ra h tails))
