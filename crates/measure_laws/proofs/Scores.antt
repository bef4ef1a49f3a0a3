-- A score is at most 1 under each exact measure, and what that says of differences.
use Rattle.std.proofs.Common.{ℕ, zero, suc, ◌+◌, ◌*◌, ◌^◌, ◌≤◌, Bool, List, take, Option, Some, None, ℤ, pos, neg_ℤ, ◌≤ℤ◌, arith}
use Rattle.std.proofs.lemmas.Int.{ints}
use Rattle.std.proofs.Math.Nat.{mul-le-mul_left}
use Rattle.desk_model.specs.Ranking.{IsRanking}
use Rattle.desk_model.specs.Fraction.{Fraction, over, IsAtMost, IsAtLeast}
use Rattle.desk_model.specs.Score.{score, true_count, true_among, first_true, reciprocal}
use Rattle.desk_model.specs.declared.types.MeasureName.{MeasureName}
use Rattle.desk_model.specs.declared.types.MeasureName.TheVariants.{Precision, Recall, RPrecision, Reciprocal, Biased, AveragePrecision}
use Rattle.desk_model.proofs.Fractions.{at_most_in, at_least_in}
use Rattle.desk_model.proofs.Counts.{IsDistinct-take}
use Rattle.desk_model.proofs.PrecisionEnds.{prefix_within}
use Rattle.measure_laws.specs.Measures.{IsExactMeasure}
use Rattle.measure_laws.specs.Shares.{IsModest}
use Rattle.measure_laws.proofs.LeastDifferences.{among_few}
use Rattle.measure_laws.proofs.RecallEnds.{count_le_universe}

over-most : (n d : ℕ) → n ≤ d → (over n d).num ≤ (over n d).den
over-most n zero h = omega arith
over-most n (suc d) h = h

pub reciprocal-most : (x : Option ℕ) → (reciprocal x).num ≤ (reciprocal x).den
reciprocal-most None = omega arith
reciprocal-most (Some zero) = omega arith
reciprocal-most (Some (suc r)) = omega arith

pub among_count : (truth : ℕ → Bool) (k n : ℕ) (docs : List ℕ) → IsRanking n docs → true_among truth k docs ≤ true_count truth n
among_count truth k n docs r = count_le_universe truth n (take k docs) (IsDistinct-take k docs r.distinct) (prefix_within k n docs r)

-- a score is at most 1
pub score-most : (m : MeasureName) (n : ℕ) (truth : ℕ → Bool) (docs : List ℕ) (tail : List Bool) → IsExactMeasure m → IsRanking n docs → (score m n truth docs tail).num ≤ (score m n truth docs tail).den
score-most (Precision k) n truth docs tail exact r = over-most (true_among truth k docs) k (among_few truth k docs)
score-most (Recall k) n truth docs tail exact r = over-most (true_among truth k docs) (true_count truth n) (among_count truth k n docs r)
score-most RPrecision n truth docs tail exact r = over-most (true_among truth (true_count truth n) docs) (true_count truth n) (among_few truth (true_count truth n) docs)
score-most Reciprocal n truth docs tail exact r = reciprocal-most (first_true truth docs)
score-most (Biased top bottom) n truth docs tail exact r = absurd exact
score-most AveragePrecision n truth docs tail exact r = absurd exact

small_low : (u a b c d : ℕ) → c ≤ d → u * (c * b) ≤ u * (a * d) + u * (b * d)
small_low u a b c d h = omega (arith, mul-le-mul_left (u * b) h)

pub difference_low : (u : ℕ) (x y : Fraction) → y.num ≤ y.den → IsAtMost (neg_ℤ (pos u)) u x y
difference_low zero x y h = at_most_in (pos 0) 0 x y (omega arith)
difference_low (suc u) x y h = at_most_in (neg_ℤ (pos (suc u))) (suc u) x y (omega (arith, small_low (suc u) x.num x.den y.num y.den h))

pub difference_high : (u : ℕ) (x y : Fraction) → x.num ≤ x.den → IsAtLeast (pos u) u x y
difference_high u x y h = at_least_in (pos u) u x y (omega (arith, small_low u y.num y.den x.num x.den h))

pub within_unit : (z : ℤ) (u : ℕ) → u ≤ 10 ^ 18 → neg_ℤ (pos u) ≤ℤ z → z ≤ℤ pos u → IsModest z
within_unit z u h k l = omega (arith, ints)
