-- Sizes of weights and of units, and that a weight does not depend on the order of the runs.
use Rattle.std.proofs.Common.{◌≡◌, ℕ, zero, suc, ◌+◌, ◌-◌, ◌*◌, ◌/◌, ◌^◌, ◌<◌, ◌≤◌, Bool, true, false, cond, ◌||◌, max, List, Option, Some, None, arith, refl, ap, lit≤}
use Rattle.std.proofs.Math.Nat.{mul-le-mul_left, pow-le-pow_right}
use Rattle.std.proofs.lemmas.Nat.{div_below}
use Rattle.std.specs.Int.{abs_diff}
use Rattle.desk_model.specs.Ranking.{rank}
use Rattle.measure_laws.specs.Prefixes.{only_second}
use Rattle.measure_laws.specs.Classes.{judged_count}
use Rattle.desk_model.specs.MeasureText.{IsMeasure, IsPersistence}
use Rattle.measure_laws.specs.Measures.{unit_of}
use Rattle.measure_laws.specs.Weights.{weight_of, reciprocal_weight, one_side_weight}
use Rattle.measure_laws.specs.Powers.{ceil_div, low_power, low_weight, high_power, high_weight}
use Rattle.desk_model.specs.declared.types.Mark.{Mark}
use Rattle.desk_model.specs.declared.types.MeasureName.{MeasureName}
use Rattle.desk_model.specs.declared.types.MeasureName.TheVariants.{Precision, Recall, RPrecision, Reciprocal, Biased, AveragePrecision}

-- a part that is at most the whole, divided
part_most : (n a b : ℕ) → a ≤ b → n * a / b ≤ n
part_most n a zero h = omega (arith, h)
part_most n a (suc b) h =
    let less : n * a ≤ n * suc b = mul-le-mul_left n h in omega (arith, div_below (n * a) (suc b) (suc n) (omega arith) (omega (arith, less)))

pub low_power-most : (a b i : ℕ) → a ≤ b → low_power a b i ≤ 10 ^ 18
unfolding low_power
low_power-most a b zero h = lit≤ tt
low_power-most a b (suc i) h = omega (arith, part_most (low_power a b i) a b h, low_power-most a b i h)

pub low_weight-most : (a b : ℕ) (x : Option ℕ) → a ≤ b → low_weight a b x ≤ 10 ^ 18
low_weight-most a b None h = omega arith
low_weight-most a b (Some r) h = omega (arith, part_most (low_power a b (r - 1)) (b - a) b (omega arith), low_power-most a b (r - 1) h)

pub reciprocal_weight-most : (x : Option ℕ) → reciprocal_weight x ≤ 10 ^ 18
reciprocal_weight-most None = omega arith
reciprocal_weight-most (Some zero) = omega arith
reciprocal_weight-most (Some (suc r)) = omega arith

abs_diff-most : (m n k : ℕ) → m ≤ k → n ≤ k → abs_diff m n ≤ k
abs_diff-most m n k h l = omega arith

pub abs_diff-even : (m n : ℕ) → abs_diff n m ≡ abs_diff m n
abs_diff-even m n = omega arith

one_or_none : (b : Bool) → cond b 1 0 ≤ 10 ^ 18
one_or_none true = lit≤ tt
one_or_none false = omega arith

or_even : (b c : Bool) → (c || b) ≡ (b || c)
or_even true true = refl
or_even true false = refl
or_even false true = refl
or_even false false = refl

one_side-even : (k : ℕ) (a b : List ℕ) (doc : ℕ) → one_side_weight k b a doc ≡ one_side_weight k a b doc
one_side-even k a b doc = ap (λ v. cond v 1 0) (or_even (only_second k a b doc) (only_second k b a doc))

pub weight-most : (m : MeasureName) (marks : List Mark) (a b : List ℕ) (doc : ℕ) → IsMeasure m → weight_of m marks a b doc ≤ 10 ^ 18
weight-most (Precision k) marks a b doc h = one_or_none (only_second k a b doc || only_second k b a doc)
weight-most (Recall k) marks a b doc h = one_or_none (only_second k a b doc || only_second k b a doc)
weight-most RPrecision marks a b doc h = one_or_none (only_second (max 1 (judged_count marks)) a b doc || only_second (max 1 (judged_count marks)) b a doc)
weight-most Reciprocal marks a b doc h = abs_diff-most _ _ (10 ^ 18) (reciprocal_weight-most (rank a doc)) (reciprocal_weight-most (rank b doc))
weight-most AveragePrecision marks a b doc h = abs_diff-most _ _ (10 ^ 18) (reciprocal_weight-most (rank a doc)) (reciprocal_weight-most (rank b doc))
weight-most (Biased top bottom) marks a b doc h =
    abs_diff-most _ _ (10 ^ 18) (low_weight-most top bottom (rank a doc) (omega (arith, h.below_one))) (low_weight-most top bottom (rank b doc) (omega (arith, h.below_one)))

pub weight-even : (m : MeasureName) (marks : List Mark) (a b : List ℕ) (doc : ℕ) → weight_of m marks b a doc ≡ weight_of m marks a b doc
weight-even (Precision k) marks a b doc = one_side-even k a b doc
weight-even (Recall k) marks a b doc = one_side-even k a b doc
weight-even RPrecision marks a b doc = one_side-even (max 1 (judged_count marks)) a b doc
weight-even Reciprocal marks a b doc = abs_diff-even (reciprocal_weight (rank a doc)) (reciprocal_weight (rank b doc))
weight-even (Biased top bottom) marks a b doc = abs_diff-even (low_weight top bottom (rank a doc)) (low_weight top bottom (rank b doc))
weight-even AveragePrecision marks a b doc = abs_diff-even (reciprocal_weight (rank a doc)) (reciprocal_weight (rank b doc))

pub unit-size : (m : MeasureName) → IsMeasure m → (1 ≤ unit_of m) × (unit_of m ≤ 10 ^ 18)
unit-size (Precision k) h = (h.0, omega (arith, h.1))
unit-size (Recall k) h = (lit≤ tt, lit≤ tt)
unit-size RPrecision h = (lit≤ tt, lit≤ tt)
unit-size Reciprocal h = (lit≤ tt, lit≤ tt)
unit-size (Biased top bottom) h = (lit≤ tt, lit≤ tt)
unit-size AveragePrecision h = (lit≤ tt, lit≤ tt)

part_up_most : (n a b : ℕ) → 0 < b → a ≤ b → ceil_div (n * a) b ≤ n
part_up_most n a zero p h = absurd (omega arith)
part_up_most n a (suc b) p h =
    let less : n * a ≤ n * suc b = mul-le-mul_left n h in omega (arith, div_below (n * a + (suc b - 1)) (suc b) (suc n) (omega arith) (omega (arith, less)))

pub high_power-most : (a b i : ℕ) → 0 < b → a ≤ b → high_power a b i ≤ 10 ^ 18
unfolding high_power
high_power-most a b zero p h = lit≤ tt
high_power-most a b (suc i) p h = omega (arith, part_up_most (high_power a b i) a b p h, high_power-most a b i p h)

pub high_weight-most : (a b : ℕ) (x : Option ℕ) → 0 < b → a ≤ b → high_weight a b x ≤ 10 ^ 18
high_weight-most a b None p h = omega arith
high_weight-most a b (Some r) p h = omega (arith, part_up_most (high_power a b (r - 1)) (b - a) b p (omega arith), high_power-most a b (r - 1) p h)

-- the bottom of a persistence is at most a million
pub persistence-small : (top bottom : ℕ) → IsPersistence top bottom → bottom ≤ 1000000
persistence-small top bottom h = let few : 10 ^ h.decimals ≤ 10 ^ 6 = pow-le-pow_right (lit≤ tt) h.few in omega (arith, h.power, few)
