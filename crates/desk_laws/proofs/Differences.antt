-- The extremes of recall, R-precision and reciprocal rank, and least cases as the completions of no smaller difference.
use Rattle.std.proofs.Common.{◌≡◌, ℕ, zero, suc, ◌^◌, Bool, true, false, nat_eq, nat_lt, List, [], ◌∷◌, refl, arith, lit<, lit≤, ℤ, pos, neg_ℤ, ◌≤ℤ◌}
use Rattle.std.proofs.lemmas.Int.{ints}
use Rattle.desk_model.specs.Completion.{Completes}
use Rattle.desk_model.specs.Extremes.{AreExtremes}
use Rattle.desk_model.specs.Fraction.{IsAtMost, IsAtLeast}
use Rattle.desk_model.specs.Score.{score}
use Rattle.desk_model.specs.declared.types.Mark.{Mark}
use Rattle.desk_model.specs.declared.types.Mark.TheVariants.{Unjudged, Relevant}
use Rattle.desk_model.specs.declared.types.MeasureName.TheVariants.{Precision, Recall, RPrecision, Reciprocal}
use Rattle.measure_laws.specs.Differences.{IsNoGreater, IsLeastCase}
use Rattle.desk_laws.specs.Example.{marks_401, a, b, parts, d3_false, no_document, every_document, ends}
use Rattle.desk_laws.proofs.Completions.{precision_of_two, completion_with_d3_false}

-- ---- recall_1 where all three documents are relevant, A retrieved one and B none: 1/3, between its floor and its ceiling
abbrev three_relevant : List Mark
three_relevant = Relevant ∷ Relevant ∷ Relevant ∷ []

all_three : Completes three_relevant every_document
all_three zero h = refl
all_three (suc zero) h = refl
all_three (suc (suc zero)) h = refl
all_three (suc (suc (suc doc))) h = absurd (omega arith)

-- the numbers at most and at least the one difference
third_low : (w : ℤ) → w ≤ℤ pos 333333333333333333 → (truth : ℕ → Bool) (s t : List Bool) → truth 0 ≡ true → truth 1 ≡ true → truth 2 ≡ true →
    IsAtMost w (10 ^ 18) (score (Recall 1) 3 truth (0 ∷ []) s) (score (Recall 1) 3 truth [] t)
third_low w h truth s t d e f = rw (d, e, f) (omega (arith, ints))

third_high : (w : ℤ) → pos 333333333333333334 ≤ℤ w → (truth : ℕ → Bool) (s t : List Bool) → truth 0 ≡ true → truth 1 ≡ true → truth 2 ≡ true →
    IsAtLeast w (10 ^ 18) (score (Recall 1) 3 truth (0 ∷ []) s) (score (Recall 1) 3 truth [] t)
third_high w h truth s t d e f = rw (d, e, f) (omega (arith, ints))

under_third : (w : ℤ) (truth : ℕ → Bool) (s t : List Bool) → truth 0 ≡ true → truth 1 ≡ true → truth 2 ≡ true →
    IsAtMost w (10 ^ 18) (score (Recall 1) 3 truth (0 ∷ []) s) (score (Recall 1) 3 truth [] t) → w ≤ℤ pos 333333333333333333
under_third w truth s t d e f h = let g = rw (d, e, f) at h in omega (arith, ints)

over_third : (w : ℤ) (truth : ℕ → Bool) (s t : List Bool) → truth 0 ≡ true → truth 1 ≡ true → truth 2 ≡ true →
    IsAtLeast w (10 ^ 18) (score (Recall 1) 3 truth (0 ∷ []) s) (score (Recall 1) 3 truth [] t) → pos 333333333333333334 ≤ℤ w
over_third w truth s t d e f h = let g = rw (d, e, f) at h in omega (arith, ints)

pub extremes_of_a_third : AreExtremes (Recall 1) (10 ^ 18) three_relevant (0 ∷ []) [] (ends (pos 333333333333333333) (pos 333333333333333334) (pos 333333333333333333) (pos 333333333333333334))
extremes_of_a_third = record {
  least_lo = record {
    so = λ truth s t c. third_low (pos 333333333333333333) (omega (arith, ints)) truth s t (c 0 (lit< tt)) (c 1 (lit< tt)) (c 2 (lit< tt));
    others = λ w h. under_third w every_document [] [] refl refl refl (h every_document [] [] all_three);
  };
  least_hi = record {
    so = (every_document, [], [], all_three, third_high (pos 333333333333333334) (omega (arith, ints)) every_document [] [] refl refl refl);
    others = λ w h. over_third w h.0 h.1 h.2 (h.3 0 (lit< tt)) (h.3 1 (lit< tt)) (h.3 2 (lit< tt)) h.4;
  };
  most_hi = record {
    so = λ truth s t c. third_high (pos 333333333333333334) (omega (arith, ints)) truth s t (c 0 (lit< tt)) (c 1 (lit< tt)) (c 2 (lit< tt));
    others = λ w h. over_third w every_document [] [] refl refl refl (h every_document [] [] all_three);
  };
  most_lo = record {
    so = (every_document, [], [], all_three, third_low (pos 333333333333333333) (omega (arith, ints)) every_document [] [] refl refl refl);
    others = λ w h. under_third w h.0 h.1 h.2 (h.3 0 (lit< tt)) (h.3 1 (lit< tt)) (h.3 2 (lit< tt)) h.4;
  };
}

-- ---- R-precision where all three documents are unjudged, A ranks d1 and B ranks d1 and d2: from -1/2 to 0
abbrev three_unjudged : List Mark
three_unjudged = Unjudged ∷ Unjudged ∷ Unjudged ∷ []

any_truth : (truth : ℕ → Bool) → Completes three_unjudged truth
any_truth truth zero h = tt
any_truth truth (suc zero) h = tt
any_truth truth (suc (suc zero)) h = tt
any_truth truth (suc (suc (suc doc))) h = absurd (omega arith)

-- -1/2 and 0 hold of each of the eight completions
from_minus_a_half : (truth : ℕ → Bool) (s t : List Bool) (x y z : Bool) → truth 0 ≡ x → truth 1 ≡ y → truth 2 ≡ z →
    IsAtMost (neg_ℤ (pos 500000000000000000)) (10 ^ 18) (score RPrecision 3 truth (0 ∷ []) s) (score RPrecision 3 truth (0 ∷ 1 ∷ []) t)
from_minus_a_half truth s t true true true d e f = simp (d, e, f) (omega (arith, ints))
from_minus_a_half truth s t true true false d e f = simp (d, e, f) (omega (arith, ints))
from_minus_a_half truth s t true false true d e f = simp (d, e, f) (omega (arith, ints))
from_minus_a_half truth s t true false false d e f = simp (d, e, f) (omega (arith, ints))
from_minus_a_half truth s t false true true d e f = simp (d, e, f) (omega (arith, ints))
from_minus_a_half truth s t false true false d e f = simp (d, e, f) (omega (arith, ints))
from_minus_a_half truth s t false false true d e f = simp (d, e, f) (omega (arith, ints))
from_minus_a_half truth s t false false false d e f = simp (d, e, f) (omega (arith, ints))

to_zero : (truth : ℕ → Bool) (s t : List Bool) (x y z : Bool) → truth 0 ≡ x → truth 1 ≡ y → truth 2 ≡ z →
    IsAtLeast (pos 0) (10 ^ 18) (score RPrecision 3 truth (0 ∷ []) s) (score RPrecision 3 truth (0 ∷ 1 ∷ []) t)
to_zero truth s t true true true d e f = simp (d, e, f) (omega (arith, ints))
to_zero truth s t true true false d e f = simp (d, e, f) (omega (arith, ints))
to_zero truth s t true false true d e f = simp (d, e, f) (omega (arith, ints))
to_zero truth s t true false false d e f = simp (d, e, f) (omega (arith, ints))
to_zero truth s t false true true d e f = simp (d, e, f) (omega (arith, ints))
to_zero truth s t false true false d e f = simp (d, e, f) (omega (arith, ints))
to_zero truth s t false false true d e f = simp (d, e, f) (omega (arith, ints))
to_zero truth s t false false false d e f = simp (d, e, f) (omega (arith, ints))

-- a whole number at least one of the differences is at least -1/2, and one at most one of them is at most 0
at_least : (w : ℤ) (truth : ℕ → Bool) (s t : List Bool) (x y z : Bool) → truth 0 ≡ x → truth 1 ≡ y → truth 2 ≡ z →
    IsAtLeast w (10 ^ 18) (score RPrecision 3 truth (0 ∷ []) s) (score RPrecision 3 truth (0 ∷ 1 ∷ []) t) → neg_ℤ (pos 500000000000000000) ≤ℤ w
at_least w truth s t true true true d e f h = let g = simp (d, e, f) at h in omega (arith, ints)
at_least w truth s t true true false d e f h = let g = simp (d, e, f) at h in omega (arith, ints)
at_least w truth s t true false true d e f h = let g = simp (d, e, f) at h in omega (arith, ints)
at_least w truth s t true false false d e f h = let g = simp (d, e, f) at h in omega (arith, ints)
at_least w truth s t false true true d e f h = let g = simp (d, e, f) at h in omega (arith, ints)
at_least w truth s t false true false d e f h = let g = simp (d, e, f) at h in omega (arith, ints)
at_least w truth s t false false true d e f h = let g = simp (d, e, f) at h in omega (arith, ints)
at_least w truth s t false false false d e f h = let g = simp (d, e, f) at h in omega (arith, ints)

at_most : (w : ℤ) (truth : ℕ → Bool) (s t : List Bool) (x y z : Bool) → truth 0 ≡ x → truth 1 ≡ y → truth 2 ≡ z →
    IsAtMost w (10 ^ 18) (score RPrecision 3 truth (0 ∷ []) s) (score RPrecision 3 truth (0 ∷ 1 ∷ []) t) → w ≤ℤ pos 0
at_most w truth s t true true true d e f h = let g = simp (d, e, f) at h in omega (arith, ints)
at_most w truth s t true true false d e f h = let g = simp (d, e, f) at h in omega (arith, ints)
at_most w truth s t true false true d e f h = let g = simp (d, e, f) at h in omega (arith, ints)
at_most w truth s t true false false d e f h = let g = simp (d, e, f) at h in omega (arith, ints)
at_most w truth s t false true true d e f h = let g = simp (d, e, f) at h in omega (arith, ints)
at_most w truth s t false true false d e f h = let g = simp (d, e, f) at h in omega (arith, ints)
at_most w truth s t false false true d e f h = let g = simp (d, e, f) at h in omega (arith, ints)
at_most w truth s t false false false d e f h = let g = simp (d, e, f) at h in omega (arith, ints)

-- d1 and d2 true: 1/2 - 2/2
abbrev d1_and_d2 : ℕ → Bool
d1_and_d2 doc = nat_lt doc 2

pub extremes_of_r_precision : AreExtremes RPrecision (10 ^ 18) three_unjudged (0 ∷ []) (0 ∷ 1 ∷ []) (ends (neg_ℤ (pos 500000000000000000)) (neg_ℤ (pos 500000000000000000)) (pos 0) (pos 0))
extremes_of_r_precision = record {
  least_lo = record {
    so = λ truth s t c. from_minus_a_half truth s t (truth 0) (truth 1) (truth 2) refl refl refl;
    others = λ w h. let e = h d1_and_d2 [] [] (any_truth d1_and_d2) in omega (arith, ints);
  };
  least_hi = record {
    so = (d1_and_d2, [], [], any_truth d1_and_d2, omega (arith, ints));
    others = λ w h. at_least w h.0 h.1 h.2 (h.0 0) (h.0 1) (h.0 2) refl refl refl h.4;
  };
  most_hi = record {
    so = λ truth s t c. to_zero truth s t (truth 0) (truth 1) (truth 2) refl refl refl;
    others = λ w h. let e = h no_document [] [] (any_truth no_document) in omega (arith, ints);
  };
  most_lo = record {
    so = (no_document, [], [], any_truth no_document, omega (arith, ints));
    others = λ w h. at_most w h.0 h.1 h.2 (h.0 0) (h.0 1) (h.0 2) refl refl refl h.4;
  };
}

-- ---- least cases
no_greater_either_way : (x y z : Bool) → x ≡ true → y ≡ false → IsNoGreater (parts 1 2) (parts 0 2) (precision_of_two x z) (precision_of_two y z)
no_greater_either_way x y true e f = rw (e, f) (lit≤ tt)
no_greater_either_way x y false e f = rw (e, f) (lit≤ tt)

-- under P_2 the completion without d3 has the difference 1/2 - 0, and none has a smaller one
pub least_case_without_d3 : IsLeastCase (Precision 2) marks_401 a b d3_false
least_case_without_d3 = record { completes = completion_with_d3_false; least = λ truth s t c. no_greater_either_way (truth 0) (truth 1) (truth 2) (c 0 (lit< tt)) (c 1 (lit< tt)) }

pub least_case_of_an_empty_universe : IsLeastCase Reciprocal [] [] [] no_document
least_case_of_an_empty_universe = record { completes = λ doc h. absurd (omega arith); least = λ truth s t c. lit≤ tt }

-- with d1 alone A is above B by 1, and with d2 alone it is below
pub no_least_case_with_d1_alone : IsLeastCase (Precision 1) three_unjudged a b d3_false → ⊥
no_least_case_with_d1_alone h = let e = h.least (λ doc. nat_eq doc 1) [] [] (any_truth (λ doc. nat_eq doc 1)) in absurd (omega arith)
