-- The ends of the least difference from the numbers of two runs.
use Rattle.std.proofs.Common.{◌≡◌, ℕ, Bool, true, false, List, length, ap, refl, sym, ◌∙◌, ℤ, pos, ◌-ℤ◌}
use Rattle.std.specs.Prelude.{if◌then◌else◌, int_lt}
use Rattle.desk_model.specs.Completion.{with_picked}
use Rattle.desk_model.specs.declared.types.Mark.{Mark}
use Rattle.measure_laws.specs.AverageEnds.{average_least_lo, average_truth, average_upper_end, high_case, is_same_list, low_case}
use Rattle.measure_laws.specs.Candidates.{average_bound_lo, average_bound_hi}
use Rattle.measure_laws.specs.Parts.{low_average, high_average}
use Rattle.average_precision.specs.declared.numbers.Case.{Case}
use Rattle.average_precision.specs.declared.numbers.Case.TheVariants.{OfNone, OfLow, OfHigh}
use Rattle.average_precision.specs.declared.numbers.Least.{Least}
use Rattle.average_precision.specs.declared.numbers.RunNumbers.{RunNumbers}
use Rattle.average_precision.specs.Least.{AreKnown, IsLeast, case_of, case_truth, smaller_of}

abbrev upper_low : List Mark → List ℕ → List ℕ → ℤ
upper_low marks a b = average_upper_end (length marks) (low_case marks a) a b

abbrev upper_high : List Mark → List ℕ → List ℕ → ℤ
upper_high marks a b = average_upper_end (length marks) (high_case marks b) a b

truth_when : (marks : List Mark) (a b : List ℕ) (s : Bool) → is_same_list a b ≡ s →
    average_truth marks a b ≡ (if s then with_picked marks (λ _. false) else if int_lt (upper_low marks a b) (upper_high marks a b) then low_case marks a else high_case marks b)
unfolding average_truth
truth_when marks a b s e = ap (λ (t : Bool). if t then with_picked marks (λ _. false) else if int_lt (upper_low marks a b) (upper_high marks a b) then low_case marks a else high_case marks b) e

upper_when : (n : ℕ) (truth : ℕ → Bool) (a b : List ℕ) (s : Bool) → is_same_list a b ≡ s → average_upper_end n truth a b ≡ (if s then pos 0 else pos (high_average n truth a) -ℤ pos (low_average n truth b))
upper_when n truth a b s e = ap (λ (t : Bool). if t then pos 0 else pos (high_average n truth a) -ℤ pos (low_average n truth b)) e

lower_when : (marks : List Mark) (a b : List ℕ) (s : Bool) → is_same_list a b ≡ s → average_least_lo marks a b ≡ (if s then pos 0 else pos (average_bound_lo marks a) -ℤ pos (average_bound_hi marks b))
lower_when marks a b s e = ap (λ (t : Bool). if t then pos 0 else pos (average_bound_lo marks a) -ℤ pos (average_bound_hi marks b)) e

pub least_same : (marks : List Mark) (a b : List ℕ) (least : Least) → is_same_list a b ≡ true → least.lo ≡ pos 0 → least.hi ≡ pos 0 → least.kind ≡ OfNone → IsLeast marks a b least
least_same marks a b least e l h k = record {
  lo = l ∙ sym (lower_when marks a b true e);
  hi = h ∙ sym (upper_when (length marks) (average_truth marks a b) a b true e);
  case_is = λ doc. ap (λ (x : Case). case_truth marks a b x doc) k ∙ sym (ap (λ (truth : ℕ → Bool). truth doc) (truth_when marks a b true e));
}

end_of : (marks : List Mark) (a b : List ℕ) (t : Bool) → (if t then upper_low marks a b else upper_high marks a b) ≡ average_upper_end (length marks) (if t then low_case marks a else high_case marks b) a b
end_of marks a b true = refl
end_of marks a b false = refl

kind_of : (marks : List Mark) (a b : List ℕ) (t : Bool) (doc : ℕ) → case_truth marks a b (if t then OfLow else OfHigh) doc ≡ (if t then low_case marks a else high_case marks b) doc
kind_of marks a b true doc = refl
kind_of marks a b false doc = refl

pub least_other : (marks : List Mark) (a b : List ℕ) (same : Bool) (of_a of_b : RunNumbers) (a_in_high b_in_low : ℕ) (least : Least) → same ≡ false → AreKnown marks a b same of_a of_b a_in_high b_in_low →
    least.lo ≡ pos of_a.lo -ℤ pos of_b.hi → least.hi ≡ smaller_of (pos of_a.high_in_low -ℤ pos b_in_low) (pos a_in_high -ℤ pos of_b.low_in_high) →
    least.kind ≡ case_of (pos of_a.high_in_low -ℤ pos b_in_low) (pos a_in_high -ℤ pos of_b.low_in_high) → IsLeast marks a b least
least_other marks a b same of_a of_b a_in_high b_in_low least f k l h c =
    let e : is_same_list a b ≡ false = sym k.same_list ∙ f in
    let low : pos of_a.high_in_low -ℤ pos b_in_low ≡ upper_low marks a b =
    ap (λ (n : ℕ). pos n -ℤ pos b_in_low) k.first.high_in_low ∙ ap (λ (n : ℕ). pos (high_average (length marks) (low_case marks a) a) -ℤ pos n) k.low ∙ sym (upper_when (length marks) (low_case marks a) a b false e) in
    let high : pos a_in_high -ℤ pos of_b.low_in_high ≡ upper_high marks a b =
    ap (λ (n : ℕ). pos n -ℤ pos of_b.low_in_high) k.high ∙ ap (λ (n : ℕ). pos (high_average (length marks) (high_case marks b) a) -ℤ pos n) k.second.low_in_high ∙ sym (upper_when (length marks) (high_case marks b) a b false e) in
    let t = int_lt (upper_low marks a b) (upper_high marks a b) in
    let truth = truth_when marks a b false e in
    record {
      lo = l ∙ ap (λ (n : ℕ). pos n -ℤ pos of_b.hi) k.first.lo ∙ ap (λ (n : ℕ). pos (average_bound_lo marks a) -ℤ pos n) k.second.hi ∙ sym (lower_when marks a b false e);
      hi = h ∙ ap (λ (x : ℤ). smaller_of x (pos a_in_high -ℤ pos of_b.low_in_high)) low ∙ ap (λ (x : ℤ). smaller_of (upper_low marks a b) x) high ∙ end_of marks a b t ∙ ap (λ (x : ℕ → Bool). average_upper_end (length marks) x a b) (sym truth);
      case_is = λ doc. ap (λ (x : Case). case_truth marks a b x doc) (c ∙ ap (λ (x : ℤ). case_of x (pos a_in_high -ℤ pos of_b.low_in_high)) low ∙ ap (λ (x : ℤ). case_of (upper_low marks a b) x) high) ∙ kind_of marks a b t doc ∙ ap (λ (x : ℕ → Bool). x doc) (sym truth);
    }
