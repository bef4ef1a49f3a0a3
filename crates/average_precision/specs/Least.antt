-- What is known of two runs, and the ends of their least difference.
use Rattle.std.specs.Prelude.{◌≡◌, ℕ, Bool, false, if◌then◌else◌, List, length, ℤ, int_lt}
use Rattle.desk_model.specs.Completion.{with_picked}
use Rattle.desk_model.specs.declared.types.Mark.{Mark}
use Rattle.measure_laws.specs.AverageEnds.{average_least_lo, average_least_hi, average_truth, high_case, is_same_list, low_case}
use Rattle.measure_laws.specs.Candidates.{average_bound_lo, average_bound_hi}
use Rattle.measure_laws.specs.Parts.{low_average, high_average}
use Rattle.average_precision.specs.declared.numbers.Case.{Case}
use Rattle.average_precision.specs.declared.numbers.Case.TheVariants.{OfNone, OfLow, OfHigh}
use Rattle.average_precision.specs.declared.numbers.Least.{Least}
use Rattle.average_precision.specs.declared.numbers.RunNumbers.{RunNumbers}

-- what the ends of a run's pairs are made of
pub record AreNumbers (marks : List Mark) (docs : List ℕ) (numbers : RunNumbers) : Type 0 where
  pub lo : numbers.lo ≡ average_bound_lo marks docs
  pub hi : numbers.hi ≡ average_bound_hi marks docs
  pub low_in_high : numbers.low_in_high ≡ low_average (length marks) (high_case marks docs) docs
  pub high_in_low : numbers.high_in_low ≡ high_average (length marks) (low_case marks docs) docs

-- the truth values of a case
abbrev pub case_truth : List Mark → List ℕ → List ℕ → Case → ℕ → Bool
case_truth marks a b OfNone = with_picked marks (λ _. false)
case_truth marks a b OfLow = low_case marks a
case_truth marks a b OfHigh = high_case marks b

-- the smaller of two differences, and the case that it is of: the second one's where they are even
abbrev pub smaller_of : ℤ → ℤ → ℤ
smaller_of low high = if int_lt low high then low else high

abbrev pub case_of : ℤ → ℤ → Case
case_of low high = if int_lt low high then OfLow else OfHigh

-- what is known of two runs on a topic
pub record AreKnown (marks : List Mark) (a b : List ℕ) (same : Bool) (of_a of_b : RunNumbers) (a_in_high b_in_low : ℕ) : Type 0 where
  pub same_list : same ≡ is_same_list a b
  pub first : AreNumbers marks a of_a
  pub second : AreNumbers marks b of_b
  pub high : a_in_high ≡ high_average (length marks) (high_case marks b) a
  pub low : b_in_low ≡ low_average (length marks) (low_case marks a) b

-- the ends of the least difference and its case
pub record IsLeast (marks : List Mark) (a b : List ℕ) (least : Least) : Type 0 where
  pub lo : least.lo ≡ average_least_lo marks a b
  pub hi : least.hi ≡ average_least_hi marks a b
  pub case_is : (doc : ℕ) → case_truth marks a b least.kind doc ≡ average_truth marks a b doc
