-- Numbers of a table, and what its lines claim.
use Rattle.std.proofs.Common.{◌≡◌, ℕ, zero, suc, Bool, true, false, List, [], ◌∷◌, refl, ap, sym, subst, Some, pos, negsuc, neg_ℤ, arith, lit<, inl, inr}
use Rattle.std.proofs.lemmas.Int.{ints}
use Rattle.std.specs.Prelude.{codes, slice_get, unwrap_or}
use Rattle.desk_model.specs.declared.types.MeasureName.TheVariants.{Precision, Recall, Reciprocal, Biased}
use Rattle.std.specs.Fmt.{digits}
use Rattle.desk_model.specs.Completion.{Completion}
use Rattle.desk_model.specs.Fraction.{mean, IsAtMost, IsAtLeast}
use Rattle.desk_model.specs.Desk.{topics_under}
use Rattle.desk_model.specs.Order.{Topic, IsCompletion, run_mean}
use Rattle.desk_model.specs.declared.types.Mark.{Mark}
use Rattle.desk_model.specs.declared.types.Mark.TheVariants.{Relevant}
use Rattle.topic_counts.specs.declared.span.Span.{Span}
use Rattle.measure_laws.specs.Powers.{low_power, high_power}
use Rattle.measure_core.specs.declared.cell.Cell.{Cell}
use Rattle.measure_laws.specs.Measures.{IsExactMeasure}
use Rattle.measure_core.specs.Made.{HasEnds, HasBounds, width_of}
use Rattle.pair_table.specs.Sums.{run_numbers, pair_sums, run_sums, span_sum, swapped_totals}
use Rattle.pair_table.specs.Numbers.{AreNumbersIn}
use Rattle.pair_table.specs.Orders.{IsNearZero, total_width}
use Rattle.desk_report.specs.Claims.{HoldsByNames, IsPairLine, IsRunLine, SaysExactly, EnclosesDifference, IsTrueLine}
use Rattle.desk_report.proofs.Texts.{grade_not_decimal}
use Rattle.desk_laws.specs.Example.{two_runs, two_topics, one_topic, marks_401, a, b, sums, ends}
use Rattle.desk_laws.proofs.Names.{different}
use Rattle.desk_laws.proofs.Completions.{precision_of_two, a_is_always_above_b, b_is_not_always_above_a, example_is_not_always_equal}
use Rattle.desk_laws.proofs.Extremes.{extremes_of_the_example, bounds_of_a, bounds_of_b}

-- ---- runs by number
pub three_runs : run_numbers 3 ≡ 0 ∷ 1 ∷ 2 ∷ []
three_runs = refl

pub no_runs : run_numbers 0 ≡ []
no_runs = refl

-- ---- the numbers of (1, 0) are those of (0, 1) swapped_totals
pub sums_swapped : swapped_totals (sums (pos 1) (pos 1) (pos 2) (pos 2)) ≡ sums (negsuc 1) (negsuc 1) (negsuc 0) (negsuc 0)
sums_swapped = refl

pub different_sums_swapped : swapped_totals (sums (negsuc 3) (negsuc 2) (pos 5) (pos 6)) ≡ sums (negsuc 5) (negsuc 4) (pos 3) (pos 4)
different_sums_swapped = refl

pub zeros_swapped : swapped_totals (sums (pos 0) (pos 0) (pos 0) (pos 0)) ≡ sums (pos 0) (pos 0) (pos 0) (pos 0)
zeros_swapped = refl

-- ---- sums of bounds
pub bounds_of_two_topics : span_sum (record { lo = pos 1; hi = pos 2 } ∷ record { lo = pos 0; hi = pos 1 } ∷ []) ≡ record { lo = pos 1; hi = pos 3 }
bounds_of_two_topics = refl

pub bounds_of_one_topic : span_sum (record { lo = negsuc 0; hi = pos 2 } ∷ []) ≡ record { lo = negsuc 0; hi = pos 2 }
bounds_of_one_topic = refl

pub bounds_of_no_topic : span_sum [] ≡ record { lo = pos 0; hi = pos 0 }
bounds_of_no_topic = refl

-- ---- sums over topics of what a measure answers: here least from 1 to 2 and most from 3 to 4, and bounds from 5 to 6, on every topic
abbrev same_cell : List Mark → List ℕ → List ℕ → Cell
same_cell marks x y = record { least = record { lo = pos 1; hi = pos 2 }; most = record { lo = pos 3; hi = pos 4 } }

abbrev same_bounds : List Mark → List ℕ → Span
same_bounds marks x = record { lo = pos 5; hi = pos 6 }

abbrev both_topics : List Topic
both_topics = topics_under two_topics (marks_401 ∷ (Relevant ∷ []) ∷ [])

pub pair_over_one_topic : pair_sums same_cell one_topic 0 1 ≡ sums (pos 1) (pos 2) (pos 3) (pos 4)
unfolding pair_sums
pair_over_one_topic = refl

pub pair_over_two_topics : pair_sums same_cell both_topics 0 1 ≡ sums (pos 2) (pos 4) (pos 6) (pos 8)
unfolding pair_sums
pair_over_two_topics = refl

pub pair_over_no_topic : pair_sums same_cell [] 0 1 ≡ sums (pos 0) (pos 0) (pos 0) (pos 0)
unfolding pair_sums
pair_over_no_topic = refl

pub run_over_one_topic : run_sums same_bounds one_topic 0 ≡ record { lo = pos 5; hi = pos 6 }
unfolding run_sums
run_over_one_topic = refl

-- the topic that run A lacks counts
pub run_over_a_topic_that_it_lacks : run_sums same_bounds both_topics 0 ≡ record { lo = pos 10; hi = pos 12 }
unfolding run_sums
run_over_a_topic_that_it_lacks = refl

pub run_over_no_topic : run_sums same_bounds [] 0 ≡ record { lo = pos 0; hi = pos 0 }
unfolding run_sums
run_over_no_topic = refl

-- ---- the ends of a name
pub exact_measures : IsExactMeasure (Recall 5) × IsExactMeasure Reciprocal
exact_measures = (tt, tt)

pub rank_biased_precision_is_not_exact : IsExactMeasure (Biased 5 10) → ⊥
rank_biased_precision_is_not_exact h = h

pub ends_of_the_example : HasEnds (Precision 2) marks_401 a b (ends (pos 1) (pos 1) (pos 1) (pos 1))
ends_of_the_example = extremes_of_the_example

pub bounds_of_the_example : HasBounds (Precision 2) marks_401 a (record { lo = pos 1; hi = pos 2 })
bounds_of_the_example = bounds_of_a

-- under rank-biased precision the sums of shares: two empty rankings are all tail
pub ends_of_empty_rankings_by_name : HasEnds (Biased 5 10) [] [] [] (ends (neg_ℤ (pos 1000000000000000000)) (neg_ℤ (pos 999999999999999999)) (pos 999999999999999999) (pos 1000000000000000000))
unfolding low_power high_power
ends_of_empty_rankings_by_name = refl

pub bounds_of_one_document_by_name : HasBounds (Biased 5 10) (Relevant ∷ []) (0 ∷ []) (record { lo = pos 500000000000000000; hi = pos 1000000000000000000 })
unfolding low_power high_power
bounds_of_one_document_by_name = refl

-- ---- the table of the example under P_2: bounds 1 to 2 and 0 to 1, and the pair's four sums 1
pub numbers_of_the_example : AreNumbersIn (Precision 2) two_runs (marks_401 ∷ [])
    (record { lo = pos 1; hi = pos 2 } ∷ record { lo = pos 0; hi = pos 1 } ∷ []) (sums (pos 1) (pos 1) (pos 1) (pos 1) ∷ [])
numbers_of_the_example = record {
  runs = (
    record { spans = record { lo = pos 1; hi = pos 2 } ∷ []; named = (bounds_of_a, tt); summed = refl },
    (record { spans = record { lo = pos 0; hi = pos 1 } ∷ []; named = (bounds_of_b, tt); summed = refl }, tt),
  );
  pairs = (record { ends = ends (pos 1) (pos 1) (pos 1) (pos 1) ∷ []; named = (extremes_of_the_example, tt); summed = refl }, tt);
}

-- a table of another number of pairs is not that desk's
pub table_without_the_pair : AreNumbersIn (Precision 2) two_runs (marks_401 ∷ []) (record { lo = pos 1; hi = pos 2 } ∷ record { lo = pos 0; hi = pos 1 } ∷ []) [] → ⊥
table_without_the_pair h = h.pairs

-- ---- how near to zero a close pair is
pub width_of_precision : width_of (Precision 2) a b ≡ 1
width_of_precision = refl

-- 8 * (2 + 2 + 1)^2
pub width_of_rank_biased_precision : width_of (Biased 5 10) a b ≡ 200
width_of_rank_biased_precision = refl

pub width_of_empty_rankings : width_of (Biased 5 10) [] [] ≡ 8
width_of_empty_rankings = refl

pub width_of_one_topic : total_width (Recall 1) one_topic 0 1 ≡ 1
width_of_one_topic = refl

-- equal means whose thirds were rounded apart, on two topics
pub close_pair_of_two_topics : IsNearZero 2 (sums (negsuc 0) (pos 1) (negsuc 0) (pos 1))
close_pair_of_two_topics = inl (omega (arith, ints), omega (arith, ints))

pub pair_near_by_its_greatest_sum : IsNearZero 2 (sums (neg_ℤ (pos 50)) (neg_ℤ (pos 49)) (pos 1) (pos 2))
pair_near_by_its_greatest_sum = inr (omega (arith, ints), omega (arith, ints))

pub pair_far_from_zero : IsNearZero 2 (sums (neg_ℤ (pos 3)) (neg_ℤ (pos 2)) (pos 2) (pos 3)) → ⊥
pair_far_from_zero h = elim h [ inl x ↦ let e = x.0 in absurd (omega (arith, ints)) | inr x ↦ let e = x.1 in absurd (omega (arith, ints)) ]

-- ---- what lines claim
pub line_of_a_pair : IsPairLine (codes "pair A above B 0.500000 0.500000") (codes "A") (codes "above") (codes "B") (codes "0.500000") (codes "0.500000")
line_of_a_pair = refl

pub line_of_a_run : IsRunLine (codes "run A 0.500000 1.000000") (codes "A") (codes "0.500000") (codes "1.000000")
unfolding digits
line_of_a_run = (refl, (pos 500000, refl), (pos 1000000, refl))

-- in a text of judgements the line of a topic that is named `run` ends with a grade
pub judgement_of_a_topic_named_run : IsRunLine (codes "run 0 d1 1") (codes "0") (codes "d1") (codes "1") → ⊥
unfolding digits
judgement_of_a_topic_named_run h = grade_not_decimal (codes "1") (pos 1) refl h.2

pub line_of_neither : IsRunLine (codes "topics 1") (codes "A") (codes "0.500000") (codes "1.000000") → ⊥
line_of_neither h = let fields = h.0 in absurd (cc)

-- under P_2 `above` says exactly what always holds of A and B
pub above_says_exactly : SaysExactly (Precision 2) one_topic (codes "above") 0 1
above_says_exactly = record {
  above = (λ e. a_is_always_above_b, λ h. refl);
  below = (λ e. absurd (different (codes "above") (codes "below") refl refl e), λ h. absurd (b_is_not_always_above_a h));
  equal = (λ e. absurd (different (codes "above") (codes "equal") refl refl e), λ h. absurd (example_is_not_always_equal h));
  undecided = (λ e. absurd (different (codes "above") (codes "open") refl refl e), λ h. absurd (h.0 a_is_always_above_b));
  never_close = λ e. different (codes "above") (codes "close") refl refl e;
}

pub open_does_not_say_exactly : SaysExactly (Precision 2) one_topic (codes "open") 0 1 → ⊥
open_does_not_say_exactly h = (h.undecided.0 refl).0 a_is_always_above_b

-- a line of another form claims nothing of runs and is true
pub head_line_is_true : IsTrueLine (Precision 2) two_runs (marks_401 ∷ []) (codes "level 1")
head_line_is_true = record {
  above = λ first second low high h. absurd (cc);
  below = λ first second low high h. absurd (cc);
  equal = λ first second low high h. absurd (cc);
  undecided = λ first second low high h. absurd (cc);
  exact = λ k e first word second low high h. absurd (cc);
  pair_bounds = λ first word second low high h. absurd (cc);
  run_bounds = λ run low high h. let fields = h.0 in absurd (cc);
}

-- ---- the line `pair A above B 0.500000 0.500000` is true
same_words : (f w s l u first word second low high : List ℕ) → codes "pair" ∷ f ∷ w ∷ s ∷ l ∷ u ∷ [] ≡ codes "pair" ∷ first ∷ word ∷ second ∷ low ∷ high ∷ [] →
    (f ≡ first) × (w ≡ word) × (s ≡ second) × (l ≡ low) × (u ≡ high)
same_words f w s l u first word second low high h = ((cc), (cc), (cc), (cc), (cc))

abbrev words : List ℕ → List ℕ → List ℕ → List ℕ → List ℕ → Type 0
words first word second low high = (codes "A" ≡ first) × (codes "above" ≡ word) × (codes "B" ≡ second) × (codes "0.500000" ≡ low) × (codes "0.500000" ≡ high)

of_line : (first word second low high : List ℕ) → IsPairLine (codes "pair A above B 0.500000 0.500000") first word second low high → words first word second low high
of_line first word second low high h = same_words (codes "A") (codes "above") (codes "B") (codes "0.500000") (codes "0.500000") first word second low high h

by_names : (fact : ℕ → ℕ → Type 0) (first word second low high : List ℕ) → words first word second low high → fact 0 1 → HoldsByNames two_runs first second fact
by_names fact first word second low high w f = record { a = 0; b = 1; named_first = ap Some w.0; named_second = ap Some w.2; holds = f }

-- half a million millionths, with d3 true and with d3 false
from_half : (x y z : Bool) → x ≡ true → y ≡ false → IsAtMost (pos 500000) 1000000 (mean (precision_of_two x z ∷ [])) (mean (precision_of_two y z ∷ []))
from_half x y true e f = rw (e, f) (omega (arith, ints))
from_half x y false e f = rw (e, f) (omega (arith, ints))

to_half : (x y z : Bool) → x ≡ true → y ≡ false → IsAtLeast (pos 500000) 1000000 (mean (precision_of_two x z ∷ [])) (mean (precision_of_two y z ∷ []))
to_half x y true e f = rw (e, f) (omega (arith, ints))
to_half x y false e f = rw (e, f) (omega (arith, ints))

least_half : (cs : List Completion) → IsCompletion one_topic cs → IsAtMost (pos 500000) 1000000 (run_mean (Precision 2) 0 one_topic cs) (run_mean (Precision 2) 1 one_topic cs)
least_half [] h = absurd h
least_half (c ∷ []) h = from_half (c.truth 0) (c.truth 1) (c.truth 2) (h.0 0 (lit< tt)) (h.0 1 (lit< tt))
least_half (c ∷ d ∷ cs) h = absurd h.1

most_half : (cs : List Completion) → IsCompletion one_topic cs → IsAtLeast (pos 500000) 1000000 (run_mean (Precision 2) 0 one_topic cs) (run_mean (Precision 2) 1 one_topic cs)
most_half [] h = absurd h
most_half (c ∷ []) h = to_half (c.truth 0) (c.truth 1) (c.truth 2) (h.0 0 (lit< tt)) (h.0 1 (lit< tt))
most_half (c ∷ d ∷ cs) h = absurd h.1

half_encloses : (low high : List ℕ) → codes "0.500000" ≡ low → codes "0.500000" ≡ high → EnclosesDifference (Precision 2) one_topic low high 0 1
unfolding digits
half_encloses low high l u = record { least = pos 500000; most = pos 500000; low_text = sym l; high_text = sym u; from_least = least_half; to_most = most_half }

pub pair_line_is_true : IsTrueLine (Precision 2) two_runs (marks_401 ∷ []) (codes "pair A above B 0.500000 0.500000")
pair_line_is_true = record {
  above = λ first second low high h. by_names _ first (codes "above") second low high (of_line first (codes "above") second low high h) a_is_always_above_b;
  below = λ first second low high h. absurd (different (codes "above") (codes "below") refl refl (of_line first (codes "below") second low high h).1);
  equal = λ first second low high h. absurd (different (codes "above") (codes "equal") refl refl (of_line first (codes "equal") second low high h).1);
  undecided = λ first second low high h. absurd (different (codes "above") (codes "open") refl refl (of_line first (codes "open") second low high h).1);
  exact = λ k e first word second low high h. let w = of_line first word second low high h in
      by_names _ first word second low high w (subst (λ x. SaysExactly (Precision 2) one_topic x 0 1) w.1 above_says_exactly);
  pair_bounds = λ first word second low high h. let w = of_line first word second low high h in by_names _ first word second low high w (half_encloses low high w.3 w.4);
  run_bounds = λ run low high h. let fields = h.0 in absurd (cc);
}

-- with `open` it is not
not_open : (x y : ℕ) → slice_get two_runs.runs x ≡ Some (codes "A") → slice_get two_runs.runs y ≡ Some (codes "B") → SaysExactly (Precision 2) one_topic (codes "open") x y → ⊥
not_open zero zero e f h = different (codes "A") (codes "B") refl refl (ap (λ name. unwrap_or name []) f)
not_open zero (suc zero) e f h = open_does_not_say_exactly h
not_open zero (suc (suc y)) e f h = absurd (cc)
not_open (suc zero) y e f h = different (codes "B") (codes "A") refl refl (ap (λ name. unwrap_or name []) e)
not_open (suc (suc x)) y e f h = absurd (cc)

pub line_that_says_open : IsTrueLine (Precision 2) two_runs (marks_401 ∷ []) (codes "pair A open B 0.500000 0.500000") → ⊥
line_that_says_open h =
    let two = h.exact 2 refl (codes "A") (codes "open") (codes "B") (codes "0.500000") (codes "0.500000") refl in
    not_open two.a two.b two.named_first two.named_second two.holds
