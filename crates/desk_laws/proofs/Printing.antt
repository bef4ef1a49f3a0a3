-- Printed numbers, names of measures, and the lines of a table.
use Rattle.std.proofs.Common.{◌≡◌, [], ◌∷◌, ◌++◌, refl, pos, negsuc, neg_ℤ, arith, lit<, lit≤}
use Rattle.std.specs.Prelude.{codes, None}
use Rattle.std.specs.Fmt.{digits}
use Rattle.desk_model.specs.MeasureText.{measure_text, IsDepth, IsPersistence, IsMeasure, IsTextOf}
use Rattle.desk_model.specs.declared.types.MeasureName.TheVariants.{Precision, Recall, Biased}
use Rattle.desk_model.specs.declared.types.Verdict.TheVariants.{Close}
use Rattle.topic_counts.specs.Numbers.{floor_of, ceiling_of}
use Rattle.desk_report.specs.Means.{decimal_text, ends_text}
use Rattle.desk_report.specs.Table.{word_of, table_lines, table_text}
use Rattle.desk_text.specs.Lines.{whole_lines}
use Rattle.desk_laws.specs.Example.{two_runs, sums}

-- ---- floors and ceilings
pub floor_of_minus_a_sixth : floor_of (neg_ℤ (pos 1000000)) 6 ≡ neg_ℤ (pos 166667)
floor_of_minus_a_sixth = refl

pub ceiling_of_minus_a_sixth : ceiling_of (neg_ℤ (pos 1000000)) 6 ≡ neg_ℤ (pos 166666)
ceiling_of_minus_a_sixth = refl

pub ceiling_of_two_sixths : ceiling_of (pos 2000000) 6 ≡ pos 333334
ceiling_of_two_sixths = refl

pub floor_of_zero : floor_of (pos 0) 6 ≡ pos 0
floor_of_zero = refl

-- ---- decimals, in millionths
pub zero_printed : decimal_text (pos 0) ≡ codes "0.000000"
unfolding digits
zero_printed = refl

pub one_and_a_half_printed : decimal_text (pos 1500000) ≡ codes "1.500000"
unfolding digits
one_and_a_half_printed = refl

pub minus_a_sixth_printed : decimal_text (neg_ℤ (pos 166667)) ≡ codes "-0.166667"
unfolding digits
minus_a_sixth_printed = refl

pub one_millionth_printed : decimal_text (pos 1) ≡ codes "0.000001"
unfolding digits
one_millionth_printed = refl

-- ---- both ends of a sum: unit 3 and two topics make six parts
pub ends_of_minus_one_and_two : ends_text 6 (negsuc 0) (pos 2) ≡ codes "-0.166667 0.333334"
unfolding digits
ends_of_minus_one_and_two = refl

-- one topic in units of 2: a half has no more than six digits, and both ends are the same
pub ends_of_a_half : ends_text 2 (pos 1) (pos 1) ≡ codes "0.500000 0.500000"
unfolding digits
ends_of_a_half = refl

pub ends_of_nothing : ends_text 6 (pos 0) (pos 0) ≡ codes "0.000000 0.000000"
unfolding digits
ends_of_nothing = refl

-- an upper end just below zero is printed as zero, without a sign
pub ends_just_below_zero : ends_text 1000000000000000000 (negsuc 0) (negsuc 0) ≡ codes "-0.000001 0.000000"
unfolding digits
ends_just_below_zero = refl

-- ---- names of measures
pub text_of_precision : measure_text (Precision 5) ≡ codes "P_5"
unfolding digits
text_of_precision = refl

pub text_of_recall : measure_text (Recall 1000) ≡ codes "recall_1000"
unfolding digits
text_of_recall = refl

pub text_of_a_half : measure_text (Biased 5 10) ≡ codes "rbp_0.5"
unfolding digits
text_of_a_half = refl

pub text_with_a_zero_after_the_point : measure_text (Biased 5 100) ≡ codes "rbp_0.05"
unfolding digits
text_with_a_zero_after_the_point = refl

pub text_with_a_zero_at_its_end : IsTextOf (Biased 5 10) (codes "rbp_0.50")
unfolding digits
text_with_a_zero_at_its_end = (1, refl, lit≤ tt)

pub depth_zero : IsDepth 0 → ⊥
depth_zero h = let e = h.0 in absurd (omega arith)

pub greatest_depth : IsDepth 10000
greatest_depth = (lit≤ tt, lit≤ tt)

pub a_half_is_a_persistence : IsMeasure (Biased 5 10)
a_half_is_a_persistence = record { decimals = 1; some = lit≤ tt; few = lit≤ tt; power = refl; positive = lit< tt; below_one = lit< tt; shortest = λ e. absurd (omega arith) }

pub one_is_no_persistence : IsPersistence 10 10 → ⊥
one_is_no_persistence h = let e = h.below_one in absurd (omega arith)

pub zero_is_no_persistence : IsPersistence 0 10 → ⊥
zero_is_no_persistence h = let e = h.positive in absurd (omega arith)

-- a half is kept as 5/10 and not as 50/100
pub fifty_hundredths : IsPersistence 50 100 → ⊥
fifty_hundredths h = h.shortest refl

-- ---- the table of the example under P_2
pub lines_of_the_table :
    table_lines two_runs (Precision 2) 1 None (pos 2)
    (record { lo = pos 1; hi = pos 2 } ∷ record { lo = pos 0; hi = pos 1 } ∷ [])
    (sums (pos 1) (pos 1) (pos 1) (pos 1) ∷ [])
    ≡ codes "measure P_2" ∷ codes "level 1" ∷ codes "topics 1" ∷ codes "runs 2"
    ∷ codes "run A 0.500000 1.000000" ∷ codes "run B 0.000000 0.500000"
    ∷ codes "pair A above B 0.500000 0.500000" ∷ []
unfolding digits table_lines
lines_of_the_table = refl

-- one run: no pair, and each line is ended
pub text_of_one_run :
    table_text (record { topics = two_runs.topics; runs = codes "A" ∷ []; rankings = ((0 ∷ 2 ∷ []) ∷ []) ∷ [] }) (Precision 2) 1 None (pos 2) (record { lo = pos 1; hi = pos 2 } ∷ []) []
    ≡ codes "measure P_2" ++ 10 ∷ codes "level 1" ++ 10 ∷ codes "topics 1" ++ 10 ∷ codes "runs 1" ++ 10 ∷ codes "run A 0.500000 1.000000" ++ 10 ∷ []
unfolding digits table_lines table_text
text_of_one_run = refl

pub words_of_verdicts : word_of Close ≡ codes "close"
words_of_verdicts = refl

-- ---- lines among received bytes: the last one may be cut short
pub whole_line_and_a_prefix : whole_lines (codes "level 1" ++ 10 ∷ codes "topi") ≡ codes "level 1" ∷ []
whole_line_and_a_prefix = refl

pub no_whole_line : whole_lines (codes "measure P_") ≡ []
no_whole_line = refl

pub nothing_received : whole_lines [] ≡ []
nothing_received = refl
