-- The cell, the bounds and the least case that the code makes are the stated ones.
use Rattle.std.proofs.Common.{◌≡◌, ℕ, nat_eq, Bool, List, length, ℤ, pos, neg_ℤ, refl, ap, ◌∙◌}
use Rattle.std.specs.List.{IsDistinct}
use Rattle.desk_model.specs.Completion.{with_picked}
use Rattle.desk_model.specs.Ranking.{rank}
use Rattle.desk_model.specs.declared.types.Mark.{Mark}
use Rattle.measure_laws.specs.AverageEnds.{average_least_lo, average_least_hi, average_truth}
use Rattle.measure_laws.specs.Candidates.{average_bound_lo, average_bound_hi}
use Rattle.topic_counts.specs.declared.span.Span.{Span}
use Rattle.topic_counts.proofs.Spans.{span, span_same}
use Rattle.measure_core.specs.Laws.{AreValues}
use Rattle.measure_core.proofs.Cells.{cell}
use Rattle.average_precision.specs.Least.{IsLeast, case_truth}
use Rattle.precision_candidates.specs.Cuts.{AreCuts}
use Rattle.average_precision.specs.Numbers.{average_least, average_cell, average_bounds}
use Rattle.average_precision.specs.RankCases.{is_picked_in}
use Rattle.precision_candidates.specs.Runs.{AreChosen}
use Rattle.precision_candidates.specs.declared.by_rank.Cuts.{Cuts}
use Rattle.average_precision.specs.declared.numbers.Case.{Case}
use Rattle.average_precision.specs.declared.numbers.Case.TheVariants.{OfNone, OfLow, OfHigh}
use Rattle.average_precision.specs.declared.numbers.Least.{Least}
use Rattle.precision_candidates.specs.declared.runs.Chosen.{Chosen}
use Rattle.precision_candidates.proofs.LastRanks.{high_by_rank, low_by_rank}

pub cell_is : (marks : List Mark) (a b : List ℕ) (least swapped : Least) (first second most : Span) → IsLeast marks a b least → IsLeast marks b a swapped → first.lo ≡ least.lo → first.hi ≡ least.hi →
    second.lo ≡ swapped.lo → second.hi ≡ swapped.hi → most.lo ≡ neg_ℤ second.hi → most.hi ≡ neg_ℤ second.lo → cell first most ≡ average_cell marks a b
unfolding average_cell
cell_is marks a b least swapped first second most h k fl fh sl sh ml mh =
    let lower : first ≡ average_least marks a b = span_same first.lo _ first.hi _ (fl ∙ h.lo) (fh ∙ h.hi) in
    let upper : most ≡ span (neg_ℤ (average_least_hi marks b a)) (neg_ℤ (average_least_lo marks b a)) =
    span_same most.lo _ most.hi _ (ml ∙ ap (λ z. neg_ℤ z) (sh ∙ k.hi)) (mh ∙ ap (λ z. neg_ℤ z) (sl ∙ k.lo)) in
    ap (λ (s : Span). cell s most) lower ∙ ap (cell (average_least marks a b)) upper

pub bounds_are : (marks : List Mark) (a docs : List ℕ) (chosen : Chosen) (lo hi : ℤ) → docs ≡ a → AreChosen marks docs chosen → lo ≡ pos chosen.low.value → hi ≡ pos chosen.high.value → span lo hi ≡ average_bounds marks a
unfolding average_bounds
bounds_are marks a docs chosen lo hi e h l u =
    span_same lo _ hi _
    (l ∙ ap (λ n. pos n) h.low.value ∙ ap (λ (ds : List ℕ). pos (average_bound_lo marks ds)) e)
    (u ∙ ap (λ n. pos n) h.high.value ∙ ap (λ (ds : List ℕ). pos (average_bound_hi marks ds)) e)

case_picked : (marks : List Mark) (a b : List ℕ) (first second : Cuts) (case : Case) (doc : ℕ) → IsDistinct nat_eq a → AreCuts marks a first → AreCuts marks b second →
    with_picked marks (λ d. is_picked_in case first (rank a d) second (rank b d)) doc ≡ case_truth marks a b case doc
case_picked marks a b first second OfNone doc d h k = refl
case_picked marks a b first second OfLow doc d h k = low_by_rank marks a first doc d h
case_picked marks a b first second OfHigh doc d h k = high_by_rank marks b second doc k

pub case_values : (marks : List Mark) (a b : List ℕ) (first second : Cuts) (least : Least) (values : List Bool) → IsDistinct nat_eq a → AreCuts marks a first → AreCuts marks b second → IsLeast marks a b least →
    AreValues (with_picked marks (λ d. is_picked_in least.kind first (rank a d) second (rank b d))) (length marks) values → AreValues (average_truth marks a b) (length marks) values
case_values marks a b first second least values d h k l v = record {
  count = v.count;
  each = λ doc lt. v.each doc lt ∙ case_picked marks a b first second least.kind doc d h k ∙ l.case_is doc;
}
