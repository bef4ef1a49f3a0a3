-- The least case of each measure but rank-biased precision has the least difference of all completions.
use Rattle.measure_laws.proofs.AverageLeast.{truth-Completes}
use Rattle.std.proofs.Common.{ℕ, ◌+◌, ◌*◌, ◌<◌, ◌≤◌, nat_lt, List, length, take, arith}
use Rattle.std.proofs.Math.Nat.{mul-le-mul_left}
use Rattle.std.proofs.lemmas.Bool.{ltb-true, ltb-false}
use Rattle.desk_model.specs.Completion.{with_picked, Completes}
use Rattle.desk_model.specs.Ranking.{IsRanking, rank}
use Rattle.desk_model.specs.Fraction.{over}
use Rattle.desk_model.specs.Score.{true_among}
use Rattle.desk_model.proofs.Counts.{IsDistinct-take}
use Rattle.desk_model.proofs.Completions.{with_picked-Completes}
use Rattle.desk_model.proofs.PrecisionEnds.{least_bound, least_attained, prefix_within, over-pos}
use Rattle.measure_laws.specs.Prefixes.{only_second}
use Rattle.measure_laws.specs.Differences.{IsNoGreater, IsLeastCase}
use Rattle.measure_laws.specs.Ranks.{comes_before}
use Rattle.measure_laws.specs.Cases.{recall_pick, least_truth}
use Rattle.measure_laws.specs.ReciprocalCase.{is_choice, reciprocal_choice}
use Rattle.measure_laws.specs.RprecCase.{greedy_pick, rprec_count}
use Rattle.desk_model.specs.MeasureText.{IsMeasure}
use Rattle.measure_laws.specs.Measures.{IsExactMeasure}
use Rattle.measure_laws.proofs.RecallEnds.{recall_least_case}
use Rattle.measure_laws.proofs.ReciprocalEnds.{reciprocal_least_case}
use Rattle.measure_laws.proofs.RprecEnds.{rprec_least_case}
use Rattle.desk_model.specs.declared.types.Mark.{Mark}
use Rattle.desk_model.specs.declared.types.MeasureName.{MeasureName}
use Rattle.desk_model.specs.declared.types.MeasureName.TheVariants.{Precision, Recall, RPrecision, Reciprocal, Biased, AveragePrecision}

same_denominator : (a b a' b' k : ℕ) → 0 < k → a' + b ≤ a + b' → IsNoGreater (over a' k) (over b' k) (over a k) (over b k)
same_denominator a b a' b' k h le =
    rw (over-pos a' k h, over-pos b' k h, over-pos a k h, over-pos b k h) (omega (arith, mul-le-mul_left (k * (k * k)) le))

pub precision_least_case : (k : ℕ) (marks : List Mark) (a b : List ℕ) → 0 < k → IsRanking (length marks) a → IsRanking (length marks) b → IsLeastCase (Precision k) marks a b (with_picked marks (only_second k a b))
precision_least_case k marks a b h ra rb =
    let dx = IsDistinct-take k a ra.distinct in
    let dy = IsDistinct-take k b rb.distinct in
    let best = with_picked marks (only_second k a b) in
    record {
      completes = with_picked-Completes marks (only_second k a b);
      least = λ truth _ _ c.
          same_denominator (true_among truth k a) (true_among truth k b) (true_among best k a) (true_among best k b) k h
          (omega (arith, least_attained marks (take k a) (take k b) dx dy, least_bound marks truth (take k a) (take k b) dx dy (prefix_within k (length marks) a ra) (prefix_within k (length marks) b rb) c));
    }

pub recall_case : (k : ℕ) (marks : List Mark) (a b : List ℕ) → IsRanking (length marks) a → IsRanking (length marks) b → IsLeastCase (Recall k) marks a b (least_truth (Recall k) marks a b)
recall_case k marks a b ra rb =
    let truth = with_picked marks (only_second k a b) in
    let even = least_attained marks (take k a) (take k b) (IsDistinct-take k a ra.distinct) (IsDistinct-take k b rb.distinct) in
    recall_least_case k marks a b ra rb (nat_lt (true_among truth k b) (true_among truth k a))
    (λ e. omega (arith, even, ltb-true (true_among truth k b) (true_among truth k a) e))
    (λ e. omega (arith, even, ltb-false (true_among truth k b) (true_among truth k a) e))

pub least_case_is_least : (m : MeasureName) (marks : List Mark) (a b : List ℕ) → IsMeasure m → IsExactMeasure m → IsRanking (length marks) a → IsRanking (length marks) b → IsLeastCase m marks a b (least_truth m marks a b)
least_case_is_least (Precision k) marks a b h e ra rb = precision_least_case k marks a b h.0 ra rb
least_case_is_least (Recall k) marks a b h e ra rb = recall_case k marks a b ra rb
least_case_is_least RPrecision marks a b h e ra rb = rprec_least_case marks a b ra rb
least_case_is_least Reciprocal marks a b h e ra rb = reciprocal_least_case marks a b ra rb
least_case_is_least (Biased top bottom) marks a b h e ra rb = absurd e
least_case_is_least AveragePrecision marks a b h e ra rb = absurd e

-- the least case is a completion
pub least_truth-Completes : (m : MeasureName) (marks : List Mark) (a b : List ℕ) → Completes marks (least_truth m marks a b)
least_truth-Completes (Precision k) marks a b = with_picked-Completes marks (only_second k a b)
least_truth-Completes (Recall k) marks a b = with_picked-Completes marks (recall_pick k marks a b)
least_truth-Completes RPrecision marks a b = with_picked-Completes marks (greedy_pick marks a b (rprec_count marks a b))
least_truth-Completes Reciprocal marks a b = with_picked-Completes marks (is_choice (reciprocal_choice marks a b))
least_truth-Completes (Biased top bottom) marks a b = with_picked-Completes marks (λ doc. comes_before (rank b doc) (rank a doc))
least_truth-Completes AveragePrecision marks a b = truth-Completes marks a b
