-- The numbers of R-precision, from the least candidate.
use Rattle.std.proofs.Common.{◌≡◌, ℕ, ◌+◌, ◌^◌, ◌<◌, ◌≤◌, max, true, false, List, [], length, ℤ, pos, ◌*ℤ◌, ◌-ℤ◌, arith, ap, ◌∙◌, sym, subst}
use Rattle.std.specs.List.{IsDistinct}
use Rattle.std.proofs.lemmas.List.Elements.{All-nil}
use Rattle.desk_model.specs.Completion.{with_picked}
use Rattle.desk_model.specs.Fraction.{over}
use Rattle.desk_model.specs.Ranking.{IsRanking}
use Rattle.desk_model.specs.Score.{true_among, true_count}
use Rattle.desk_model.specs.declared.types.Mark.{Mark}
use Rattle.desk_model.specs.declared.types.MeasureName.TheVariants.{RPrecision}
use Rattle.measure_laws.specs.Classes.{open_in, size_of, judged_count}
use Rattle.measure_laws.specs.RprecCase.{greedy_truth, rprec_truth, rprec_count}
use Rattle.measure_laws.proofs.RecallEnds.{over-max}
use Rattle.measure_laws.proofs.RprecEnds.{greedy_is}
use Rattle.topic_counts.specs.Ends.{IsFloor, IsCeiling, IsShort}
use Rattle.topic_counts.specs.Numbers.{difference_span}
use Rattle.topic_counts.specs.declared.span.Span.{Span}
use Rattle.measure_core.specs.Laws.{AreMet}
use Rattle.measure_core.specs.Numbers.{exact_least}
use Rattle.measure_core.proofs.Exact.{exact_laws, modest_short}
use Rattle.topic_counts.specs.declared.counts.Counts.{Counts}
use Rattle.measure_laws.proofs.Ratios.{out_of}
use Rattle.topic_counts.proofs.Ratio.{ratio_read}
use Rattle.rprec.specs.declared.greedy.DepthCandidate.{DepthCandidate}
use Rattle.rprec.specs.Greedy.{AreTopic, IsLeast, IsWithinOne}
use Rattle.measure_laws.proofs.LeastDifferences.{among_few}
use Rattle.rprec.proofs.Choices.{all_open}

pub least_is : (marks : List Mark) (a b : List ℕ) (c : DepthCandidate) (num den : ℤ) (s : Span) → IsLeast marks a b c → num ≡ pos c.first -ℤ pos c.second → den ≡ pos (max 1 c.count) →
    IsFloor (pos (10 ^ 18) *ℤ num) den s.lo → IsCeiling (pos (10 ^ 18) *ℤ num) den s.hi → s ≡ exact_least RPrecision marks a b
unfolding exact_least
least_is marks a b c num den s h en ed floor ceiling =
    let truth = rprec_truth marks a b in
    let r = c.count in
    let lead : true_among truth r a + c.second ≡ true_among truth r b + c.first = subst (λ (t : ℕ). true_among (greedy_truth marks a b t) r a + c.second ≡ true_among (greedy_truth marks a b t) r b + c.first) h.chosen h.gains.same in
    let total : true_count truth (length marks) ≡ r =
    (greedy_is marks a b (rprec_count marks a b) (subst (λ (t : ℕ). judged_count marks ≤ t) h.chosen h.low) (subst (λ (t : ℕ). t ≤ judged_count marks + size_of (length marks) (open_in marks (λ _. true))) h.chosen h.high)).total ∙ sym h.chosen in
    let here : s ≡ difference_span (10 ^ 18) (over (true_among truth r a) r) (over (true_among truth r b) r) =
    ratio_read (10 ^ 18) (true_among truth r a) (true_among truth r b) (max 1 r) c.first c.second num den s (omega arith) lead en ed floor ceiling
    ∙ ap (λ f. difference_span (10 ^ 18) f (out_of (true_among truth r b) (max 1 r))) (sym (over-max (true_among truth r a) r (among_few truth r a)))
    ∙ ap (λ f. difference_span (10 ^ 18) (over (true_among truth r a) r) f) (sym (over-max (true_among truth r b) r (among_few truth r b))) in
    subst (λ (t : ℕ). s ≡ difference_span (10 ^ 18) (over (true_among truth t a) t) (over (true_among truth t b) t)) (sym total) here

pub least_short : (marks : List Mark) (a b : List ℕ) (s : Span) → AreMet marks a b → s ≡ exact_least RPrecision marks a b → IsShort s
least_short marks a b s met e = subst IsShort (sym e) (modest_short (exact_least RPrecision marks a b) ((exact_laws RPrecision tt tt).cell_modest marks a b met).least)

-- a run of no document
pub nothing_ranked : (n : ℕ) → IsRanking n []
unfolding IsDistinct
nothing_ranked n = record { distinct = tt; within = All-nil (λ doc. doc < n); short = omega arith }

-- the counts of all documents
pub topic_is : (marks : List Mark) (all : Counts) → all.relevant ≡ true_count (with_picked marks (λ _. false)) (length marks) → all.relevant + all.unjudged ≡ true_count (with_picked marks (λ _. true)) (length marks) → AreTopic marks all
topic_is marks all e f = record { relevant = e; unjudged = omega (arith, e, f, all_open marks) }

-- the difference of a least candidate is one of two shares
pub within_one : (marks : List Mark) (a b : List ℕ) (c : DepthCandidate) → IsLeast marks a b c → IsWithinOne c
within_one marks a b c h =
    let truth = greedy_truth marks a b c.count in
    record { low = omega (arith, h.gains.same, among_few truth c.count a, among_few truth c.count b); high = omega (arith, h.gains.same, among_few truth c.count a, among_few truth c.count b) }
