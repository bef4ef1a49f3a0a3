-- The least case of recall, in the counts that the code reads.
use Rattle.std.proofs.Common.{◌≡◌, ℕ, zero, suc, ◌+◌, ◌-◌, ◌^◌, ◌≤◌, max, Bool, true, false, nat_lt, List, [], take, length, ℤ, pos, neg_ℤ, ◌*ℤ◌, ◌-ℤ◌, arith, refl, ap, ◌∙◌, sym, subst}
use Rattle.std.specs.Prelude.{if◌then◌else◌}
use Rattle.std.proofs.Math.Bool.{and-true}
use Rattle.desk_model.specs.Classes.{only_count, prefix_count}
use Rattle.desk_model.specs.Completion.{with_picked}
use Rattle.desk_model.specs.Fraction.{over}
use Rattle.desk_model.specs.Ranking.{IsRanking}
use Rattle.desk_model.specs.Score.{true_count, true_among}
use Rattle.desk_model.specs.MeasureText.{IsMeasure}
use Rattle.desk_model.specs.declared.types.Mark.{Mark}
use Rattle.desk_model.specs.declared.types.MeasureName.TheVariants.{Recall}
use Rattle.desk_model.proofs.Counts.{count_by-agree, IsDistinct-take}
use Rattle.desk_model.proofs.PrecisionEnds.{prefix_within}
use Rattle.measure_laws.specs.Cases.{recall_pick}
use Rattle.measure_laws.specs.Prefixes.{only_second}
use Rattle.measure_laws.proofs.LeastDifferences.{chosen_is, leads_is, one_more}
use Rattle.measure_laws.proofs.RecallEnds.{every, over-max, true_count_classes, count_le_universe}
use Rattle.topic_counts.specs.Ends.{IsFloor, IsCeiling, IsShort}
use Rattle.topic_counts.specs.Numbers.{difference_span}
use Rattle.topic_counts.specs.declared.span.Span.{Span}
use Rattle.topic_counts.proofs.Spans.{span, span_same}
use Rattle.measure_core.specs.Laws.{AreMet}
use Rattle.measure_core.specs.Numbers.{exact_least, exact_cell, exact_bounds}
use Rattle.measure_core.proofs.Exact.{exact_laws, modest_short, IsRanking-empty}
use Rattle.topic_counts.specs.declared.counts.Counts.{Counts}
use Rattle.measure_core.proofs.Cells.{cell}
use Rattle.topic_counts.specs.Own.{AreCountsOf}
use Rattle.recall.specs.LeastCase.{AreCounts, least_relevant}
use Rattle.measure_laws.proofs.Ratios.{out_of}
use Rattle.topic_counts.proofs.Ratio.{ratio_read}

-- ---- the ends
pub least_is : (k : ℕ) (marks : List Mark) (a b : List ℕ) (first second all : Counts) (num den : ℤ) (s : Span) → AreCounts k marks a b first second all →
    num ≡ pos first.relevant -ℤ pos (second.relevant + second.unjudged) → den ≡ pos (max 1 (least_relevant first second all)) →
    IsFloor (pos (10 ^ 18) *ℤ num) den s.lo → IsCeiling (pos (10 ^ 18) *ℤ num) den s.hi → s ≡ exact_least (Recall k) marks a b
unfolding exact_least
least_is k marks a b first second all num den s h en ed floor ceiling =
    let n = length marks in
    let truth = with_picked marks (recall_pick k marks a b) in
    let before = with_picked marks (only_second k a b) in
    let v = nat_lt (true_among before k b) (true_among before k a) in
    let chosen = chosen_is v k marks a b h.ranking_first h.ranking_second in
    let led : nat_lt (second.relevant + second.unjudged) first.relevant ≡ v = leads_is k marks a b first.relevant (second.relevant + second.unjudged) h.ranking_first h.ranking_second h.first.least h.second.most in
    let total : true_count truth n ≡ (if v then true_count (with_picked marks (λ _. true)) n - first.unjudged else true_count (with_picked marks (λ _. false)) n + second.unjudged) =
    chosen.total first.unjudged second.unjudged (omega (arith, h.first.least, h.first.most)) (omega (arith, h.second.least, h.second.most)) in
    let r : least_relevant first second all ≡ true_count truth n =
    ap (λ (t : Bool). if t then all.relevant + all.unjudged - first.unjudged else all.relevant + second.unjudged) led
    ∙ ap (λ (m : ℕ). if v then m - first.unjudged else all.relevant + second.unjudged) h.all.most
    ∙ ap (λ (m : ℕ). if v then true_count (with_picked marks (λ _. true)) n - first.unjudged else m + second.unjudged) h.all.least ∙ sym total in
    let lead : true_among truth k a + (second.relevant + second.unjudged) ≡ true_among truth k b + first.relevant = omega (arith, chosen.lead, h.first.least, h.second.most) in
    let x : over (true_among truth k a) (true_count truth n) ≡ out_of (true_among truth k a) (max 1 (true_count truth n)) =
    over-max (true_among truth k a) (true_count truth n) (count_le_universe truth n (take k a) (IsDistinct-take k a h.ranking_first.distinct) (prefix_within k n a h.ranking_first)) in
    let y : over (true_among truth k b) (true_count truth n) ≡ out_of (true_among truth k b) (max 1 (true_count truth n)) =
    over-max (true_among truth k b) (true_count truth n) (count_le_universe truth n (take k b) (IsDistinct-take k b h.ranking_second.distinct) (prefix_within k n b h.ranking_second)) in
    ratio_read (10 ^ 18) (true_among truth k a) (true_among truth k b) (max 1 (true_count truth n)) first.relevant (second.relevant + second.unjudged) num den s (one_more (true_count truth n)) lead en
    (ed ∙ ap (λ (m : ℕ). pos (max 1 m)) r) floor ceiling
    ∙ ap (λ f. difference_span (10 ^ 18) f (out_of (true_among truth k b) (max 1 (true_count truth n)))) (sym x)
    ∙ ap (λ f. difference_span (10 ^ 18) (over (true_among truth k a) (true_count truth n)) f) (sym y)

-- ---- counts of a run's first k, against a run with no documents
pub own_within : (k : ℕ) (marks : List Mark) (a b : List ℕ) (first all : ℕ) → IsRanking (length marks) a → IsRanking (length marks) b → first ≡ only_count true marks (take k a) (take k b) →
    all ≡ true_count (with_picked marks (λ _. true)) (length marks) → first ≤ all
own_within k marks a b first all ra rb ef ea =
    omega (arith, ef, ea, true_count_classes (with_picked marks (λ _. true)) (length marks) (take k a) (take k b) (IsDistinct-take k a ra.distinct) (IsDistinct-take k b rb.distinct) (prefix_within k (length marks) a ra) (prefix_within k (length marks) b rb))

take_none : (k : ℕ) → take {A = ℕ} k [] ≡ []
take_none zero = refl
take_none (suc k) = refl

-- against a run with no documents all are a run's own
pub prefix_alone : (taken : Bool) (k : ℕ) (marks : List Mark) (a : List ℕ) → prefix_count taken k marks a ≡ only_count taken marks (take k a) (take k [])
prefix_alone taken k marks a =
    sym (ap (λ (ys : List ℕ). only_count taken marks (take k a) ys) (take_none k) ∙ count_by-agree _ _ (take k a) (every _ (λ d. and-true (with_picked marks (λ _. taken) d)) (take k a)))

pub none_alone : (taken : Bool) (k : ℕ) (marks : List Mark) (a : List ℕ) → 0 ≡ only_count taken marks (take k []) (take k a)
none_alone taken k marks a = sym (ap (λ (xs : List ℕ). only_count taken marks xs (take k a)) (take_none k))

-- ---- the ends of the least difference are small
pub least_short : (k : ℕ) (marks : List Mark) (a b : List ℕ) (s : Span) → IsMeasure (Recall k) → AreMet marks a b → s ≡ exact_least (Recall k) marks a b → IsShort s
least_short k marks a b s valid met e = subst IsShort (sym e) (modest_short (exact_least (Recall k) marks a b) ((exact_laws (Recall k) valid tt).cell_modest marks a b met).least)

-- ---- the counts that the code makes
-- of two runs, also swapped
pub counts_swapped : (k : ℕ) (marks : List Mark) (a b : List ℕ) (first second all : Counts) → AreCounts k marks a b first second all → AreCounts k marks b a second first all
counts_swapped k marks a b first second all h = record { ranking_first = h.ranking_second; ranking_second = h.ranking_first; first = h.second; second = h.first; all = h.all }

-- of one run, and none of a run with no documents
abbrev pub none_of_them : Counts
none_of_them = record { relevant = 0; unjudged = 0 }

pub counts_alone : (k : ℕ) (marks : List Mark) (a : List ℕ) (prefix all : Counts) → IsRanking (length marks) a →
    AreCountsOf (prefix_count false k marks a) (prefix_count true k marks a) prefix → AreCountsOf (true_count (with_picked marks (λ _. false)) (length marks)) (true_count (with_picked marks (λ _. true)) (length marks)) all →
    AreCounts k marks a [] prefix none_of_them all
counts_alone k marks a prefix all ra h ha = record {
  ranking_first = ra;
  ranking_second = IsRanking-empty (length marks);
  first = record { least = h.least ∙ prefix_alone false k marks a; most = h.most ∙ prefix_alone true k marks a };
  second = record { least = none_alone false k marks a; most = none_alone true k marks a };
  all = ha;
}

-- no run has more documents of its own than there are
pub own_few : (k : ℕ) (marks : List Mark) (a b : List ℕ) (first second all : Counts) → AreCounts k marks a b first second all → first.relevant + first.unjudged ≤ all.relevant + all.unjudged
own_few k marks a b first second all h = own_within k marks a b (first.relevant + first.unjudged) (all.relevant + all.unjudged) h.ranking_first h.ranking_second h.first.most h.all.most

-- ---- the numbers that they give
pub cell_is : (k : ℕ) (marks : List Mark) (a b : List ℕ) (s t opposite : Span) → s ≡ exact_least (Recall k) marks a b → t ≡ exact_least (Recall k) marks b a →
    opposite.lo ≡ neg_ℤ t.hi → opposite.hi ≡ neg_ℤ t.lo → cell s opposite ≡ exact_cell (Recall k) marks a b
cell_is k marks a b s t opposite es et el eh =
    let other = exact_least (Recall k) marks b a in
    ap (λ (x : Span). cell x opposite) es
    ∙ ap (λ (x : Span). cell (exact_least (Recall k) marks a b) x) (span_same opposite.lo (neg_ℤ other.hi) opposite.hi (neg_ℤ other.lo) (el ∙ ap (λ (x : Span). neg_ℤ x.hi) et) (eh ∙ ap (λ (x : Span). neg_ℤ x.lo) et))

pub bounds_is : (k : ℕ) (marks : List Mark) (a : List ℕ) (s t : Span) (lo hi : ℤ) → s ≡ exact_least (Recall k) marks a [] → t ≡ exact_least (Recall k) marks [] a →
    lo ≡ s.lo → hi ≡ neg_ℤ t.lo → span lo hi ≡ exact_bounds (Recall k) marks a
bounds_is k marks a s t lo hi es et el eh =
    span_same lo (exact_least (Recall k) marks a []).lo hi (neg_ℤ (exact_least (Recall k) marks [] a).lo) (el ∙ ap (λ (x : Span). x.lo) es) (eh ∙ ap (λ (x : Span). neg_ℤ x.lo) et)
