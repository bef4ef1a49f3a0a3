-- The numbers that the code reads are the ends.
use Rattle.std.proofs.Common.{◌≡◌, ℕ, ◌<◌, true, false, List, take, length, ℤ, pos, ◌-ℤ◌, ap, ◌∙◌}
use Rattle.desk_model.specs.Ranking.{IsRanking}
use Rattle.desk_model.specs.Extremes.{Ends, AreExtremes, AreBounds}
use Rattle.desk_model.specs.MeasureText.{IsMeasure}
use Rattle.desk_model.specs.Classes.{only_count, prefix_count, precision_least, precision_most}
use Rattle.desk_model.specs.declared.types.Mark.{Mark}
use Rattle.desk_model.specs.declared.types.MeasureName.TheVariants.{Precision}
use Rattle.desk_model.proofs.PrecisionEnds.{precision_extremes, precision_bounds}
use Rattle.topic_counts.specs.declared.span.Span.{Span}
use Rattle.topic_counts.proofs.Spans.{span, span_same}
use Rattle.measure_core.specs.Laws.{AreMet, IsMet}
use Rattle.measure_core.specs.Numbers.{exact_cell, exact_bounds}
use Rattle.measure_core.proofs.Cells.{cell, cell_same}
use Rattle.measure_core.proofs.Exact.{ends_are, bounds_are}

difference_read : (z : ℤ) (m n m' n' : ℕ) → z ≡ pos m -ℤ pos n → m ≡ m' → n ≡ n' → z ≡ pos m' -ℤ pos n'
difference_read z m n m' n' e f g = e ∙ ap (λ x. pos x -ℤ pos n) f ∙ ap (λ x. pos m' -ℤ pos x) g

pub extremes_read : (k : ℕ) (marks : List Mark) (a b : List ℕ) (low high : ℤ) (a_least a_most b_least b_most : ℕ) → 0 < k → IsRanking (length marks) a → IsRanking (length marks) b →
    low ≡ pos a_least -ℤ pos b_most → high ≡ pos a_most -ℤ pos b_least →
    a_least ≡ only_count false marks (take k a) (take k b) → a_most ≡ only_count true marks (take k a) (take k b) →
    b_least ≡ only_count false marks (take k b) (take k a) → b_most ≡ only_count true marks (take k b) (take k a) →
    AreExtremes (Precision k) k marks a b (record { least_lo = low; least_hi = low; most_lo = high; most_hi = high })
extremes_read k marks a b low high a_least a_most b_least b_most h ra rb el eh eal eam ebl ebm =
    let low_is : low ≡ precision_least k marks a b = difference_read low a_least b_most _ _ el eal ebm in
    let high_is : high ≡ precision_most k marks a b = difference_read high a_most b_least _ _ eh eam ebl in
    rw (low_is, high_is) (precision_extremes k marks a b h ra rb)

pub bounds_read : (k : ℕ) (marks : List Mark) (a : List ℕ) (low high : ℤ) (least most : ℕ) → 0 < k → IsRanking (length marks) a → low ≡ pos least → high ≡ pos most →
    least ≡ prefix_count false k marks a → most ≡ prefix_count true k marks a → AreBounds (Precision k) k marks a low high
bounds_read k marks a low high least most h r el eh fl fh =
    let low_is : low ≡ pos (prefix_count false k marks a) = el ∙ ap (λ x. pos x) fl in
    let high_is : high ≡ pos (prefix_count true k marks a) = eh ∙ ap (λ x. pos x) fh in
    rw (low_is, high_is) (precision_bounds k marks a h r)

-- ---- the numbers that the extremes determine
pub cell_is : (k : ℕ) (marks : List Mark) (a b : List ℕ) (low high : ℤ) (s t : Span) → IsMeasure (Precision k) → AreMet marks a b →
    AreExtremes (Precision k) k marks a b (record { least_lo = low; least_hi = low; most_lo = high; most_hi = high }) →
    s.lo ≡ low → s.hi ≡ low → t.lo ≡ high → t.hi ≡ high → cell s t ≡ exact_cell (Precision k) marks a b
cell_is k marks a b low high s t valid met known sl sh tl th =
    let exact = exact_cell (Precision k) marks a b in
    let same = ends_are (Precision k) marks a b _ valid tt met.first met.second known in
    cell_same s t exact.least exact.most
    (span_same s.lo exact.least.lo s.hi exact.least.hi (sl ∙ ap (λ (e : Ends). e.least_lo) same) (sh ∙ ap (λ (e : Ends). e.least_hi) same))
    (span_same t.lo exact.most.lo t.hi exact.most.hi (tl ∙ ap (λ (e : Ends). e.most_lo) same) (th ∙ ap (λ (e : Ends). e.most_hi) same))

pub bounds_read_are : (k : ℕ) (marks : List Mark) (a : List ℕ) (low high lo hi : ℤ) → IsMeasure (Precision k) → IsMet marks a → AreBounds (Precision k) k marks a low high →
    lo ≡ low → hi ≡ high → span lo hi ≡ exact_bounds (Precision k) marks a
bounds_read_are k marks a low high lo hi valid met known el eh =
    span_same lo low hi high el eh ∙ bounds_are (Precision k) marks a low high valid tt met.ranking known
