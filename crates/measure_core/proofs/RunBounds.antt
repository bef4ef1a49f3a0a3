-- The bounds of one run, where one completion has the least score and another the greatest.
use Rattle.std.proofs.Common.{ℕ, ◌^◌, ◌<◌, ◌≤◌, Bool, List, [], length, lit≤}
use Rattle.desk_model.specs.Completion.{Completes}
use Rattle.desk_model.specs.Fraction.{Fraction, over}
use Rattle.desk_model.specs.Score.{score}
use Rattle.desk_model.specs.Extremes.{InEveryScore, AreBounds}
use Rattle.desk_model.proofs.Topics.{score-den, over-den}
use Rattle.measure_laws.proofs.LeastEnds.{at_most_no_greater, at_least_no_greater}
use Rattle.measure_laws.proofs.ReciprocalEnds.{IsAtMostOther, from_parts, same_order}
use Rattle.topic_counts.specs.Numbers.{difference_span}
use Rattle.topic_counts.proofs.Spans.{difference_floor, difference_ceiling}
use Rattle.measure_core.specs.Laws.{SpanIsModest}
use Rattle.measure_core.proofs.Exact.{difference_modest}
use Rattle.desk_model.specs.declared.types.Mark.{Mark}
use Rattle.desk_model.specs.declared.types.MeasureName.{MeasureName}
use Rattle.topic_counts.specs.declared.span.Span.{Span}

-- the floor of unit times a score, and the ceiling of unit times another
abbrev pub score_bounds : ℕ → Fraction → Fraction → Span
score_bounds u low high = record { lo = (difference_span u low (over 0 1)).lo; hi = (difference_span u high (over 0 1)).hi }

pub run_bounds : (m : MeasureName) (u : ℕ) (marks : List Mark) (a : List ℕ) (low high : ℕ → Bool) → Completes marks low → Completes marks high →
    InEveryScore m marks a (λ v. IsAtMostOther (score m (length marks) low a []) v) → InEveryScore m marks a (λ v. IsAtMostOther v (score m (length marks) high a [])) →
    let bounds = score_bounds u (score m (length marks) low a []) (score m (length marks) high a []) in AreBounds m u marks a bounds.lo bounds.hi
run_bounds m u marks a low high low_done high_done least greatest =
    let n = length marks in
    let zero = over 0 1 in
    let x = score m n low a [] in
    let y = score m n high a [] in
    let floor = difference_floor u x zero (score-den m n low a []) (over-den 0 1) in
    let ceiling = difference_ceiling u y zero (score-den m n high a []) (over-den 0 1) in
    record {
      low = record {
        so = λ truth tail c.
            let v = score m n truth a tail in
            at_most_no_greater _ u x zero v zero (score-den m n low a []) (over-den 0 1) floor.so (from_parts x zero v zero (least truth tail c) (same_order zero));
        others = λ w h. floor.others w (h low [] low_done);
      };
      high = record {
        so = λ truth tail c.
            let v = score m n truth a tail in
            at_least_no_greater _ u v zero y zero (score-den m n high a []) (over-den 0 1) ceiling.so (from_parts v zero y zero (greatest truth tail c) (same_order zero));
        others = λ w h. ceiling.others w (h high [] high_done);
      };
    }

pub score_bounds_modest : (u : ℕ) (x y : Fraction) → u ≤ 10 ^ 18 → 0 < x.den → 0 < y.den → x.num ≤ x.den → y.num ≤ y.den → SpanIsModest (score_bounds u x y)
score_bounds_modest u x y h px py hx hy = ((difference_modest u x (over 0 1) h px (over-den 0 1) hx (lit≤ tt)).0, (difference_modest u y (over 0 1) h py (over-den 0 1) hy (lit≤ tt)).1)
