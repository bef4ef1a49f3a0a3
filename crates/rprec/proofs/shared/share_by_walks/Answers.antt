use Rattle.std.proofs.Common.{◌≤◌, drop, arith}
use Rattle.desk_model.specs.declared.placed.Placed.{Placed}
use Rattle.rprec.proofs.Flags.{none_left}
use Rattle.rprec.proofs.Strands.{above_apart, at_most_one, below_apart, both_in, counted_strands_end, counted_strands_start, counted_swapped, is_above, is_below, lower_walk, next_places, strand_walked, walk_stepped}
use Rattle.rprec.proofs.shared.share_by_walks.Goals as goal

abbrev nothing : Placed
nothing = record { doc = 0; rank = 0 }

pub loop-i-init : goal.loop-i-init
loop-i-init c = record {
  low_within = omega arith;
  other_low_within = omega arith;
  high_within = omega arith;
  other_high_within = omega arith;
  strands =
      counted_strands_start c.args.known.now.marks.now c.middle_document-middle.result c.args.known.now.a.now c.args.known.now.b.now c.args.known.now.first_places.now c.args.known.now.second_places.now c.cut.result.0.now c.cut-2.result.0.now c.cut.result.1.now c.cut-2.result.1.now c.args.counts.now
      c.args.known.now.met.first c.args.known.now.met.second
      (record { lower = c.cut.ensures.ascending_below; upper = c.cut.ensures.ascending_above; low = c.cut.ensures.below; high = c.cut.ensures.above })
      (record { lower = c.cut-2.ensures.ascending_below; upper = c.cut-2.ensures.ascending_above; low = c.cut-2.ensures.below; high = c.cut-2.ensures.above })
      c.args.known.now.first_by_document.ranks c.args.known.now.second_by_document.ranks c.requires.none c.requires.first c.requires.second;
}

pub enter-requires-clause-first_low : goal.enter-requires-clause-first_low
enter-requires-clause-first_low c =
    (next_places c.args.known.now.marks.now (is_below c.middle_document-middle.result) (both_in (drop c.loop-i.k c.cut.result.1.now) (drop c.loop-i.l c.cut-2.result.1.now)) c.args.known.now.a.now c.args.known.now.b.now c.cut.result.0.now c.cut-2.result.0.now c.loop-i.i c.loop-i.j nothing c.loop-i.counts c.loop-i-test.true c.if-j-other_low.true (lower_walk _ _ _ _ _ _ _ _ _ _ c.loop-i.invariant.strands)).first_low

pub enter-requires-clause-first_high : goal.enter-requires-clause-first_high
enter-requires-clause-first_high c =
    (next_places c.args.known.now.marks.now (is_below c.middle_document-middle.result) (both_in (drop c.loop-i.k c.cut.result.1.now) (drop c.loop-i.l c.cut-2.result.1.now)) c.args.known.now.a.now c.args.known.now.b.now c.cut.result.0.now c.cut-2.result.0.now c.loop-i.i c.loop-i.j nothing c.loop-i.counts c.loop-i-test.true c.if-j-other_low.true (lower_walk _ _ _ _ _ _ _ _ _ _ c.loop-i.invariant.strands)).first_high

pub enter-requires-clause-second_low : goal.enter-requires-clause-second_low
enter-requires-clause-second_low c =
    (next_places c.args.known.now.marks.now (is_below c.middle_document-middle.result) (both_in (drop c.loop-i.k c.cut.result.1.now) (drop c.loop-i.l c.cut-2.result.1.now)) c.args.known.now.a.now c.args.known.now.b.now c.cut.result.0.now c.cut-2.result.0.now c.loop-i.i c.loop-i.j nothing c.loop-i.counts c.loop-i-test.true c.if-j-other_low.true (lower_walk _ _ _ _ _ _ _ _ _ _ c.loop-i.invariant.strands)).second_low

pub enter-requires-clause-second_high : goal.enter-requires-clause-second_high
enter-requires-clause-second_high c =
    (next_places c.args.known.now.marks.now (is_below c.middle_document-middle.result) (both_in (drop c.loop-i.k c.cut.result.1.now) (drop c.loop-i.l c.cut-2.result.1.now)) c.args.known.now.a.now c.args.known.now.b.now c.cut.result.0.now c.cut-2.result.0.now c.loop-i.i c.loop-i.j nothing c.loop-i.counts c.loop-i-test.true c.if-j-other_low.true (lower_walk _ _ _ _ _ _ _ _ _ _ c.loop-i.invariant.strands)).second_high

pub enter-requires-clause-known : goal.enter-requires-clause-known
enter-requires-clause-known c =
    (next_places c.args.known.now.marks.now (is_below c.middle_document-middle.result) (both_in (drop c.loop-i.k c.cut.result.1.now) (drop c.loop-i.l c.cut-2.result.1.now)) c.args.known.now.a.now c.args.known.now.b.now c.cut.result.0.now c.cut-2.result.0.now c.loop-i.i c.loop-i.j nothing c.loop-i.counts c.loop-i-test.true c.if-j-other_low.true (lower_walk _ _ _ _ _ _ _ _ _ _ c.loop-i.invariant.strands)).known

pub enter-requires-clause-few : goal.enter-requires-clause-few
enter-requires-clause-few c =
    (next_places c.args.known.now.marks.now (is_below c.middle_document-middle.result) (both_in (drop c.loop-i.k c.cut.result.1.now) (drop c.loop-i.l c.cut-2.result.1.now)) c.args.known.now.a.now c.args.known.now.b.now c.cut.result.0.now c.cut-2.result.0.now c.loop-i.i c.loop-i.j nothing c.loop-i.counts c.loop-i-test.true c.if-j-other_low.true (lower_walk _ _ _ _ _ _ _ _ _ _ c.loop-i.invariant.strands)).few

pub enter-requires-in-loop-i-clause-first_low : goal.enter-requires-in-loop-i-clause-first_low
enter-requires-in-loop-i-clause-first_low c =
    let walked = walk_stepped c.args.known.now.marks.now (is_below c.middle_document-middle.result) (both_in (drop c.loop-i.k c.cut.result.1.now) (drop c.loop-i.l c.cut-2.result.1.now)) c.args.known.now.a.now c.args.known.now.b.now c.cut.result.0.now c.cut-2.result.0.now c.loop-i.i c.loop-i.j c.passed-i.result c.passed-j.result nothing c.loop-i.counts c.enter.new.counts c.loop-i-test.true c.if-j-other_low.true
    c.passed-i.ensures c.passed-j.ensures c.enter.ensures (lower_walk _ _ _ _ _ _ _ _ _ _ c.loop-i.invariant.strands) in
    let one = counted_swapped _ _ _ _ _ _ _ _ _ _ (strand_walked _ _ (is_above c.middle_document-middle.result) _ _ _ _ _ _ _ _ _ _ (below_apart c.middle_document-middle.result) walked c.loop-i.invariant.strands) in
    (next_places c.args.known.now.marks.now (is_above c.middle_document-middle.result) _ c.args.known.now.a.now c.args.known.now.b.now c.cut.result.1.now c.cut-2.result.1.now c.loop-i.k c.loop-i.l nothing c.enter.new.counts c.if-k-high.true c.if-l-other_high.true (lower_walk _ _ _ _ _ _ _ _ _ _ one)).first_low

pub enter-requires-in-loop-i-clause-first_high : goal.enter-requires-in-loop-i-clause-first_high
enter-requires-in-loop-i-clause-first_high c =
    let walked = walk_stepped c.args.known.now.marks.now (is_below c.middle_document-middle.result) (both_in (drop c.loop-i.k c.cut.result.1.now) (drop c.loop-i.l c.cut-2.result.1.now)) c.args.known.now.a.now c.args.known.now.b.now c.cut.result.0.now c.cut-2.result.0.now c.loop-i.i c.loop-i.j c.passed-i.result c.passed-j.result nothing c.loop-i.counts c.enter.new.counts c.loop-i-test.true c.if-j-other_low.true
    c.passed-i.ensures c.passed-j.ensures c.enter.ensures (lower_walk _ _ _ _ _ _ _ _ _ _ c.loop-i.invariant.strands) in
    let one = counted_swapped _ _ _ _ _ _ _ _ _ _ (strand_walked _ _ (is_above c.middle_document-middle.result) _ _ _ _ _ _ _ _ _ _ (below_apart c.middle_document-middle.result) walked c.loop-i.invariant.strands) in
    (next_places c.args.known.now.marks.now (is_above c.middle_document-middle.result) _ c.args.known.now.a.now c.args.known.now.b.now c.cut.result.1.now c.cut-2.result.1.now c.loop-i.k c.loop-i.l nothing c.enter.new.counts c.if-k-high.true c.if-l-other_high.true (lower_walk _ _ _ _ _ _ _ _ _ _ one)).first_high

pub enter-requires-in-loop-i-clause-second_low : goal.enter-requires-in-loop-i-clause-second_low
enter-requires-in-loop-i-clause-second_low c =
    let walked = walk_stepped c.args.known.now.marks.now (is_below c.middle_document-middle.result) (both_in (drop c.loop-i.k c.cut.result.1.now) (drop c.loop-i.l c.cut-2.result.1.now)) c.args.known.now.a.now c.args.known.now.b.now c.cut.result.0.now c.cut-2.result.0.now c.loop-i.i c.loop-i.j c.passed-i.result c.passed-j.result nothing c.loop-i.counts c.enter.new.counts c.loop-i-test.true c.if-j-other_low.true
    c.passed-i.ensures c.passed-j.ensures c.enter.ensures (lower_walk _ _ _ _ _ _ _ _ _ _ c.loop-i.invariant.strands) in
    let one = counted_swapped _ _ _ _ _ _ _ _ _ _ (strand_walked _ _ (is_above c.middle_document-middle.result) _ _ _ _ _ _ _ _ _ _ (below_apart c.middle_document-middle.result) walked c.loop-i.invariant.strands) in
    (next_places c.args.known.now.marks.now (is_above c.middle_document-middle.result) _ c.args.known.now.a.now c.args.known.now.b.now c.cut.result.1.now c.cut-2.result.1.now c.loop-i.k c.loop-i.l nothing c.enter.new.counts c.if-k-high.true c.if-l-other_high.true (lower_walk _ _ _ _ _ _ _ _ _ _ one)).second_low

pub enter-requires-in-loop-i-clause-second_high : goal.enter-requires-in-loop-i-clause-second_high
enter-requires-in-loop-i-clause-second_high c =
    let walked = walk_stepped c.args.known.now.marks.now (is_below c.middle_document-middle.result) (both_in (drop c.loop-i.k c.cut.result.1.now) (drop c.loop-i.l c.cut-2.result.1.now)) c.args.known.now.a.now c.args.known.now.b.now c.cut.result.0.now c.cut-2.result.0.now c.loop-i.i c.loop-i.j c.passed-i.result c.passed-j.result nothing c.loop-i.counts c.enter.new.counts c.loop-i-test.true c.if-j-other_low.true
    c.passed-i.ensures c.passed-j.ensures c.enter.ensures (lower_walk _ _ _ _ _ _ _ _ _ _ c.loop-i.invariant.strands) in
    let one = counted_swapped _ _ _ _ _ _ _ _ _ _ (strand_walked _ _ (is_above c.middle_document-middle.result) _ _ _ _ _ _ _ _ _ _ (below_apart c.middle_document-middle.result) walked c.loop-i.invariant.strands) in
    (next_places c.args.known.now.marks.now (is_above c.middle_document-middle.result) _ c.args.known.now.a.now c.args.known.now.b.now c.cut.result.1.now c.cut-2.result.1.now c.loop-i.k c.loop-i.l nothing c.enter.new.counts c.if-k-high.true c.if-l-other_high.true (lower_walk _ _ _ _ _ _ _ _ _ _ one)).second_high

pub enter-requires-in-loop-i-clause-known : goal.enter-requires-in-loop-i-clause-known
enter-requires-in-loop-i-clause-known c =
    let walked = walk_stepped c.args.known.now.marks.now (is_below c.middle_document-middle.result) (both_in (drop c.loop-i.k c.cut.result.1.now) (drop c.loop-i.l c.cut-2.result.1.now)) c.args.known.now.a.now c.args.known.now.b.now c.cut.result.0.now c.cut-2.result.0.now c.loop-i.i c.loop-i.j c.passed-i.result c.passed-j.result nothing c.loop-i.counts c.enter.new.counts c.loop-i-test.true c.if-j-other_low.true
    c.passed-i.ensures c.passed-j.ensures c.enter.ensures (lower_walk _ _ _ _ _ _ _ _ _ _ c.loop-i.invariant.strands) in
    let one = counted_swapped _ _ _ _ _ _ _ _ _ _ (strand_walked _ _ (is_above c.middle_document-middle.result) _ _ _ _ _ _ _ _ _ _ (below_apart c.middle_document-middle.result) walked c.loop-i.invariant.strands) in
    (next_places c.args.known.now.marks.now (is_above c.middle_document-middle.result) _ c.args.known.now.a.now c.args.known.now.b.now c.cut.result.1.now c.cut-2.result.1.now c.loop-i.k c.loop-i.l nothing c.enter.new.counts c.if-k-high.true c.if-l-other_high.true (lower_walk _ _ _ _ _ _ _ _ _ _ one)).known

pub enter-requires-in-loop-i-clause-few : goal.enter-requires-in-loop-i-clause-few
enter-requires-in-loop-i-clause-few c =
    let walked = walk_stepped c.args.known.now.marks.now (is_below c.middle_document-middle.result) (both_in (drop c.loop-i.k c.cut.result.1.now) (drop c.loop-i.l c.cut-2.result.1.now)) c.args.known.now.a.now c.args.known.now.b.now c.cut.result.0.now c.cut-2.result.0.now c.loop-i.i c.loop-i.j c.passed-i.result c.passed-j.result nothing c.loop-i.counts c.enter.new.counts c.loop-i-test.true c.if-j-other_low.true
    c.passed-i.ensures c.passed-j.ensures c.enter.ensures (lower_walk _ _ _ _ _ _ _ _ _ _ c.loop-i.invariant.strands) in
    let one = counted_swapped _ _ _ _ _ _ _ _ _ _ (strand_walked _ _ (is_above c.middle_document-middle.result) _ _ _ _ _ _ _ _ _ _ (below_apart c.middle_document-middle.result) walked c.loop-i.invariant.strands) in
    (next_places c.args.known.now.marks.now (is_above c.middle_document-middle.result) _ c.args.known.now.a.now c.args.known.now.b.now c.cut.result.1.now c.cut-2.result.1.now c.loop-i.k c.loop-i.l nothing c.enter.new.counts c.if-k-high.true c.if-l-other_high.true (lower_walk _ _ _ _ _ _ _ _ _ _ one)).few

pub loop-i-preserved : goal.loop-i-preserved
loop-i-preserved c =
    let walked = walk_stepped c.args.known.now.marks.now (is_below c.middle_document-middle.result) (both_in (drop c.loop-i.k c.cut.result.1.now) (drop c.loop-i.l c.cut-2.result.1.now)) c.args.known.now.a.now c.args.known.now.b.now c.cut.result.0.now c.cut-2.result.0.now c.loop-i.i c.loop-i.j c.passed-i.result c.passed-j.result nothing c.loop-i.counts c.enter.new.counts c.loop-i-test.true c.if-j-other_low.true
    c.passed-i.ensures c.passed-j.ensures c.enter.ensures (lower_walk _ _ _ _ _ _ _ _ _ _ c.loop-i.invariant.strands) in
    let one = counted_swapped _ _ _ _ _ _ _ _ _ _ (strand_walked _ _ (is_above c.middle_document-middle.result) _ _ _ _ _ _ _ _ _ _ (below_apart c.middle_document-middle.result) walked c.loop-i.invariant.strands) in
    let walked_too = walk_stepped c.args.known.now.marks.now (is_above c.middle_document-middle.result) _ c.args.known.now.a.now c.args.known.now.b.now c.cut.result.1.now c.cut-2.result.1.now c.loop-i.k c.loop-i.l c.passed-k.result c.passed-l.result nothing c.enter.new.counts c.enter-in-loop-i.new.counts c.if-k-high.true c.if-l-other_high.true
    c.passed-k.ensures c.passed-l.ensures c.enter-in-loop-i.ensures (lower_walk _ _ _ _ _ _ _ _ _ _ one) in
    let two = counted_swapped _ _ _ _ _ _ _ _ _ _ (strand_walked _ _ (is_below c.middle_document-middle.result) _ _ _ _ _ _ _ _ _ _ (above_apart c.middle_document-middle.result) walked_too one) in
    let first_step : c.passed-i.result ≤ 1 = at_most_one _ c.passed-i.result c.passed-i.ensures in
    let second_step : c.passed-j.result ≤ 1 = at_most_one _ c.passed-j.result c.passed-j.ensures in
    let third_step : c.passed-k.result ≤ 1 = at_most_one _ c.passed-k.result c.passed-k.ensures in
    let fourth_step : c.passed-l.result ≤ 1 = at_most_one _ c.passed-l.result c.passed-l.ensures in
    record {
      low_within = omega (arith, first_step, c.loop-i-test.true);
      other_low_within = omega (arith, second_step, c.if-j-other_low.true);
      high_within = omega (arith, third_step, c.if-k-high.true);
      other_high_within = omega (arith, fourth_step, c.if-l-other_high.true);
      strands = two;
    }

pub walk-requires-clause-walk : goal.walk-requires-clause-walk
walk-requires-clause-walk c =
    (is_below c.middle_document-middle.result, both_in (drop c.loop-i.k c.cut.result.1.now) (drop c.loop-i.l c.cut-2.result.1.now), c.args.known.now.a.now, c.args.known.now.b.now, lower_walk _ _ _ _ _ _ _ _ _ _ c.loop-i.invariant.strands)

pub walk-requires-2-clause-walk : goal.walk-requires-2-clause-walk
walk-requires-2-clause-walk c =
    let first = c.walk.ensures (is_below c.middle_document-middle.result) (both_in (drop c.loop-i.k c.cut.result.1.now) (drop c.loop-i.l c.cut-2.result.1.now)) c.args.known.now.a.now c.args.known.now.b.now (lower_walk _ _ _ _ _ _ _ _ _ _ c.loop-i.invariant.strands) in
    let after = counted_swapped _ _ _ _ _ _ _ _ _ _ (strand_walked _ _ (is_above c.middle_document-middle.result) _ _ _ _ _ _ _ _ _ _ (below_apart c.middle_document-middle.result) first.walk c.loop-i.invariant.strands) in
    (is_above c.middle_document-middle.result, both_in first.es first.fs, c.args.known.now.a.now, c.args.known.now.b.now, lower_walk _ _ _ _ _ _ _ _ _ _ after)

pub returns : goal.returns
returns c =
    let first = c.walk.ensures (is_below c.middle_document-middle.result) (both_in (drop c.loop-i.k c.cut.result.1.now) (drop c.loop-i.l c.cut-2.result.1.now)) c.args.known.now.a.now c.args.known.now.b.now (lower_walk _ _ _ _ _ _ _ _ _ _ c.loop-i.invariant.strands) in
    let after = counted_swapped _ _ _ _ _ _ _ _ _ _ (strand_walked _ _ (is_above c.middle_document-middle.result) _ _ _ _ _ _ _ _ _ _ (below_apart c.middle_document-middle.result) first.walk c.loop-i.invariant.strands) in
    let second = c.walk-2.ensures (is_above c.middle_document-middle.result) (both_in first.es first.fs) c.args.known.now.a.now c.args.known.now.b.now (lower_walk _ _ _ _ _ _ _ _ _ _ after) in
    let end = strand_walked _ _ (is_below c.middle_document-middle.result) _ _ _ _ _ _ _ _ _ _ (above_apart c.middle_document-middle.result) second.walk after in
    counted_strands_end _ (is_above c.middle_document-middle.result) (is_below c.middle_document-middle.result) _ _ _ _ _ _ _ (none_left second.es second.fs second.ended) (none_left first.es first.fs first.ended) end
