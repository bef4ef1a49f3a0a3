use Rattle.std.proofs.Common.{◌≤◌, nat_le, drop, slice_index_or, arith, inl, inr}
use Rattle.desk_model.specs.declared.placed.Placed.{Placed}
use Rattle.rprec.proofs.Strands.{at_most_one, dropped_all, next_places, walk_stepped}
use Rattle.rprec.proofs.shared.walk.Goals as goal

abbrev nothing : Placed
nothing = record { doc = 0; rank = 0 }

pub enter-requires-clause-first_low : goal.enter-requires-clause-first_low
enter-requires-clause-first_low c =
    let h = c.requires.walk in
    (next_places c.args.marks.now h.0 h.1 h.2 h.3 c.args.first.now c.args.second.now c.loop-i.i c.loop-i.j nothing c.loop-i.counts c.loop-i-test.true c.if-j-second.true (c.loop-i.invariant.walk h.0 h.1 h.2 h.3 h.4)).first_low

pub enter-requires-clause-first_high : goal.enter-requires-clause-first_high
enter-requires-clause-first_high c =
    let h = c.requires.walk in
    (next_places c.args.marks.now h.0 h.1 h.2 h.3 c.args.first.now c.args.second.now c.loop-i.i c.loop-i.j nothing c.loop-i.counts c.loop-i-test.true c.if-j-second.true (c.loop-i.invariant.walk h.0 h.1 h.2 h.3 h.4)).first_high

pub enter-requires-clause-second_low : goal.enter-requires-clause-second_low
enter-requires-clause-second_low c =
    let h = c.requires.walk in
    (next_places c.args.marks.now h.0 h.1 h.2 h.3 c.args.first.now c.args.second.now c.loop-i.i c.loop-i.j nothing c.loop-i.counts c.loop-i-test.true c.if-j-second.true (c.loop-i.invariant.walk h.0 h.1 h.2 h.3 h.4)).second_low

pub enter-requires-clause-second_high : goal.enter-requires-clause-second_high
enter-requires-clause-second_high c =
    let h = c.requires.walk in
    (next_places c.args.marks.now h.0 h.1 h.2 h.3 c.args.first.now c.args.second.now c.loop-i.i c.loop-i.j nothing c.loop-i.counts c.loop-i-test.true c.if-j-second.true (c.loop-i.invariant.walk h.0 h.1 h.2 h.3 h.4)).second_high

pub enter-requires-clause-known : goal.enter-requires-clause-known
enter-requires-clause-known c =
    let h = c.requires.walk in
    (next_places c.args.marks.now h.0 h.1 h.2 h.3 c.args.first.now c.args.second.now c.loop-i.i c.loop-i.j nothing c.loop-i.counts c.loop-i-test.true c.if-j-second.true (c.loop-i.invariant.walk h.0 h.1 h.2 h.3 h.4)).known

pub enter-requires-clause-few : goal.enter-requires-clause-few
enter-requires-clause-few c =
    let h = c.requires.walk in
    (next_places c.args.marks.now h.0 h.1 h.2 h.3 c.args.first.now c.args.second.now c.loop-i.i c.loop-i.j nothing c.loop-i.counts c.loop-i-test.true c.if-j-second.true (c.loop-i.invariant.walk h.0 h.1 h.2 h.3 h.4)).few

pub loop-i-preserved : goal.loop-i-preserved
loop-i-preserved c =
    let es = c.args.first.now in
    let fs = c.args.second.now in
    let x = slice_index_or es c.loop-i.i nothing in
    let y = slice_index_or fs c.loop-i.j nothing in
    let first_step : c.passed-i.result ≤ 1 = at_most_one (nat_le x.doc y.doc) c.passed-i.result c.passed-i.ensures in
    let second_step : c.passed-j.result ≤ 1 = at_most_one (nat_le y.doc x.doc) c.passed-j.result c.passed-j.ensures in
    record {
      first_within = omega arith;
      second_within = omega arith;
      walk = λ part elsewhere xs ys start.
          walk_stepped c.args.marks.now part elsewhere xs ys es fs c.loop-i.i c.loop-i.j c.passed-i.result c.passed-j.result nothing c.loop-i.counts c.enter.new.counts c.loop-i-test.true c.if-j-second.true
          c.passed-i.ensures c.passed-j.ensures c.enter.ensures (c.loop-i.invariant.walk part elsewhere xs ys start);
    }

pub returns-else-j-second : goal.returns-else-j-second
returns-else-j-second c = λ part elsewhere xs ys start. record {
  es = drop c.loop-i.i c.args.first.now;
  fs = drop c.loop-i.j c.args.second.now;
  ended = inr (dropped_all c.loop-i.j c.args.second.now (omega (arith, c.if-j-second.false)));
  walk = c.loop-i.invariant.walk part elsewhere xs ys start;
}

pub returns-after-loop-i : goal.returns-after-loop-i
returns-after-loop-i c = λ part elsewhere xs ys start. record {
  es = drop c.loop-i.i c.args.first.now;
  fs = drop c.loop-i.j c.args.second.now;
  ended = inl (dropped_all c.loop-i.i c.args.first.now (omega (arith, c.loop-i-test.false)));
  walk = c.loop-i.invariant.walk part elsewhere xs ys start;
}
