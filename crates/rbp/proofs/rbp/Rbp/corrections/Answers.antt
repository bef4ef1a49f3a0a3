use Rattle.std.proofs.Common.{◌≡◌, ◌+◌, ◌<◌, nat_le, length, slice_index_or, ℕ, ℤ, Option, Some, arith, ap}
use Rattle.desk_model.proofs.Counts.{one_if}
use Rattle.measure_laws.specs.Ranks.{IsRankWithin}
use Rattle.measure_laws.specs.Shares.{low_share, high_share}
use Rattle.topic_counts.proofs.Places.{at_place, list_within, list_ranks, goes_on, one_at_most}
use Rattle.rbp.specs.Persistence.{Persistence}
use Rattle.rbp.specs.Walk.{correction, is_in_least, is_in_most}
use Rattle.rbp.proofs.Walk.{IsCommon, all_common, so_far_small, left_step, one_less, ended_first, ended_second}
use Rattle.desk_model.specs.declared.types.Mark.{Mark}
use Rattle.rbp.proofs.rbp.Rbp.corrections.Goals as goal

pub bounds-marks-x : goal.bounds-marks-x
bounds-marks-x c =
    at_place (λ e. e.doc < length c.args.marks.now) c.loop-i.i c.by_doc-first.result.now _ c.loop-i-test.true
    (list_within (length c.args.marks.now) c.args.a.now c.by_doc-first.result.now c.requires.first c.by_doc-first.ensures.ranks)

pub with_places-sums-requires-clause-first : goal.with_places-sums-requires-clause-first
with_places-sums-requires-clause-first c =
    at_place (λ e. IsRankWithin 10000 (Some e.rank)) c.loop-i.i c.by_doc-first.result.now _ c.loop-i-test.true
    (list_ranks c.args.a.now c.by_doc-first.result.now c.requires.first.short c.by_doc-first.ensures.ascending c.by_doc-first.ensures.ranks)

pub with_places-sums-requires-clause-second : goal.with_places-sums-requires-clause-second
with_places-sums-requires-clause-second c =
    at_place (λ e. IsRankWithin 10000 (Some e.rank)) c.loop-i.j c.by_doc-second.result.now _ c.if-j-second.true
    (list_ranks c.args.b.now c.by_doc-second.result.now c.requires.second.short c.by_doc-second.ensures.ascending c.by_doc-second.ensures.ranks)

pub with_places-sums-requires-clause-least : goal.with_places-sums-requires-clause-least
with_places-sums-requires-clause-least c =
    let r = c.args.self.now in
    let l = c.loop-i in
    let below : r.top < r.bottom = omega (arith, c.self.invariant.below, ap (λ (p : Persistence). p.top) c.self.view_is, ap (λ (p : Persistence). p.bottom) c.self.view_is) in
    let common = all_common r.top r.bottom below in
    (so_far_small _ _ _ _ _ _ _ common.least_lo c.requires.small l.invariant.least_lo, so_far_small _ _ _ _ _ _ _ common.least_hi c.requires.small l.invariant.least_hi)

pub with_places-sums-requires-clause-most : goal.with_places-sums-requires-clause-most
with_places-sums-requires-clause-most c =
    let r = c.args.self.now in
    let l = c.loop-i in
    let below : r.top < r.bottom = omega (arith, c.self.invariant.below, ap (λ (p : Persistence). p.top) c.self.view_is, ap (λ (p : Persistence). p.bottom) c.self.view_is) in
    let common = all_common r.top r.bottom below in
    (so_far_small _ _ _ _ _ _ _ common.most_lo c.requires.small l.invariant.most_lo, so_far_small _ _ _ _ _ _ _ common.most_hi c.requires.small l.invariant.most_hi)

pub loop-i-smaller : goal.loop-i-smaller
loop-i-smaller c =
    let x = slice_index_or c.by_doc-first.result.now c.loop-i.i (record { doc = 0; rank = 0 }) in
    let y = slice_index_or c.by_doc-second.result.now c.loop-i.j (record { doc = 0; rank = 0 }) in
    let p : c.passed-i.result ≡ one_if (nat_le x.doc y.doc) = c.passed-i.ensures in
    let q : c.passed-j.result ≡ one_if (nat_le y.doc x.doc) = c.passed-j.ensures in
    omega (arith, p, q, goes_on x.doc y.doc, one_at_most (nat_le x.doc y.doc), one_at_most (nat_le y.doc x.doc))

pub loop-i-preserved : goal.loop-i-preserved
loop-i-preserved c =
    let r = c.args.self.now in
    let l = c.loop-i in
    let below : r.top < r.bottom = omega (arith, c.self.invariant.below, ap (λ (p : Persistence). p.top) c.self.view_is, ap (λ (p : Persistence). p.bottom) c.self.view_is) in
    let marks = c.args.marks.now in
    let xs = c.by_doc-first in
    let ys = c.by_doc-second in
    let x = slice_index_or xs.result.now l.i (record { doc = 0; rank = 0 }) in
    let y = slice_index_or ys.result.now l.j (record { doc = 0; rank = 0 }) in
    let p : c.passed-i.result ≡ one_if (nat_le x.doc y.doc) = c.passed-i.ensures in
    let q : c.passed-j.result ≡ one_if (nat_le y.doc x.doc) = c.passed-j.ensures in
    let within = list_within (length marks) c.args.a.now xs.result.now c.requires.first xs.ensures.ranks in
    let low = low_share r.top r.bottom in
    let high = high_share r.top r.bottom in
    let common = all_common r.top r.bottom below in
    let step = λ (f : Mark → Option ℕ → Option ℕ → ℤ) (common : IsCommon f). left_step f marks l.i l.j (l.i + c.passed-i.result) (l.j + c.passed-j.result) xs.result.now ys.result.now (record { doc = 0; rank = 0 }) common c.loop-i-test.true c.if-j-second.true
    xs.ensures.ascending ys.ensures.ascending within (ap (λ m. l.i + m) p) (ap (λ m. l.j + m) q) in
    record {
      first_in = omega (arith, p, one_at_most (nat_le x.doc y.doc));
      second_in = omega (arith, q, one_at_most (nat_le y.doc x.doc));
      least_lo = one_less (correction low is_in_least) marks _ _ _ _ _ _ _ _ (step (correction low is_in_least) common.least_lo) c.with_places-sums.ensures.least_lo l.invariant.least_lo;
      least_hi = one_less (correction high is_in_least) marks _ _ _ _ _ _ _ _ (step (correction high is_in_least) common.least_hi) c.with_places-sums.ensures.least_hi l.invariant.least_hi;
      most_lo = one_less (correction low is_in_most) marks _ _ _ _ _ _ _ _ (step (correction low is_in_most) common.most_lo) c.with_places-sums.ensures.most_lo l.invariant.most_lo;
      most_hi = one_less (correction high is_in_most) marks _ _ _ _ _ _ _ _ (step (correction high is_in_most) common.most_hi) c.with_places-sums.ensures.most_hi l.invariant.most_hi;
    }

pub returns-else-j-second : goal.returns-else-j-second
returns-else-j-second c =
    let r = c.args.self.now in
    let l = c.loop-i in
    let below : r.top < r.bottom = omega (arith, c.self.invariant.below, ap (λ (p : Persistence). p.top) c.self.view_is, ap (λ (p : Persistence). p.bottom) c.self.view_is) in
    let low = low_share r.top r.bottom in
    let high = high_share r.top r.bottom in
    let common = all_common r.top r.bottom below in
    record {
      least_lo = ended_second (correction low is_in_least) c.args.marks.now c.args.a.now c.args.b.now c.loop-i.j c.by_doc-first.result.now c.by_doc-second.result.now _ _ common.least_lo c.if-j-second.false c.by_doc-first.ensures.ranks c.by_doc-second.ensures.ranks l.invariant.least_lo;
      least_hi = ended_second (correction high is_in_least) c.args.marks.now c.args.a.now c.args.b.now c.loop-i.j c.by_doc-first.result.now c.by_doc-second.result.now _ _ common.least_hi c.if-j-second.false c.by_doc-first.ensures.ranks c.by_doc-second.ensures.ranks l.invariant.least_hi;
      most_lo = ended_second (correction low is_in_most) c.args.marks.now c.args.a.now c.args.b.now c.loop-i.j c.by_doc-first.result.now c.by_doc-second.result.now _ _ common.most_lo c.if-j-second.false c.by_doc-first.ensures.ranks c.by_doc-second.ensures.ranks l.invariant.most_lo;
      most_hi = ended_second (correction high is_in_most) c.args.marks.now c.args.a.now c.args.b.now c.loop-i.j c.by_doc-first.result.now c.by_doc-second.result.now _ _ common.most_hi c.if-j-second.false c.by_doc-first.ensures.ranks c.by_doc-second.ensures.ranks l.invariant.most_hi;
      least_loose = (so_far_small _ _ _ _ _ _ _ common.least_lo c.requires.small l.invariant.least_lo, so_far_small _ _ _ _ _ _ _ common.least_hi c.requires.small l.invariant.least_hi);
      most_loose = (so_far_small _ _ _ _ _ _ _ common.most_lo c.requires.small l.invariant.most_lo, so_far_small _ _ _ _ _ _ _ common.most_hi c.requires.small l.invariant.most_hi);
    }

pub returns-after-loop-i : goal.returns-after-loop-i
returns-after-loop-i c =
    let r = c.args.self.now in
    let l = c.loop-i in
    let below : r.top < r.bottom = omega (arith, c.self.invariant.below, ap (λ (p : Persistence). p.top) c.self.view_is, ap (λ (p : Persistence). p.bottom) c.self.view_is) in
    let low = low_share r.top r.bottom in
    let high = high_share r.top r.bottom in
    let common = all_common r.top r.bottom below in
    record {
      least_lo = ended_first (correction low is_in_least) c.args.marks.now c.args.a.now c.args.b.now c.loop-i.i c.by_doc-first.result.now c.by_doc-second.result.now _ _ common.least_lo c.loop-i-test.false c.by_doc-first.ensures.ranks c.by_doc-second.ensures.ranks l.invariant.least_lo;
      least_hi = ended_first (correction high is_in_least) c.args.marks.now c.args.a.now c.args.b.now c.loop-i.i c.by_doc-first.result.now c.by_doc-second.result.now _ _ common.least_hi c.loop-i-test.false c.by_doc-first.ensures.ranks c.by_doc-second.ensures.ranks l.invariant.least_hi;
      most_lo = ended_first (correction low is_in_most) c.args.marks.now c.args.a.now c.args.b.now c.loop-i.i c.by_doc-first.result.now c.by_doc-second.result.now _ _ common.most_lo c.loop-i-test.false c.by_doc-first.ensures.ranks c.by_doc-second.ensures.ranks l.invariant.most_lo;
      most_hi = ended_first (correction high is_in_most) c.args.marks.now c.args.a.now c.args.b.now c.loop-i.i c.by_doc-first.result.now c.by_doc-second.result.now _ _ common.most_hi c.loop-i-test.false c.by_doc-first.ensures.ranks c.by_doc-second.ensures.ranks l.invariant.most_hi;
      least_loose = (so_far_small _ _ _ _ _ _ _ common.least_lo c.requires.small l.invariant.least_lo, so_far_small _ _ _ _ _ _ _ common.least_hi c.requires.small l.invariant.least_hi);
      most_loose = (so_far_small _ _ _ _ _ _ _ common.most_lo c.requires.small l.invariant.most_lo, so_far_small _ _ _ _ _ _ _ common.most_hi c.requires.small l.invariant.most_hi);
    }
