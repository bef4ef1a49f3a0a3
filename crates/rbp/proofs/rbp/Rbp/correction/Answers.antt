use Rattle.std.proofs.Common.{◌≡◌, ◌^◌, Bool, true, false, Some, None, ℤ, pos, ◌+ℤ◌, arith}
use Rattle.std.specs.Prelude.{if◌then◌else◌}
use Rattle.std.proofs.lemmas.Int.{ints}
use Rattle.measure_laws.specs.Shares.{low_share, high_share}
use Rattle.rbp.specs.Walk.{is_in_least, is_in_most}
use Rattle.rbp.proofs.Walk.{IsSmall}
use Rattle.rbp.proofs.Share.{relevant_more, unjudged_more, other_more}
use Rattle.rbp.proofs.rbp.Rbp.correction.Goals as goal

-- a number that is counted or not stays as small
counted_loose : (b : Bool) (z w : ℤ) → w ≡ (if b then z else pos 0) → IsSmall (10 ^ 27) z → IsSmall (10 ^ 27) w
counted_loose true z w e h = (omega (arith, ints, h.0), omega (arith, ints, h.1))
counted_loose false z w e h = (omega (arith, ints), omega (arith, ints))

pub beyond-more-requires-clause-other : goal.beyond-more-requires-clause-other
beyond-more-requires-clause-other c =
    let first = c.weight_at-first.ensures in
    let second = c.weight_at-second.ensures in (
      (omega (arith, ints, c.alone.ensures.lo, first.lo, second.hi_small), omega (arith, ints, c.alone.ensures.lo, first.lo_small, second.hi)),
      (omega (arith, ints, c.alone.ensures.hi, first.hi, second.lo_small), omega (arith, ints, c.alone.ensures.hi, first.hi_small, second.lo)),
    )

pub beyond-requires-clause-other : goal.beyond-requires-clause-other
beyond-requires-clause-other c =
    let second = c.weight_at-second.ensures in (
      (omega (arith, ints, c.negate.ensures.lo, second.hi_small), omega (arith, ints, c.negate.ensures.lo, second.hi)),
      (omega (arith, ints, c.negate.ensures.hi, second.lo_small), omega (arith, ints, c.negate.ensures.hi, second.lo)),
    )

pub beyond-requires-clause-span : goal.beyond-requires-clause-span
beyond-requires-clause-span c = (counted_loose _ _ _ c.span_if.ensures.lo c.share-share.ensures.loose.0, counted_loose _ _ _ c.span_if.ensures.hi c.share-share.ensures.loose.1)

pub beyond-requires-in-Unjudged-clause-span : goal.beyond-requires-in-Unjudged-clause-span
beyond-requires-in-Unjudged-clause-span c = (counted_loose _ _ _ c.span_if-in-Unjudged.ensures.lo c.share-share.ensures.loose.0, counted_loose _ _ _ c.span_if-in-Unjudged.ensures.hi c.share-share.ensures.loose.1)

pub beyond-requires-in-Unjudged-clause-other : goal.beyond-requires-in-Unjudged-clause-other
beyond-requires-in-Unjudged-clause-other c =
    let first = c.weight_at-first.ensures in (
      (omega (arith, ints, first.lo), omega (arith, ints, first.lo_small)),
      (omega (arith, ints, first.hi), omega (arith, ints, first.hi_small)),
    )

pub returns-in-Relevant-clause-least_lo : goal.returns-in-Relevant-clause-least_lo
returns-in-Relevant-clause-least_lo c =
    let r = c.args.self.now in
    let share = low_share r.top r.bottom in
    let apart : c.alone.result.lo ≡ share (Some c.args.x) None +ℤ share None (Some c.args.y) = omega (arith, ints, c.alone.ensures.lo, c.weight_at-first.ensures.lo, c.weight_at-second.ensures.hi) in
    relevant_more share is_in_least c.args.mark (Some c.args.x) (Some c.args.y) _ _ _ c.in-Relevant.is c.share-share.ensures.lo apart c.beyond-more.ensures.lo

pub returns-in-Relevant-clause-least_hi : goal.returns-in-Relevant-clause-least_hi
returns-in-Relevant-clause-least_hi c =
    let r = c.args.self.now in
    let share = high_share r.top r.bottom in
    let apart : c.alone.result.hi ≡ share (Some c.args.x) None +ℤ share None (Some c.args.y) = omega (arith, ints, c.alone.ensures.hi, c.weight_at-first.ensures.hi, c.weight_at-second.ensures.lo) in
    relevant_more share is_in_least c.args.mark (Some c.args.x) (Some c.args.y) _ _ _ c.in-Relevant.is c.share-share.ensures.hi apart c.beyond-more.ensures.hi

pub returns-in-Relevant-clause-most_lo : goal.returns-in-Relevant-clause-most_lo
returns-in-Relevant-clause-most_lo c =
    let r = c.args.self.now in
    let share = low_share r.top r.bottom in
    let apart : c.alone.result.lo ≡ share (Some c.args.x) None +ℤ share None (Some c.args.y) = omega (arith, ints, c.alone.ensures.lo, c.weight_at-first.ensures.lo, c.weight_at-second.ensures.hi) in
    relevant_more share is_in_most c.args.mark (Some c.args.x) (Some c.args.y) _ _ _ c.in-Relevant.is c.share-share.ensures.lo apart c.beyond-more.ensures.lo

pub returns-in-Relevant-clause-most_hi : goal.returns-in-Relevant-clause-most_hi
returns-in-Relevant-clause-most_hi c =
    let r = c.args.self.now in
    let share = high_share r.top r.bottom in
    let apart : c.alone.result.hi ≡ share (Some c.args.x) None +ℤ share None (Some c.args.y) = omega (arith, ints, c.alone.ensures.hi, c.weight_at-first.ensures.hi, c.weight_at-second.ensures.lo) in
    relevant_more share is_in_most c.args.mark (Some c.args.x) (Some c.args.y) _ _ _ c.in-Relevant.is c.share-share.ensures.hi apart c.beyond-more.ensures.hi

pub returns-in-Unjudged-clause-least_lo : goal.returns-in-Unjudged-clause-least_lo
returns-in-Unjudged-clause-least_lo c =
    let r = c.args.self.now in
    let share = low_share r.top r.bottom in
    let apart : c.negate.result.lo ≡ pos 0 +ℤ share None (Some c.args.y) = omega (arith, ints, c.negate.ensures.lo, c.weight_at-second.ensures.hi) in
    unjudged_more share is_in_least c.args.mark (Some c.args.x) (Some c.args.y) _ _ _ _ c.in-Unjudged.is c.share-share.ensures.lo c.span_if.ensures.lo apart c.beyond.ensures.lo

pub returns-in-Unjudged-clause-least_hi : goal.returns-in-Unjudged-clause-least_hi
returns-in-Unjudged-clause-least_hi c =
    let r = c.args.self.now in
    let share = high_share r.top r.bottom in
    let apart : c.negate.result.hi ≡ pos 0 +ℤ share None (Some c.args.y) = omega (arith, ints, c.negate.ensures.hi, c.weight_at-second.ensures.lo) in
    unjudged_more share is_in_least c.args.mark (Some c.args.x) (Some c.args.y) _ _ _ _ c.in-Unjudged.is c.share-share.ensures.hi c.span_if.ensures.hi apart c.beyond.ensures.hi

pub returns-in-Unjudged-clause-most_lo : goal.returns-in-Unjudged-clause-most_lo
returns-in-Unjudged-clause-most_lo c =
    let r = c.args.self.now in
    let share = low_share r.top r.bottom in
    let apart : c.weight_at-first.result.lo ≡ share (Some c.args.x) None +ℤ pos 0 = omega (arith, ints, c.weight_at-first.ensures.lo) in
    unjudged_more share is_in_most c.args.mark (Some c.args.x) (Some c.args.y) _ _ _ _ c.in-Unjudged.is c.share-share.ensures.lo c.span_if-in-Unjudged.ensures.lo apart c.beyond-in-Unjudged.ensures.lo

pub returns-in-Unjudged-clause-most_hi : goal.returns-in-Unjudged-clause-most_hi
returns-in-Unjudged-clause-most_hi c =
    let r = c.args.self.now in
    let share = high_share r.top r.bottom in
    let apart : c.weight_at-first.result.hi ≡ share (Some c.args.x) None +ℤ pos 0 = omega (arith, ints, c.weight_at-first.ensures.hi) in
    unjudged_more share is_in_most c.args.mark (Some c.args.x) (Some c.args.y) _ _ _ _ c.in-Unjudged.is c.share-share.ensures.hi c.span_if-in-Unjudged.ensures.hi apart c.beyond-in-Unjudged.ensures.hi

pub returns-in-Other-clause-least_lo : goal.returns-in-Other-clause-least_lo
returns-in-Other-clause-least_lo c = other_more (low_share c.args.self.now.top c.args.self.now.bottom) is_in_least c.args.mark (Some c.args.x) (Some c.args.y) c.in-Other.is

pub returns-in-Other-clause-least_hi : goal.returns-in-Other-clause-least_hi
returns-in-Other-clause-least_hi c = other_more (high_share c.args.self.now.top c.args.self.now.bottom) is_in_least c.args.mark (Some c.args.x) (Some c.args.y) c.in-Other.is

pub returns-in-Other-clause-most_lo : goal.returns-in-Other-clause-most_lo
returns-in-Other-clause-most_lo c = other_more (low_share c.args.self.now.top c.args.self.now.bottom) is_in_most c.args.mark (Some c.args.x) (Some c.args.y) c.in-Other.is

pub returns-in-Other-clause-most_hi : goal.returns-in-Other-clause-most_hi
returns-in-Other-clause-most_hi c = other_more (high_share c.args.self.now.top c.args.self.now.bottom) is_in_most c.args.mark (Some c.args.x) (Some c.args.y) c.in-Other.is
