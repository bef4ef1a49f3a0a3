use Rattle.std.proofs.Common.{◌≡◌, ◌<◌, true, false, pos, ◌∙◌, arith, ap}
use Rattle.measure_laws.specs.Shares.{low_share, high_share, low_worth, high_worth, share_sum}
use Rattle.measure_core.specs.declared.room.RunWeights.{RunWeights}
use Rattle.rbp.specs.Persistence.{Persistence}
use Rattle.rbp.specs.Walk.{is_in_least, is_in_most, sum_of}
use Rattle.rbp.proofs.Walk.{is_low, is_high, whole_small, put_together, least_low_parts, least_high_parts, most_low_parts, most_high_parts, most_low, most_high}
use Rattle.rbp.proofs.rbp.Rbp.shares.Goals as goal

pub returns-clause-least_lo : goal.returns-clause-least_lo
returns-clause-least_lo c =
    let r = c.args.self.now in
    let marks = c.args.marks.now in
    let a = c.args.a.now in
    let b = c.args.b.now in
    let first : c.of-first.result.relevant.lo ≡ pos (low_worth r.top r.bottom false marks a) = c.of-first.ensures.relevant_lo ∙ ap (λ (w : RunWeights). pos w.relevant_low) c.requires.first in
    let second : c.of-second.result.possible.hi ≡ pos (high_worth r.top r.bottom true marks b) = c.of-second.ensures.possible_hi ∙ ap (λ (w : RunWeights). pos w.possible_high) c.requires.second in
    let total : c.add.result.lo ≡ share_sum (low_share r.top r.bottom) marks a b = put_together _ _ _ _ _ _ _ _ _ c.add.ensures.lo c.alone.ensures.lo first second c.requires.both.least_lo (least_low_parts r.top r.bottom marks a b c.requires.met.first c.requires.met.second) in
    total

pub returns-clause-least_hi : goal.returns-clause-least_hi
returns-clause-least_hi c =
    let r = c.args.self.now in
    let marks = c.args.marks.now in
    let a = c.args.a.now in
    let b = c.args.b.now in
    let first : c.of-first.result.relevant.hi ≡ pos (high_worth r.top r.bottom false marks a) = c.of-first.ensures.relevant_hi ∙ ap (λ (w : RunWeights). pos w.relevant_high) c.requires.first in
    let second : c.of-second.result.possible.lo ≡ pos (low_worth r.top r.bottom true marks b) = c.of-second.ensures.possible_lo ∙ ap (λ (w : RunWeights). pos w.possible_low) c.requires.second in
    let total : c.add.result.hi ≡ share_sum (high_share r.top r.bottom) marks a b = put_together _ _ _ _ _ _ _ _ _ c.add.ensures.hi c.alone.ensures.hi first second c.requires.both.least_hi (least_high_parts r.top r.bottom marks a b c.requires.met.first c.requires.met.second) in
    total

pub returns-clause-most_lo : goal.returns-clause-most_lo
returns-clause-most_lo c =
    let r = c.args.self.now in
    let marks = c.args.marks.now in
    let a = c.args.a.now in
    let b = c.args.b.now in
    let first : c.of-first.result.possible.lo ≡ pos (low_worth r.top r.bottom true marks a) = c.of-first.ensures.possible_lo ∙ ap (λ (w : RunWeights). pos w.possible_low) c.requires.first in
    let second : c.of-second.result.relevant.hi ≡ pos (high_worth r.top r.bottom false marks b) = c.of-second.ensures.relevant_hi ∙ ap (λ (w : RunWeights). pos w.relevant_high) c.requires.second in
    let total : c.add-2.result.lo ≡ sum_of (low_share r.top r.bottom) is_in_most marks a b = put_together _ _ _ _ _ _ _ _ _ c.add-2.ensures.lo c.alone-2.ensures.lo first second c.requires.both.most_lo (most_low_parts r.top r.bottom marks a b c.requires.met.first c.requires.met.second) in
    total ∙ most_low r.top r.bottom marks a b

pub returns-clause-most_hi : goal.returns-clause-most_hi
returns-clause-most_hi c =
    let r = c.args.self.now in
    let marks = c.args.marks.now in
    let a = c.args.a.now in
    let b = c.args.b.now in
    let first : c.of-first.result.possible.hi ≡ pos (high_worth r.top r.bottom true marks a) = c.of-first.ensures.possible_hi ∙ ap (λ (w : RunWeights). pos w.possible_high) c.requires.first in
    let second : c.of-second.result.relevant.lo ≡ pos (low_worth r.top r.bottom false marks b) = c.of-second.ensures.relevant_lo ∙ ap (λ (w : RunWeights). pos w.relevant_low) c.requires.second in
    let total : c.add-2.result.hi ≡ sum_of (high_share r.top r.bottom) is_in_most marks a b = put_together _ _ _ _ _ _ _ _ _ c.add-2.ensures.hi c.alone-2.ensures.hi first second c.requires.both.most_hi (most_high_parts r.top r.bottom marks a b c.requires.met.first c.requires.met.second) in
    total ∙ most_high r.top r.bottom marks a b

pub returns-clause-least_loose : goal.returns-clause-least_loose
returns-clause-least_loose c =
    let r = c.args.self.now in
    let marks = c.args.marks.now in
    let a = c.args.a.now in
    let b = c.args.b.now in
    let below : r.top < r.bottom = omega (arith, c.self.invariant.below, ap (λ (p : Persistence). p.top) c.self.view_is, ap (λ (p : Persistence). p.bottom) c.self.view_is) in
    let first_low : c.of-first.result.relevant.lo ≡ pos (low_worth r.top r.bottom false marks a) = c.of-first.ensures.relevant_lo ∙ ap (λ (w : RunWeights). pos w.relevant_low) c.requires.first in
    let second_low : c.of-second.result.possible.hi ≡ pos (high_worth r.top r.bottom true marks b) = c.of-second.ensures.possible_hi ∙ ap (λ (w : RunWeights). pos w.possible_high) c.requires.second in
    let total_low : c.add.result.lo ≡ share_sum (low_share r.top r.bottom) marks a b = put_together _ _ _ _ _ _ _ _ _ c.add.ensures.lo c.alone.ensures.lo first_low second_low c.requires.both.least_lo (least_low_parts r.top r.bottom marks a b c.requires.met.first c.requires.met.second) in
    let first_high : c.of-first.result.relevant.hi ≡ pos (high_worth r.top r.bottom false marks a) = c.of-first.ensures.relevant_hi ∙ ap (λ (w : RunWeights). pos w.relevant_high) c.requires.first in
    let second_high : c.of-second.result.possible.lo ≡ pos (low_worth r.top r.bottom true marks b) = c.of-second.ensures.possible_lo ∙ ap (λ (w : RunWeights). pos w.possible_low) c.requires.second in
    let total_high : c.add.result.hi ≡ share_sum (high_share r.top r.bottom) marks a b = put_together _ _ _ _ _ _ _ _ _ c.add.ensures.hi c.alone.ensures.hi first_high second_high c.requires.both.least_hi (least_high_parts r.top r.bottom marks a b c.requires.met.first c.requires.met.second) in
    (whole_small (low_share r.top r.bottom) is_in_least marks a b _ (is_low r.top r.bottom below) c.requires.met.small total_low, whole_small (high_share r.top r.bottom) is_in_least marks a b _ (is_high r.top r.bottom below) c.requires.met.small total_high)

pub returns-clause-most_loose : goal.returns-clause-most_loose
returns-clause-most_loose c =
    let r = c.args.self.now in
    let marks = c.args.marks.now in
    let a = c.args.a.now in
    let b = c.args.b.now in
    let below : r.top < r.bottom = omega (arith, c.self.invariant.below, ap (λ (p : Persistence). p.top) c.self.view_is, ap (λ (p : Persistence). p.bottom) c.self.view_is) in
    let first_low : c.of-first.result.possible.lo ≡ pos (low_worth r.top r.bottom true marks a) = c.of-first.ensures.possible_lo ∙ ap (λ (w : RunWeights). pos w.possible_low) c.requires.first in
    let second_low : c.of-second.result.relevant.hi ≡ pos (high_worth r.top r.bottom false marks b) = c.of-second.ensures.relevant_hi ∙ ap (λ (w : RunWeights). pos w.relevant_high) c.requires.second in
    let total_low : c.add-2.result.lo ≡ sum_of (low_share r.top r.bottom) is_in_most marks a b = put_together _ _ _ _ _ _ _ _ _ c.add-2.ensures.lo c.alone-2.ensures.lo first_low second_low c.requires.both.most_lo (most_low_parts r.top r.bottom marks a b c.requires.met.first c.requires.met.second) in
    let first_high : c.of-first.result.possible.hi ≡ pos (high_worth r.top r.bottom true marks a) = c.of-first.ensures.possible_hi ∙ ap (λ (w : RunWeights). pos w.possible_high) c.requires.first in
    let second_high : c.of-second.result.relevant.lo ≡ pos (low_worth r.top r.bottom false marks b) = c.of-second.ensures.relevant_lo ∙ ap (λ (w : RunWeights). pos w.relevant_low) c.requires.second in
    let total_high : c.add-2.result.hi ≡ sum_of (high_share r.top r.bottom) is_in_most marks a b = put_together _ _ _ _ _ _ _ _ _ c.add-2.ensures.hi c.alone-2.ensures.hi first_high second_high c.requires.both.most_hi (most_high_parts r.top r.bottom marks a b c.requires.met.first c.requires.met.second) in
    (whole_small (low_share r.top r.bottom) is_in_most marks a b _ (is_low r.top r.bottom below) c.requires.met.small total_low, whole_small (high_share r.top r.bottom) is_in_most marks a b _ (is_high r.top r.bottom below) c.requires.met.small total_high)
