use Rattle.std.proofs.Common.{◌≡◌, ℕ, ◌-◌, Bool, true, false, ℤ, pos, ◌-ℤ◌, ◌≤ℤ◌, to_z, of_z, arith, sym, ◌∙◌}
use Rattle.std.specs.Int.{w128}
use Rattle.std.specs.Prelude.{if◌then◌else◌, int_lt}
use Rattle.std.proofs.lemmas.Int.{ints}
use Rattle.desk_model.specs.Limits.{PARTS_OF_ONE}
use Rattle.measure_laws.specs.Powers.{low_weight, high_weight}
use Rattle.small_lemmas.proofs.Tests.{positive, not_positive}
use Rattle.topic_ends.proofs.biased.least_share.Goals as goal

-- the difference of two weights, as the code reads it
lead_is : (l h : ℕ) (x y : ℤ) → x ≡ pos l → y ≡ pos h → x ≤ℤ pos PARTS_OF_ONE → y ≤ℤ pos PARTS_OF_ONE → to_z w128 (of_z w128 (to_z w128 (of_z w128 x) -ℤ to_z w128 (of_z w128 y))) ≡ pos l -ℤ pos h
lead_is l h x y e f p q = omega (arith, ints)

-- the lower share by whether the first rank comes first and whether the second does
abbrev share_by : Bool → Bool → ℕ → ℕ → ℤ
share_by first second l h = if first then pos (l - h) else if second then pos l -ℤ pos h else pos 0

-- of a document that comes first in the first ranking, where its weight there is greater
leads : (first second : Bool) (l h : ℕ) (z : ℤ) → true ≡ first → z ≡ pos l -ℤ pos h → int_lt (pos 0) z ≡ true → z ≡ share_by first second l h
leads true second l h z e lead more = let above = positive z more in omega (arith, ints)
leads false second l h z e lead more = absurd (cc)

-- and where it is not
stays : (first second : Bool) (l h : ℕ) (z : ℤ) → true ≡ first → z ≡ pos l -ℤ pos h → int_lt (pos 0) z ≡ false → pos 0 ≡ share_by first second l h
stays true second l h z e lead less = let below = not_positive z less in omega (arith, ints)
stays false second l h z e lead less = absurd (cc)

-- of one that comes first in the second ranking
trails : (first second : Bool) (l h : ℕ) → false ≡ first → true ≡ second → pos l -ℤ pos h ≡ share_by first second l h
trails first second l h e f = rw (sym e, sym f)

-- of one with equal ranks
levels : (first second : Bool) (l h : ℕ) → false ≡ first → false ≡ second → pos 0 ≡ share_by first second l h
levels first second l h e f = rw (sym e, sym f)

pub overflow_sub-lead : goal.overflow_sub-lead
overflow_sub-lead c =
    let first = c.weight.ensures in
    let second = c.weight-2.ensures in
    omega (arith, ints, first.lo, second.hi, first.lo_small, second.hi_small)

pub returns-then-lead-gt0-clause-share : goal.returns-then-lead-gt0-clause-share
returns-then-lead-gt0-clause-share c =
    let first = c.weight.ensures in
    let second = c.weight-2.ensures in
    leads _ _ _ _ _ c.if-is_before.ensures (lead_is _ _ _ _ first.lo second.hi first.lo_small second.hi_small) c.if-lead-gt0.true

pub returns-then-lead-gt0-clause-low : goal.returns-then-lead-gt0-clause-low
returns-then-lead-gt0-clause-low c =
    let first = c.weight.ensures in
    let second = c.weight-2.ensures in
    omega (arith, ints, lead_is _ _ _ _ first.lo second.hi first.lo_small second.hi_small, second.hi, second.hi_small)

pub returns-then-lead-gt0-clause-high : goal.returns-then-lead-gt0-clause-high
returns-then-lead-gt0-clause-high c =
    let first = c.weight.ensures in
    let second = c.weight-2.ensures in
    omega (arith, ints, lead_is _ _ _ _ first.lo second.hi first.lo_small second.hi_small, first.lo, first.lo_small)

pub returns-else-lead-gt0-clause-share : goal.returns-else-lead-gt0-clause-share
returns-else-lead-gt0-clause-share c =
    let first = c.weight.ensures in
    let second = c.weight-2.ensures in
    stays _ _ _ _ _ c.if-is_before.ensures (lead_is _ _ _ _ first.lo second.hi first.lo_small second.hi_small) c.if-lead-gt0.false

pub returns-then-is_before-2-clause-share : goal.returns-then-is_before-2-clause-share
returns-then-is_before-2-clause-share c =
    let first = c.weight.ensures in
    let second = c.weight-2.ensures in
    lead_is _ _ _ _ first.lo second.hi first.lo_small second.hi_small ∙ trails _ _ _ _ c.if-is_before.ensures c.if-is_before-2.ensures

pub returns-then-is_before-2-clause-low : goal.returns-then-is_before-2-clause-low
returns-then-is_before-2-clause-low c =
    let first = c.weight.ensures in
    let second = c.weight-2.ensures in
    omega (arith, ints, lead_is _ _ _ _ first.lo second.hi first.lo_small second.hi_small, second.hi, second.hi_small)

pub returns-then-is_before-2-clause-high : goal.returns-then-is_before-2-clause-high
returns-then-is_before-2-clause-high c =
    let first = c.weight.ensures in
    let second = c.weight-2.ensures in
    omega (arith, ints, lead_is _ _ _ _ first.lo second.hi first.lo_small second.hi_small, first.lo, first.lo_small)

pub returns-else-is_before-2-clause-share : goal.returns-else-is_before-2-clause-share
returns-else-is_before-2-clause-share c =
    levels _ _ (low_weight c.args.powers.now.top c.args.powers.now.bottom c.args.x) (high_weight c.args.powers.now.top c.args.powers.now.bottom c.args.y) c.if-is_before.ensures c.if-is_before-2.ensures
