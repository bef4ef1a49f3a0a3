use Rattle.std.proofs.Common.{◌≡◌, ℤ, pos, max, ◌^◌, ◌*ℤ◌, ◌-ℤ◌, arith, ap, refl, sym, subst}
use Rattle.topic_counts.specs.Ends.{IsFloor, IsCeiling}
use Rattle.rprec.proofs.Ends.{least_is}
use Rattle.rprec.proofs.Units.{ceiling_above, ceiling_below, floor_above, floor_below}
use Rattle.rprec.proofs.spans.span.Goals as goal

pub returns-then-c-clause-span : goal.returns-then-c-clause-span
returns-then-c-clause-span c = λ marks a b h.
    let p = c.args.c.candidate.first in
    let q = c.args.c.candidate.second in
    let d = c.max-out_of.result in
    let den : pos d ≡ pos (max 1 c.args.c.candidate.count) = ap pos (omega (arith, c.max-out_of.ensures)) in
    let num : ℤ = pos p -ℤ pos q in
    least_is marks a b c.args.c.candidate num (pos d) c.negate.result h refl den
    (subst (λ (z : ℤ). IsFloor (pos (10 ^ 18) *ℤ num) (pos d) z) (sym c.negate.ensures.lo) (floor_below (10 ^ 18) p q d c.ends_in_units.result.hi c.if-c.true c.ends_in_units.ensures.ceiling))
    (subst (λ (z : ℤ). IsCeiling (pos (10 ^ 18) *ℤ num) (pos d) z) (sym c.negate.ensures.hi) (ceiling_below (10 ^ 18) p q d c.ends_in_units.result.lo c.if-c.true c.ends_in_units.ensures.floor))

pub returns-else-c-clause-span : goal.returns-else-c-clause-span
returns-else-c-clause-span c = λ marks a b h.
    let p = c.args.c.candidate.first in
    let q = c.args.c.candidate.second in
    let d = c.max-out_of.result in
    let den : pos d ≡ pos (max 1 c.args.c.candidate.count) = ap pos (omega (arith, c.max-out_of.ensures)) in
    let found = c.ends_in_units-else-c in
    least_is marks a b c.args.c.candidate (pos p -ℤ pos q) (pos d) found.result h refl den (floor_above (10 ^ 18) p q d found.result.lo (omega (arith, c.if-c.false)) found.ensures.floor) (ceiling_above (10 ^ 18) p q d found.result.hi (omega (arith, c.if-c.false)) found.ensures.ceiling)
