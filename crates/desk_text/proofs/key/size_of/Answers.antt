use Rattle.std.proofs.Common.{◌*◌, ◌^◌, ap, ◌∙◌, arith, pos, ◌+ℤ◌}
use Rattle.std.specs.Int.RustNames.{unsigned_abs}
use Rattle.std.proofs.lemmas.Int.{ints}
use Rattle.desk_text.proofs.Sizes.{size_of_aligned}
use Rattle.desk_text.proofs.key.size_of.Goals as goal

pub aligned-number-requires-clause-places : goal.aligned-number-requires-clause-places
aligned-number-requires-clause-places c = omega (arith, ints)

pub returns-clause-size : goal.returns-clause-size
returns-clause-size c =
    let place = unsigned_abs (c.args.place +ℤ pos 999) in
    let aligned = c.aligned-number in
    rw c.from.ensures (size_of_aligned aligned.result.power aligned.result.digits c.args.digits place aligned.ensures.first aligned.ensures.short
    (aligned.ensures.same ∙ ap (λ p. c.args.digits * 10 ^ p) (omega (arith, ints)))).0

pub returns-clause-value : goal.returns-clause-value
returns-clause-value c =
    let place = unsigned_abs (c.args.place +ℤ pos 999) in
    let aligned = c.aligned-number in
    rw c.from.ensures (size_of_aligned aligned.result.power aligned.result.digits c.args.digits place aligned.ensures.first aligned.ensures.short
    (aligned.ensures.same ∙ ap (λ p. c.args.digits * 10 ^ p) (omega (arith, ints)))).1
