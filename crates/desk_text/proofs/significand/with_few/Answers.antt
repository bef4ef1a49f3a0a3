use Rattle.std.proofs.Common.{◌*◌, arith, drop, get_or, ◌∙◌, sym, ap, ◌+◌, ◌-◌}
use Rattle.std.specs.Str.Parse.{digits_value_after}
use Rattle.std.proofs.lemmas.Str.Parse.{digit_at}
use Rattle.desk_text.proofs.ScoreDigits.{digits_left, digits_value_after-ge, few_digits}
use Rattle.desk_text.proofs.significand.with_few.Goals as goal

pub overflow_sub-digit : goal.overflow_sub-digit
overflow_sub-digit c = (digit_at c.args.digits.now c.loop-digit.digit-index c.requires.all_digits (omega arith)).0

pub loop-digit-preserved : goal.loop-digit-preserved
loop-digit-preserved c =
    let ds = c.args.digits.now in
    let i = c.loop-digit.digit-index in
    let left = digits_left c.loop-digit.number ds i c.requires.all_digits (omega arith) in
    ap (λ v. digits_value_after 10 (c.loop-digit.number * 10 + v) (drop (i + 1) ds)) c.from.ensures ∙ sym left ∙ c.loop-digit.invariant

pub overflow_mul-number : goal.overflow_mul-number
overflow_mul-number c =
    let ds = c.args.digits.now in
    let i = c.loop-digit.digit-index in
    let n = c.loop-digit.number in
    let left = digits_left n ds i c.requires.all_digits (omega arith) in
    let more = digits_value_after-ge (n * 10 + (get_or ds i 0 - 48)) (drop (i + 1) ds) in
    let few = few_digits c.args.start ds c.requires.all_digits c.requires.small c.requires.few in
    record { fits = omega (arith, left, more, few, c.loop-digit.invariant) }

pub overflow_add-number : goal.overflow_add-number
overflow_add-number c =
    let ds = c.args.digits.now in
    let i = c.loop-digit.digit-index in
    let n = c.loop-digit.number in
    let left = digits_left n ds i c.requires.all_digits (omega arith) in
    let more = digits_value_after-ge (n * 10 + (get_or ds i 0 - 48)) (drop (i + 1) ds) in
    let few = few_digits c.args.start ds c.requires.all_digits c.requires.small c.requires.few in
    record { fits = omega (arith, left, more, few, c.loop-digit.invariant, c.from.ensures) }

pub returns-clause-small : goal.returns-clause-small
returns-clause-small c =
    let ds = c.args.digits.now in
    let more = digits_value_after-ge c.loop-digit.number (drop c.loop-digit.digit-index ds) in
    let few = few_digits c.args.start ds c.requires.all_digits c.requires.small c.requires.few in
    omega (arith, more, few, c.loop-digit.invariant)
