use Rattle.std.proofs.Common.{◌*◌, arith, drop, get_or, ◌∙◌, sym, ap, ◌+◌, ◌-◌}
use Rattle.std.specs.Str.Parse.{digits_value_after}
use Rattle.std.proofs.lemmas.Str.Parse.{digit_at}
use Rattle.desk_text.proofs.ScoreDigits.{digits_left, digits_value_after-ge}
use Rattle.desk_text.proofs.significand.with_many.Goals as goal

pub returns-then-number-clause-long : goal.returns-then-number-clause-long
returns-then-number-clause-long c =
    let ds = c.args.digits.now in
    let i = c.loop-digit.digit-index in
    let n = c.loop-digit.number in
    let left = digits_left n ds i c.requires.all_digits (omega arith) in
    let more = digits_value_after-ge (n * 10 + (get_or ds i 0 - 48)) (drop (i + 1) ds) in
    omega (arith, left, more, c.loop-digit.invariant.1)

pub overflow_sub-digit : goal.overflow_sub-digit
overflow_sub-digit c = (digit_at c.args.digits.now c.loop-digit.digit-index c.requires.all_digits (omega arith)).0

pub loop-digit-preserved : goal.loop-digit-preserved
loop-digit-preserved c =
    let ds = c.args.digits.now in
    let i = c.loop-digit.digit-index in
    let digit = digit_at ds i c.requires.all_digits (omega arith) in
    let left = digits_left c.loop-digit.number ds i c.requires.all_digits (omega arith) in
    let value = c.from.ensures in
    (omega arith, ap (λ v. digits_value_after 10 (c.loop-digit.number * 10 + v) (drop (i + 1) ds)) value ∙ sym left ∙ c.loop-digit.invariant.1)
