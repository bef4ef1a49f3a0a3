use Rattle.std.proofs.Common.{◌∙◌, sym, ap, arith, length}
use Rattle.std.specs.Prelude.{cond, ◌&&◌, Some, None, min, nat_lt}
use Rattle.desk_text.specs.Numbers.{read_on}
use Rattle.desk_text.proofs.DigitLists.{all-more, read_on-more, not_all}
use Rattle.desk_text.proofs.number.magnitude.Goals as goal

pub returns-then-not-is_ascii_digit : goal.returns-then-not-is_ascii_digit
returns-then-not-is_ascii_digit c =
    let bad = not_all c.args.digits.now c.loop-digit.digit-index (omega arith) (sym c.is_ascii_digit.ensures.value ∙ c.if-not-is_ascii_digit.true) in
    ap (λ b. cond (b && nat_lt 0 (length c.args.digits.now)) (Some (min (read_on 0 c.args.digits.now) 18446744073709551615)) None) (sym bad)

pub loop-digit-preserved : goal.loop-digit-preserved
loop-digit-preserved c =
    let more = read_on-more c.args.digits.now c.loop-digit.digit-index (omega arith) in
    record {
      digits = all-more c.args.digits.now c.loop-digit.digit-index (omega arith) c.loop-digit.invariant.digits (sym c.is_ascii_digit.ensures.value ∙ c.if-not-is_ascii_digit.false);
      value = omega (arith, more, c.loop-digit.invariant.value);
    }
