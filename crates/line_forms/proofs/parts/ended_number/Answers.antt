use Rattle.std.proofs.Common.{◌*◌, ◌+◌, ◌<◌, length, arith, refl, sym, ap, ◌∙◌, decimal}
use Rattle.std.proofs.lemmas.Bool.Decides.{nat_tests}
use Rattle.line_forms.proofs.Digits.{digit_bound, digits_more, first_digit}
use Rattle.line_forms.proofs.parts.ended_number.Goals as goal

pub loop-digits-init : goal.loop-digits-init
loop-digits-init c =
    let text = c.args.text.now in
    let some : 0 < length text = grind (arith, nat_tests, sym c.is_empty.ensures ∙ c.if-is_empty.false) in
    let digit = digit_bound _ (sym c.is_ascii_digit.ensures.value ∙ c.if-not-is_ascii_digit.false) in
    let other = c.if-text-eq48.false in
    let is = c.from-number.ensures in
    record {
      said = first_digit text _ some refl digit.0 digit.1 ∙ ap decimal (sym is);
      there = omega arith;
      small = omega arith;
      within = omega arith;
    }

pub loop-digits-preserved : goal.loop-digits-preserved
loop-digits-preserved c =
    let text = c.args.text.now in
    let so_far = c.loop-digits.invariant in
    let digit = digit_bound _ (sym c.is_ascii_digit-in-loop-digits.ensures.value ∙ c.if-not-is_ascii_digit-2.false) in
    let within = c.loop-digits-test.true in
    let small = c.if-number-lt100000000.true in
    let there = so_far.there in
    let is = c.from.ensures in
    record {
      said = digits_more text c.loop-digits.digits c.loop-digits.number _ within refl digit.0 digit.1 there small so_far.said ∙ ap (λ z. decimal (c.loop-digits.number * 10 + z)) (sym is);
      there = omega arith;
      small = omega arith;
      within = omega arith;
    }
