use Rattle.std.proofs.Common.{◌≡◌, ◌∙◌, ap, sym, arith, decimal}
use Rattle.line_forms.proofs.Shown.{no_minus_zero, no_minus}
use Rattle.line_forms.proofs.parts.number.Goals as goal

pub returns-in_default-clause-none : goal.returns-in_default-clause-none
returns-in_default-clause-none c z small is =
    let none = c.if-size-gt0.false in
    let zero : c.in-Some-magnitude.size ≡ 0 = omega arith in
    no_minus_zero c.in-Some.digits.now z (c.in-Some-magnitude.ensures.some ∙ ap decimal zero) small (sym c.in-Some.ensures.some ∙ is)

pub returns-in_default-2-clause-none : goal.returns-in_default-2-clause-none
returns-in_default-2-clause-none c z small is =
    no_minus c.in-Some.digits.now c.in_default.ensures.none z small (sym c.in-Some.ensures.some ∙ is)
