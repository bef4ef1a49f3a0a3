use Rattle.std.proofs.Common.{◌≡◌, ◌∙◌, sym, arith, decimal}
use Rattle.std.proofs.lemmas.Fmt.{decimal_injective}
use Rattle.std.proofs.lemmas.List.{append_cancel_left}
use Rattle.line_forms.proofs.parts.number_below_of.Goals as goal

pub returns-then-from-end : goal.returns-then-from-end
returns-then-from-end c part fits e =
    let number = c.in_ok-number.number in
    let most = c.requires in
    let small = c.in_ok-number.ensures.0.1 in
    let below = fits.1 in
    let same : number ≡ part = decimal_injective number part (omega arith) (omega arith) (append_cancel_left c.args.word.now (decimal number) (decimal part) (sym c.in_ok-number.ensures.1 ∙ e)) in
    let over = c.if-from-end.true in
    let is = c.from.ensures in
    omega arith
