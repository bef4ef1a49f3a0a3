use Rattle.std.proofs.Common.{arith, sym, ap, ◌∙◌, decimal}
use Rattle.std.proofs.lemmas.Fmt.{decimal_injective}
use Rattle.desk_words.proofs.value.number_from_1.Goals as goal

pub returns-then-number-eq0-clause-none : goal.returns-then-number-eq0-clause-none
returns-then-number-eq0-clause-none c n some few is =
    let same = decimal_injective n 0 (omega arith) (omega arith) (sym is ∙ c.in_ok-number.ensures.some ∙ ap decimal c.if-number-eq0.true) in
    omega arith
