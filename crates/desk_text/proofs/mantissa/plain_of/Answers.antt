use Rattle.desk_text.proofs.PlainNumbers.{behind_sign, unsigned_rest}
use Rattle.desk_text.proofs.mantissa.plain_of.Goals as goal

pub returns-clause-some : goal.returns-clause-some
returns-clause-some c =
    let cut = c.cut_sign-is_negative in
    behind_sign c.args.text.now cut.result.1.now cut.result.0 _ _ cut.ensures.negative cut.ensures.rest c.in_ok-mantissa.ensures.some

pub returns-in_err-mantissa-clause-none : goal.returns-in_err-mantissa-clause-none
returns-in_err-mantissa-clause-none c =
    let none = c.in_err-mantissa.ensures.none in
    let rest = c.cut_sign-is_negative.ensures.rest in
    rw c.from_residual.ensures (λ short. (rw rest at none) short.0 _ _ (unsigned_rest c.args.text.now _ _ _ short.1.1.1.1))
