use Rattle.std.proofs.Common.{◌<◌, arith, length}
use Rattle.desk_text.proofs.PlainNumbers.{pointed, the_point}
use Rattle.desk_text.proofs.mantissa.mantissa_of.Goals as goal
use Rattle.desk_text.proofs.mantissa.mantissa_of.Goals.{then-text-eq1-via-then-text-eq1, then-text-eq1-via-else-text-eq1+then-text-whole-ne46}

pub returns-clause-some : goal.returns-clause-some
returns-clause-some c =
    let whole = c.with_digits-whole in
    let all = c.with_digits-all in
    pointed c.args.text.now whole.result.end whole.result.number all.result.end all.result.number whole.ensures.digits (omega (arith, whole.ensures.digits.within)) (omega arith) all.ensures.digits (omega (arith, all.ensures.digits.within)) (omega (arith, whole.ensures.digits.within))

pub returns-then-text-eq1-clause-none : goal.returns-then-text-eq1-clause-none
returns-then-text-eq1-clause-none c short digits places m =
    let whole = c.with_digits-whole in
    let inside : whole.result.end < length c.args.text.now = omega (arith, whole.ensures.digits.within) in
    let point = the_point c.args.text.now digits places whole.result.end m inside (whole.ensures.stop inside) in
    elim c.then-text-eq1.branch [
      | then-text-eq1-via-then-text-eq1 w ↦ absurd (omega (arith, point.beside))
      | then-text-eq1-via-else-text-eq1+then-text-whole-ne46 w ↦ absurd (omega (arith, point.byte))
    ]

pub returns-then-all-text-clause-none : goal.returns-then-all-text-clause-none
returns-then-all-text-clause-none c short digits places m =
    let whole = c.with_digits-whole in
    let all = c.with_digits-all in
    let inside : whole.result.end < length c.args.text.now = omega (arith, whole.ensures.digits.within) in
    let before = the_point c.args.text.now digits places whole.result.end m inside (whole.ensures.stop inside) in
    let after = the_point c.args.text.now digits places all.result.end m c.if-all-text.true (all.ensures.stop c.if-all-text.true) in
    absurd (omega (arith, before.place, after.place, all.ensures.digits.order))
