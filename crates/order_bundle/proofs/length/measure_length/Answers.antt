use Rattle.std.proofs.Common.{◌≡◌, ◌+◌, ◌-◌, ◌<◌, length, arith, length-append, length-drop}
use Rattle.std.specs.Prelude.{codes, decimal}
use Rattle.std.proofs.lemmas.Fmt.{decimal_nonempty}
use Rattle.desk_model.specs.MeasureText.{persistence_digits}
use Rattle.order_bundle.proofs.length.measure_length.Goals as goal

pub returns-in-Biased-clause-count : goal.returns-in-Biased-clause-count
returns-in-Biased-clause-count c =
    let top = c.in-Biased.top in
    let bottom = c.in-Biased.bottom in
    let digits = rw (c.from-in-Biased.ensures, c.from-in-Biased-2.ensures) at c.digits-in-Biased.ensures.count in
    let some : 0 < length (decimal (bottom + top)) = decimal_nonempty (bottom + top) (omega arith) in
    let rest : length (persistence_digits top bottom) ≡ length (decimal (bottom + top)) - 1 = length-drop 1 (decimal (bottom + top)) in
    rw c.in-Biased.is (omega (arith, digits, some, rest, length-append (codes "rbp_0.") (persistence_digits top bottom)))
