use Rattle.order_bundle.proofs.Either.{one_of_any, text_of_one}
use Rattle.order_bundle.proofs.FirstLines.{bad_in_any, bad_in_one}
use Rattle.order_bundle.proofs.laws.version_1_is_as_before.Goals as goal

pub returns-clause-text : goal.returns-clause-text
returns-clause-text c bytes it = (text_of_one bytes it, one_of_any bytes it)

pub returns-clause-bad : goal.returns-clause-bad
returns-clause-bad c bytes more n e =
    let unique = c.measure_of_text_is_unique.ensures in
    (bad_in_any unique bytes more n e, bad_in_one unique bytes more n e)
