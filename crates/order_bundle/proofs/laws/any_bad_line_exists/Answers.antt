use Rattle.order_bundle.proofs.Decided.{any_or_bad}
use Rattle.order_bundle.proofs.laws.any_bad_line_exists.Goals as goal

pub returns : goal.returns
returns c = any_or_bad c.measure_of_text_is_unique.ensures
