use Rattle.std.proofs.Common.{true}
use Rattle.order_bundle.proofs.Decided.{text_or_bad_with}
use Rattle.order_bundle.proofs.laws.scoped_bad_line_exists.Goals as goal

pub returns : goal.returns
returns c = text_or_bad_with c.measure_of_text_is_unique.ensures true
