use Rattle.order_bundle.proofs.ScopedLengths.{scoped_length}
use Rattle.order_bundle.proofs.laws.scoped_text_length.Goals as goal

pub returns : goal.returns
returns c = scoped_length
