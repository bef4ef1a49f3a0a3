use Rattle.order_bundle.proofs.Either.{text_of_body}
use Rattle.order_bundle.proofs.reading.read_any.Goals as goal

pub returns-in-Ok : goal.returns-in-Ok
returns-in-Ok c = text_of_body c.args.bytes.now c.in-Ok.scoped c.in-Ok.ensures
