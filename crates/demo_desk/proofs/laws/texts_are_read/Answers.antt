use Rattle.demo_desk.proofs.Said.{texts_read}
use Rattle.demo_desk.proofs.laws.texts_are_read.Goals as goal

pub returns : goal.returns
returns c = texts_read
