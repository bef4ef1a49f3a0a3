use Rattle.order_bundle.proofs.FirstLines.{no_version}
use Rattle.order_bundle.proofs.laws.first_line_names_the_version.Goals as goal

pub returns : goal.returns
returns c = no_version
