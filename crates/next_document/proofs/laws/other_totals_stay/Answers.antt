use Rattle.next_document.proofs.Elsewhere.{kept_elsewhere}
use Rattle.next_document.proofs.laws.other_totals_stay.Goals as goal

pub returns : goal.returns
returns c = kept_elsewhere
