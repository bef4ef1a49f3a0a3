use Rattle.next_document.proofs.Elsewhere.{were_kept}
use Rattle.next_document.proofs.laws.totals_were_kept.Goals as goal

pub returns : goal.returns
returns c = were_kept
