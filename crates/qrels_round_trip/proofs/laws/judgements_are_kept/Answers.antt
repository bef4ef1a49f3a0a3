use Rattle.qrels_round_trip.proofs.Again.{are_kept}
use Rattle.qrels_round_trip.proofs.laws.judgements_are_kept.Goals as goal

pub returns : goal.returns
returns c = are_kept
