use Rattle.qrels_round_trip.proofs.Runs.{runs_kept}
use Rattle.qrels_round_trip.proofs.laws.runs_are_kept.Goals as goal

pub returns : goal.returns
returns c = runs_kept
