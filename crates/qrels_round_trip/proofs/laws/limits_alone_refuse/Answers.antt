use Rattle.qrels_round_trip.proofs.Again.{limits_refuse}
use Rattle.qrels_round_trip.proofs.laws.limits_alone_refuse.Goals as goal

pub returns : goal.returns
returns c = limits_refuse
