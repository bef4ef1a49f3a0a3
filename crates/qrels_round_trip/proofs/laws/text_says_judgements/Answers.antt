use Rattle.qrels_round_trip.proofs.Again.{text_says}
use Rattle.qrels_round_trip.proofs.laws.text_says_judgements.Goals as goal

pub returns : goal.returns
returns c = text_says
