use Rattle.desk_model.proofs.DeskTopics.{length-topics_under, small_universes, rankings_over_universes}
use Rattle.desk_model.proofs.laws.rankings_are_over_universes.Goals as goal

pub returns : goal.returns
returns c = record {
  topics = length-topics_under;
  small = λ desk marks valid known. small_universes desk marks valid known;
  rankings = λ desk marks run valid known in_range. rankings_over_universes desk marks valid known run in_range;
}
