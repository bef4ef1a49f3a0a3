use Rattle.std.proofs.Common.{◌≡◌, take, map}
use Rattle.desk_model.specs.Desk.{topics_under}
use Rattle.table_bundle.specs.Drafts.{picks_on}
use Rattle.table_bundle.proofs.standing_table.StandingPair.picks.Given as goal

abbrev pub invariant-loop-topic : goal.invariant-loop-topic
invariant-loop-topic g l = record {
  made : l.made.items ≡ map (picks_on (g.M.Measure.measured l.self.standing.now.table.now.measure) l.self.pair.first l.self.pair.second) (take l.topic (topics_under l.self.standing.now.desk.now l.self.standing.now.marks.now));
}
