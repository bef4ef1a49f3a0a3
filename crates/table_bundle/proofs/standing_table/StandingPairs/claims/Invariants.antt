use Rattle.std.proofs.Common.{◌≡◌, take}
use Rattle.desk_model.specs.Desk.{topics_under}
use Rattle.table_bundle.specs.Drafts.{drafts_on}
use Rattle.table_bundle.proofs.standing_table.StandingPairs.claims.Given as goal

abbrev pub invariant-loop-pair : goal.invariant-loop-pair
invariant-loop-pair g l = record { made : l.claims.items ≡ drafts_on (g.M.Measure.cell_of l.self.standing.now.table.now.measure) (g.M.Measure.measured l.self.standing.now.table.now.measure) (topics_under l.self.standing.now.desk.now l.self.standing.now.marks.now) (take l.pair-index l.pairs) }
