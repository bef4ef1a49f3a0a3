use Rattle.std.proofs.Common.{◌≡◌, ◌*◌, ◌≤◌, length, take}
use Rattle.std.specs.List.{sum_by}
use Rattle.desk_model.specs.Desk.{topics_under}
use Rattle.table_bundle.specs.Drafts.{drafts_on}
use Rattle.table_bundle.specs.Lengths.{length_but_lists, open_pairs}
use Rattle.table_bundle.proofs.standing_table.StandingPairs.count_claims.Given as goal

abbrev pub invariant-loop-pair : goal.invariant-loop-pair
invariant-loop-pair g l = record {
  undecided : l.undecided.items ≡ open_pairs (g.M.Measure.cell_of l.self.standing.now.table.now.measure) (topics_under l.self.standing.now.desk.now l.self.standing.now.marks.now) (take l.pair-index l.pairs);
  claims : l.claims ≡ length (drafts_on (g.M.Measure.cell_of l.self.standing.now.table.now.measure) (g.M.Measure.measured l.self.standing.now.table.now.measure) (topics_under l.self.standing.now.desk.now l.self.standing.now.marks.now) (take l.pair-index l.pairs));
  bytes : l.bytes ≡ sum_by length_but_lists (drafts_on (g.M.Measure.cell_of l.self.standing.now.table.now.measure) (g.M.Measure.measured l.self.standing.now.table.now.measure) (topics_under l.self.standing.now.desk.now l.self.standing.now.marks.now) (take l.pair-index l.pairs));
  few_claims : l.claims ≤ l.pair-index;
  few_bytes : l.bytes ≤ 23000002000200 * l.pair-index;
}
