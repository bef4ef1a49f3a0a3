use Rattle.std.proofs.Common.{◌≡◌, ◌≤◌, take}
use Rattle.desk_model.specs.Desk.{topics_under}
use Rattle.pair_table.specs.Sums.{cell_ends}
use Rattle.order_tiers.specs.Order.{wins_in, losses_in}
use Rattle.order_tiers.proofs.covers.cover_of.Given as goal

abbrev pub invariant-loop-topic : goal.invariant-loop-topic
invariant-loop-topic g l = record {
  wins : l.wins ≡ wins_in (take l.topic (cell_ends (g.M.Measure.cell_of l.table.measure) (topics_under l.pair.desk.now l.marks) l.pair.first l.pair.second));
  losses : l.losses ≡ losses_in (take l.topic (cell_ends (g.M.Measure.cell_of l.table.measure) (topics_under l.pair.desk.now l.marks) l.pair.first l.pair.second));
  few_wins : l.wins ≤ l.topic;
  few_losses : l.losses ≤ l.topic;
}
