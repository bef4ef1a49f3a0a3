use Rattle.pair_table.proofs.PairNumbers.{pair_numbered}
use Rattle.pair_table.proofs.two_runs.OrderedRuns.number.Goals as goal

pub returns : goal.returns
returns c = pair_numbered c.args.self.now.runs c.args.self.now.first c.args.self.now.second c.args.self.now.order c.args.self.now.within
