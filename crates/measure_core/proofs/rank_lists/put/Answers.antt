use Rattle.measure_core.proofs.Slots.{put_first}
use Rattle.measure_core.proofs.rank_lists.put.Goals as goal

pub returns-clause-first : goal.returns-clause-first
returns-clause-first c = put_first c.args.docs.now c.args.count c.args.doc c.args.is_listed c.from.result c.requires c.from.ensures
