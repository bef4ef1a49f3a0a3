use Rattle.std.proofs.Common.{length}
use Rattle.topic_counts.proofs.Seen.{IsRanking-wider}
use Rattle.measure_core.proofs.ranked_rows.set_apart.Goals as goal

pub place_ranks-requires : goal.place_ranks-requires
place_ranks-requires c = IsRanking-wider (length c.args.run.now.marks.now) _ c.args.run.now.run.now c.requires.ranks c.args.run.now.met.ranking
