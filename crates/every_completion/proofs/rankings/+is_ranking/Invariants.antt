use Rattle.std.proofs.Common.{length}
use Rattle.every_completion.proofs.rankings.+is_ranking.Given as goal

abbrev pub decreases-is_ranking : goal.decreases-is_ranking
decreases-is_ranking l = length l.docs.now
