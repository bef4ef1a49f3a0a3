use Rattle.std.proofs.Common.{arith, sym}
use Rattle.measure_laws.proofs.Ranks.{one_counts}
use Rattle.call_trials.proofs.ends.OneRelevantRelevance.relevant_count.Goals as goal

pub returns : goal.returns
returns c = sym (one_counts (λ _. 1) c.args.self.now.doc 0 c.args.self.now.documents (omega arith) (omega (arith, c.args.self.now.within)))
