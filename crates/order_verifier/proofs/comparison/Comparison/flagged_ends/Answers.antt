use Rattle.order_verifier.proofs.Flags.{all_clear}
use Rattle.order_verifier.proofs.comparison.Comparison.flagged_ends.Goals as goal

pub ends_of-requires-clause-low_clear : goal.ends_of-requires-clause-low_clear
ends_of-requires-clause-low_clear c = λ k. all_clear 16384 k

pub ends_of-requires-clause-high_clear : goal.ends_of-requires-clause-high_clear
ends_of-requires-clause-high_clear c = λ k. all_clear 16384 k
