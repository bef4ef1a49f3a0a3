use Rattle.std.proofs.Common.{ℕ, length, ap, sym, ◌∙◌}
use Rattle.next_document.proofs.Pairs.{number_pairs, length-number_pairs}
use Rattle.next_trials.proofs.proposals.next_of.Goals as goal

-- two runs make one pair
pub next-requires-clause-verdicts : goal.next-requires-clause-verdicts
next-requires-clause-verdicts c = ap (λ (n : ℕ). length (number_pairs n)) (sym c.in_ok-desk.ensures) ∙ length-number_pairs c.in_ok-desk.desk.runs
