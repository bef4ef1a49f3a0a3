use Rattle.std.proofs.Common.{take}
use Rattle.std.specs.List.{AllByRecursion, zip}
use Rattle.order_verifier.specs.Refusal.{HasLow, HasHigh, topics_in}
use Rattle.order_verifier.proofs.comparison.Comparison.first_too_great.Given as goal

abbrev pub invariant-loop-topic : goal.invariant-loop-topic
invariant-loop-topic g l = AllByRecursion (λ p. HasLow l.self p × HasHigh l.self p) (take l.topic (zip (g.N.BoundRows.bounds l.numbers) (topics_in l.self)))
