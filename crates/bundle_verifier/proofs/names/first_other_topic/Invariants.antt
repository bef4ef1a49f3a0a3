use Rattle.std.proofs.Common.{◌≡◌, List, ℕ, take}
use Rattle.std.specs.List.{AllByRecursion, zip}
use Rattle.order_verifier.specs.Refusal.{topic_names}
use Rattle.bundle_verifier.specs.Refusal.{names_of_topics}
use Rattle.bundle_verifier.proofs.names.first_other_topic.Given as goal

pub record Passed (names own : List (List ℕ)) (index topic : ℕ) : Type 0 where
  pub number : topic ≡ index
  pub same : AllByRecursion (λ (p : List ℕ × List ℕ). p.0 ≡ p.1) (take index (zip names own))

abbrev pub invariant-loop-item : goal.invariant-loop-item
invariant-loop-item l = Passed (names_of_topics l.topics) (topic_names l.desk) l.item-index l.topic
