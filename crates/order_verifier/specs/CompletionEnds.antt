-- The ends of the differences of two runs in two completions: the upper end in the low one, and the lower end in the high one.
use Rattle.std.specs.Prelude.{◌≡◌, ℕ, ◌≤◌, List, length, ℤ}
use Rattle.desk_model.specs.Limits.{DOCUMENT_LIMIT}
use Rattle.desk_model.specs.Name.{AreAscending}
use Rattle.measure_laws.specs.Ends.{IsLowerEnd, IsUpperEnd}
use Rattle.measure_laws.specs.Shares.{IsModest}
use Rattle.order_certificate.specs.Claim.{NamedTopic}
use Rattle.order_certificate.specs.Evidence.{IsHighSum, IsLowSum, listed_truth}
use Rattle.order_certificate.specs.declared.certificate.Evidence.TheVariants.{Open}
use Rattle.order_certificate.specs.declared.certificate.TopicWitness.{TopicWitness}
use Rattle.order_verifier.specs.Checks.{OfTopic}
use Rattle.order_verifier.specs.Refusal.{AreCompletions, Compared, HasCompletions, topics_in}
use Rattle.order_verifier.specs.Rows.{ListedOn}
use Rattle.order_verifier.specs.declared.completion.CompletionEnds.{CompletionEnds}

-- a list names documents of a topic, ascending as these do
pub record IsListOn (c : Compared) (topic : ℕ) (list : ListedOn) : Type 0 where
  pub on : OfTopic (topics_in c) topic (λ t. list.docs ≡ t.docs)
  pub docs_ascend : AreAscending list.docs
  pub names_ascend : AreAscending list.names
  pub few : length list.names ≤ DOCUMENT_LIMIT

-- the upper end on a topic in the completion of its low list
abbrev pub IsLowEnd : Compared → ℤ → TopicWitness × NamedTopic → Type 0
IsLowEnd c end p = IsUpperEnd c.measure (length p.1.topic.marks) (listed_truth p.1 p.0.low) (p.1.topic.ranking c.first) (p.1.topic.ranking c.second) end

-- the lower end on a topic in the completion of its high list
abbrev pub IsHighEnd : Compared → ℤ → TopicWitness × NamedTopic → Type 0
IsHighEnd c end p = IsLowerEnd c.measure (length p.1.topic.marks) (listed_truth p.1 p.0.high) (p.1.topic.ranking c.first) (p.1.topic.ranking c.second) end

-- both lists of a topic name unjudged documents, and these are the ends in their completions
pub record AreEndsOn (c : Compared) (p : TopicWitness × NamedTopic) (ends : CompletionEnds) : Type 0 where
  pub unjudged : AreCompletions p
  pub low : IsLowEnd c ends.low p
  pub high : IsHighEnd c ends.high p
  pub low_modest : IsModest ends.low
  pub high_modest : IsModest ends.high

-- all lists name unjudged documents, and these are the sums of the ends over the topics
pub record AreEndSums (c : Compared) (witnesses : List TopicWitness) (sums : CompletionEnds) : Type 0 where
  pub unjudged : HasCompletions c (Open witnesses)
  pub low : IsLowSum c.measure c.first c.second witnesses (topics_in c) sums.low
  pub high : IsHighSum c.measure c.first c.second witnesses (topics_in c) sums.high
