-- When a certificate is evidence for what it claims of a desk under marks.
use Rattle.std.specs.Prelude.{◌≡◌, ◌≢◌, ℕ, Bool, true, List, All, length, map, Some, ℤ, pos, ◌≤ℤ◌, ◌<ℤ◌}
use Rattle.std.specs.List.{AllZip, zip}
use Rattle.desk_model.specs.Completion.{with_picked}
use Rattle.desk_model.specs.Desk.{Desk, IsDesk, AreMarksOf}
use Rattle.desk_model.specs.Extremes.{Ends}
use Rattle.desk_model.specs.Mark.{mark_at}
use Rattle.desk_model.specs.MeasureText.{IsMeasure}
use Rattle.desk_model.specs.Name.{number_of}
use Rattle.desk_model.specs.Verdict.{whole_sum, differs}
use Rattle.desk_model.specs.declared.types.Mark.{Mark}
use Rattle.desk_model.specs.declared.types.Mark.TheVariants.{Unjudged}
use Rattle.desk_model.specs.declared.types.MeasureName.{MeasureName}
use Rattle.measure_laws.specs.Ends.{HasEnds, IsUpperEnd, IsLowerEnd}
use Rattle.order_certificate.specs.Claim.{NamedTopic, named_topics, is_listed, AreItsRuns, NamesTopics}
use Rattle.order_certificate.specs.declared.certificate.Certificate.{Certificate}
use Rattle.order_certificate.specs.declared.certificate.Evidence.{Evidence}
use Rattle.order_certificate.specs.declared.certificate.Evidence.TheVariants.{Above, Equal, Open}
use Rattle.order_certificate.specs.declared.certificate.TopicBound.{TopicBound}
use Rattle.order_certificate.specs.declared.certificate.TopicWitness.{TopicWitness}

-- each number is at most the lower end of the least difference of its topic
abbrev pub AreLows : MeasureName → ℕ → ℕ → List ℤ → List NamedTopic → Type 0
AreLows measure a b lows topics =
    AllZip (λ low (t : NamedTopic). (ends : Ends) × HasEnds measure t.topic.marks (t.topic.ranking a) (t.topic.ranking b) ends × (low ≤ℤ ends.least_lo)) lows topics

-- each number is at least the upper end of the greatest difference of its topic
abbrev pub AreHighs : MeasureName → ℕ → ℕ → List ℤ → List NamedTopic → Type 0
AreHighs measure a b highs topics =
    AllZip (λ high (t : NamedTopic). (ends : Ends) × HasEnds measure t.topic.marks (t.topic.ranking a) (t.topic.ranking b) ends × (ends.most_hi ≤ℤ high)) highs topics

-- each name is that of an unjudged document of the topic
abbrev pub AreUnjudged : NamedTopic → List (List ℕ) → Type 0
AreUnjudged t names = All (λ name. (doc : ℕ) × (number_of t.docs name ≡ Some doc) × (mark_at t.topic.marks doc ≡ Unjudged)) names

-- the truth values by which of the unjudged documents exactly the listed ones are relevant
abbrev pub listed_truth : NamedTopic → List (List ℕ) → ℕ → Bool
listed_truth t names = with_picked t.topic.marks (is_listed t names)

-- the sum over the topics of the upper end of the difference in the low completion
abbrev pub IsLowSum : MeasureName → ℕ → ℕ → List TopicWitness → List NamedTopic → ℤ → Type 0
IsLowSum measure a b witnesses topics sum =
    (ends : List ℤ) × AllZip (λ end (p : TopicWitness × NamedTopic). IsUpperEnd measure (length p.1.topic.marks) (listed_truth p.1 p.0.low) (p.1.topic.ranking a) (p.1.topic.ranking b) end) ends (zip witnesses topics)
    × (sum ≡ whole_sum ends)

-- the sum over the topics of the lower end of the difference in the high completion
abbrev pub IsHighSum : MeasureName → ℕ → ℕ → List TopicWitness → List NamedTopic → ℤ → Type 0
IsHighSum measure a b witnesses topics sum =
    (ends : List ℤ) × AllZip (λ end (p : TopicWitness × NamedTopic). IsLowerEnd measure (length p.1.topic.marks) (listed_truth p.1 p.0.high) (p.1.topic.ranking a) (p.1.topic.ranking b) end) ends (zip witnesses topics)
    × (sum ≡ whole_sum ends)

-- the numbers of bounds
abbrev pub lows_of : List TopicBound → List ℤ
lows_of bounds = map (λ (b : TopicBound). b.low) bounds

abbrev pub highs_of : List TopicBound → List ℤ
highs_of bounds = map (λ (b : TopicBound). b.high) bounds

-- what evidence shows of two runs: lower numbers with a positive sum; lower numbers with a sum from 0 and upper numbers with a sum to 0; or lists of
-- unjudged documents, where the sums of the two completions are on two sides of 0, or one of them is 0
abbrev pub Shows : MeasureName → List NamedTopic → ℕ → ℕ → Evidence → Type 0
Shows measure topics a b (Above bounds) = AreLows measure a b (lows_of bounds) topics × (pos 0 <ℤ whole_sum (lows_of bounds))
Shows measure topics a b (Equal bounds) =
    AreLows measure a b (lows_of bounds) topics × AreHighs measure a b (highs_of bounds) topics
    × (pos 0 ≤ℤ whole_sum (lows_of bounds)) × (whole_sum (highs_of bounds) ≤ℤ pos 0)
Shows measure topics a b (Open witnesses) =
    AllZip (λ (w : TopicWitness) t. AreUnjudged t w.low × AreUnjudged t w.high) witnesses topics
    × (low : ℤ) × (high : ℤ) × IsLowSum measure a b witnesses topics low × IsHighSum measure a b witnesses topics high × (differs low high ≡ true)

-- a certificate is evidence: it names two runs of the desk and the desk's topics in order, and its numbers or lists show what it claims
pub record IsEvidence (c : Certificate) (desk : Desk) (marks : List (List Mark)) : Type 0 where
  pub first : ℕ
  pub second : ℕ
  pub runs : AreItsRuns c desk first second
  pub two_runs : first ≢ second
  pub topics : NamesTopics c.evidence desk
  pub shows : Shows c.measure (named_topics desk marks) first second c.evidence

-- a fact of every certificate of a measure that is evidence for a desk under its marks
abbrev pub ForEvidence : (Certificate → Desk → List (List Mark) → Type 0) → Type 0
ForEvidence fact =
    (c : Certificate) (desk : Desk) (marks : List (List Mark)) → IsMeasure c.measure → IsDesk desk → AreMarksOf desk marks → IsEvidence c desk marks → fact c desk marks
