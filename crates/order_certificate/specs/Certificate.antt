-- Certificates and their text.
use Rattle.std.specs.Prelude.{◌≡◌, ℕ, ◌≤◌, true, List, [], ◌∷◌, ◌++◌, All, length, map, flat_map, codes, decimal, pos}
use Rattle.std.specs.Fmt.{signed_decimal}
use Rattle.desk_model.specs.Limits.{DOCUMENT_LIMIT, TOPIC_LIMIT}
use Rattle.desk_model.specs.Name.{is_name}
use Rattle.desk_model.specs.MeasureText.{IsMeasure, measure_text}
use Rattle.desk_model.specs.declared.types.MeasureName.{MeasureName}
use Rattle.line_forms.specs.Form.{text_of}
use Rattle.line_forms.specs.Places.{AreAscendingNames, IsShortNumber, count_line}
use Rattle.order_certificate.specs.declared.certificate.Certificate.{Certificate}
use Rattle.order_certificate.specs.declared.certificate.Evidence.{Evidence}
use Rattle.order_certificate.specs.declared.certificate.Evidence.TheVariants.{Above, Equal, Open}
use Rattle.order_certificate.specs.declared.certificate.TopicBound.{TopicBound}
use Rattle.order_certificate.specs.declared.certificate.TopicWitness.{TopicWitness}

-- the first lines: which form it is, and what the runs are compared by
abbrev pub opening_lines : MeasureName → ℕ → List (List ℕ)
opening_lines measure level =
    codes "desk-certificate 1" ∷ (codes "measure " ++ measure_text measure) ∷ (codes "level " ++ decimal level) ∷ []

-- the topic and its lower number
abbrev pub low_line : TopicBound → List ℕ
low_line bound = codes "topic " ++ bound.topic ++ 32 ∷ signed_decimal bound.low

-- the topic and both its numbers
abbrev pub low_high_line : TopicBound → List ℕ
low_high_line bound = low_line bound ++ 32 ∷ signed_decimal bound.high

abbrev pub document_line : List ℕ → List ℕ
document_line name = codes "doc " ++ name

-- the two lists of a topic
abbrev pub witness_lines : TopicWitness → List (List ℕ)
witness_lines w =
    (count_line (codes "low ") w.topic (length w.low) ∷ map document_line w.low)
    ++ (count_line (codes "high ") w.topic (length w.high) ∷ map document_line w.high)

abbrev pub topics_line : ℕ → List ℕ
topics_line count = codes "topics " ++ decimal count

-- the claim, and the evidence topic by topic
abbrev pub evidence_lines : Evidence → List (List ℕ)
evidence_lines (Above bounds) = codes "claim above" ∷ topics_line (length bounds) ∷ map low_line bounds
evidence_lines (Equal bounds) = codes "claim equal" ∷ topics_line (length bounds) ∷ map low_high_line bounds
evidence_lines (Open witnesses) = codes "claim open" ∷ topics_line (length witnesses) ∷ flat_map witness_lines witnesses

-- the line of the claim
abbrev pub claim_of : Evidence → List ℕ
claim_of (Above bounds) = codes "claim above"
claim_of (Equal bounds) = codes "claim equal"
claim_of (Open witnesses) = codes "claim open"

-- the six lines that say what is claimed: which form it is, what the runs are compared by, which runs they are, and the claim
abbrev pub first_lines : Certificate → List (List ℕ)
first_lines c = opening_lines c.measure c.level ++ (codes "first " ++ c.first) ∷ (codes "second " ++ c.second) ∷ claim_of c.evidence ∷ []

-- the lines from that of the first run on: which runs they are, the evidence, and the end
abbrev pub from_first_lines : Certificate → List (List ℕ)
from_first_lines c = (codes "first " ++ c.first) ∷ (codes "second " ++ c.second) ∷ evidence_lines c.evidence ++ codes "end" ∷ []

abbrev pub certificate_lines : Certificate → List (List ℕ)
certificate_lines c = opening_lines c.measure c.level ++ from_first_lines c

-- the text of a certificate
unfoldable pub certificate_text : Certificate → List ℕ
certificate_text c = text_of (certificate_lines c)

-- a level is from 1 to 1,000
abbrev pub IsLevel : ℕ → Type 0
IsLevel level = (1 ≤ level) × (level ≤ 1000)

abbrev pub IsTopicCount : ℕ → Type 0
IsTopicCount n = (1 ≤ n) × (n ≤ TOPIC_LIMIT)

abbrev pub IsDocumentCount : ℕ → Type 0
IsDocumentCount n = n ≤ DOCUMENT_LIMIT

-- topics of evidence
pub record AreTopics (names : List (List ℕ)) : Type 0 where
  pub count : IsTopicCount (length names)
  pub ascending : AreAscendingNames names

-- documents of a list
pub record AreDocuments (names : List (List ℕ)) : Type 0 where
  pub count : IsDocumentCount (length names)
  pub ascending : AreAscendingNames names

-- a lower number alone, and both numbers
abbrev pub IsLowBound : TopicBound → Type 0
IsLowBound b = IsShortNumber b.low × (b.high ≡ pos 0)

abbrev pub IsLowHighBound : TopicBound → Type 0
IsLowHighBound b = IsShortNumber b.low × IsShortNumber b.high

-- two lists
abbrev pub AreLists : TopicWitness → Type 0
AreLists w = AreDocuments w.low × AreDocuments w.high

-- what can be written of the evidence
abbrev pub IsWritable : Evidence → Type 0
IsWritable (Above bounds) = AreTopics (map (λ (b : TopicBound). b.topic) bounds) × All IsLowBound bounds
IsWritable (Equal bounds) = AreTopics (map (λ (b : TopicBound). b.topic) bounds) × All IsLowHighBound bounds
IsWritable (Open witnesses) = AreTopics (map (λ (w : TopicWitness). w.topic) witnesses) × All AreLists witnesses

-- a certificate that has a text
pub record IsCertificate (c : Certificate) : Type 0 where
  pub measure : IsMeasure c.measure
  pub level : IsLevel c.level
  pub first : is_name c.first ≡ true
  pub second : is_name c.second ≡ true
  pub evidence : IsWritable c.evidence
