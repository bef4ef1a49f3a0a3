-- Which line may stand where in the text of a certificate.
use Rattle.std.specs.Prelude.{ℕ, ◌<◌, List, ◌++◌, codes}
use Rattle.std.specs.List.{AllByRecursion}
use Rattle.desk_model.specs.MeasureText.{IsMeasure, measure_text}
use Rattle.desk_model.specs.declared.types.MeasureName.{MeasureName}
use Rattle.line_forms.specs.Form.{Form, Whole, Line, IsTextIn, bind}
use Rattle.line_forms.specs.Places.{IsLaterName, count_line, fixed_place, later_name_place, name_and_count_place, name_place, number_place}
use Rattle.line_forms.specs.Rows.{named_rows}
use Rattle.order_certificate.specs.Certificate.{low_line, low_high_line, IsLevel, IsTopicCount, IsDocumentCount, IsLowBound, IsLowHighBound}
use Rattle.order_certificate.specs.declared.certificate.Certificate.{Certificate}
use Rattle.order_certificate.specs.declared.certificate.Evidence.{Evidence}
use Rattle.order_certificate.specs.declared.certificate.Evidence.TheVariants.{Above, Equal, Open}
use Rattle.order_certificate.specs.declared.certificate.TopicBound.{TopicBound}
use Rattle.order_certificate.specs.declared.certificate.TopicWitness.{TopicWitness}
use Rattle.order_certificate.specs.declared.places.Claim.{Claim}
use Rattle.order_certificate.specs.declared.places.Claim.TheVariants as claimed

abbrev pub measure_place : Form MeasureName
measure_place = Line (λ measure. codes "measure " ++ measure_text measure) IsMeasure Whole

abbrev pub level_place : Form ℕ
level_place = number_place (codes "level ") IsLevel

-- how many topics follow
abbrev pub topics_place : Form ℕ
topics_place = number_place (codes "topics ") IsTopicCount

abbrev pub document_place : List ℕ → Form (List ℕ)
document_place = later_name_place (codes "doc ")

abbrev pub low_place : List ℕ → Form TopicBound
low_place before = Line low_line (λ b. IsLaterName before b.topic × IsLowBound b) Whole

abbrev pub low_high_place : List ℕ → Form TopicBound
low_high_place before = Line low_high_line (λ b. IsLaterName before b.topic × IsLowHighBound b) Whole

-- a topic, and how many documents its first list has
abbrev pub low_count_place : List ℕ → Form (List ℕ × ℕ)
low_count_place = name_and_count_place (codes "low ") IsDocumentCount

-- how many documents the second list of a topic has
abbrev pub high_count_place : List ℕ → Form ℕ
high_count_place topic = Line (λ n. count_line (codes "high ") topic n) IsDocumentCount Whole

-- a word ends no line: each byte is above the line feed
abbrev pub IsWord : List ℕ → Type 0
IsWord bytes = AllByRecursion (λ b. 10 < b) bytes

-- so many names, each after a word
abbrev pub name_places : List ℕ → ℕ → Form (List (List ℕ))
name_places word n = named_rows (later_name_place word) (λ name. name) n

-- so many documents
abbrev pub document_places : ℕ → Form (List (List ℕ))
document_places = name_places (codes "doc ")

-- a topic's second list after its first, and both, each after its count
abbrev pub high_places : List ℕ → List (List ℕ) → Form TopicWitness
high_places topic low =
    bind (high_count_place topic) (λ n. bind (document_places n) (λ high. Whole (record { topic = topic; low = low; high = high })))

abbrev pub listed_places : List ℕ → ℕ → Form TopicWitness
listed_places topic n = bind (document_places n) (high_places topic)

abbrev pub witness_places : List ℕ → Form TopicWitness
witness_places before = bind (low_count_place before) (λ p. listed_places p.0 p.1)

abbrev pub claim_line : Claim → List ℕ
claim_line claimed.Above = codes "claim above"
claim_line claimed.Equal = codes "claim equal"
claim_line claimed.Open = codes "claim open"

abbrev pub claim_place : Form Claim
claim_place = Line claim_line (λ _. Unit {0}) Whole

-- the evidence of a claim on so many topics
abbrev pub claim_rows : Claim → ℕ → Form Evidence
claim_rows claimed.Above n = bind (named_rows low_place (λ b. b.topic) n) (λ bounds. Whole (Above bounds))
claim_rows claimed.Equal n = bind (named_rows low_high_place (λ b. b.topic) n) (λ bounds. Whole (Equal bounds))
claim_rows claimed.Open n = bind (named_rows witness_places (λ w. w.topic) n) (λ witnesses. Whole (Open witnesses))

-- the number of topics, and the evidence on them
abbrev pub claim_places : Claim → Form Evidence
claim_places claim = bind topics_place (claim_rows claim)

abbrev pub evidence_places : Form Evidence
evidence_places = bind claim_place claim_places

-- what a certificate asks for from each of its lines on
abbrev pub from_end : MeasureName → ℕ → List ℕ → List ℕ → Evidence → Form Certificate
from_end measure level first second evidence =
    bind (fixed_place (codes "end")) (λ _. Whole (record { measure = measure; level = level; first = first; second = second; evidence = evidence }))

abbrev pub from_evidence : MeasureName → ℕ → List ℕ → List ℕ → Form Certificate
from_evidence measure level first second = bind evidence_places (from_end measure level first second)

abbrev pub from_second : MeasureName → ℕ → List ℕ → Form Certificate
from_second measure level first = bind (name_place (codes "second ")) (from_evidence measure level first)

abbrev pub from_first : MeasureName → ℕ → Form Certificate
from_first measure level = bind (name_place (codes "first ")) (from_second measure level)

abbrev pub from_level : MeasureName → Form Certificate
from_level measure = bind level_place (from_first measure)

abbrev pub from_measure : Form Certificate
from_measure = bind measure_place from_level

-- the places of a certificate, from its first line to its last
abbrev pub certificate_places : Form Certificate
certificate_places = bind (fixed_place (codes "desk-certificate 1")) (λ _. from_measure)

-- bytes are the text of a certificate
abbrev pub IsText : List ℕ → Certificate → Type 0
IsText = IsTextIn certificate_places
