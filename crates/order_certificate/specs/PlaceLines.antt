-- Which line of a certificate says what stands at a place.
use Rattle.std.specs.Prelude.{◌≡◌, ◌⊎◌, ℕ, ◌+◌, ◌-◌, ◌<◌, List, [], ◌∷◌, ◌++◌, length, map, flat_map, take, slice_get, codes, unwrap_or, Some}
use Rattle.std.specs.Option.{option_map}
use Rattle.order_certificate.specs.Certificate.{certificate_lines, document_line, low_high_line, low_line, topics_line, witness_lines}
use Rattle.order_certificate.specs.Claim.{topics_of}
use Rattle.order_certificate.specs.declared.certificate.Certificate.{Certificate}
use Rattle.order_certificate.specs.declared.certificate.Evidence.{Evidence}
use Rattle.order_certificate.specs.declared.certificate.Evidence.TheVariants.{Above, Equal, Open}
use Rattle.order_certificate.specs.declared.certificate.TopicWitness.{TopicWitness}
use Rattle.order_certificate.specs.declared.place.CertificatePlace.{CertificatePlace}
use Rattle.order_certificate.specs.declared.place.CertificatePlace.TheVariants.{FirstRun, SecondRun, TopicCount, Topic, Document}
use Rattle.order_certificate.specs.declared.place.WitnessList.{WitnessList}
use Rattle.order_certificate.specs.declared.place.WitnessList.TheVariants.{Low, High}

-- one of the two lists of a witness
abbrev pub names_listed : WitnessList → TopicWitness → List (List ℕ)
names_listed Low w = w.low
names_listed High w = w.high

-- the documents that evidence lists of a topic
abbrev pub documents_of : Evidence → ℕ → WitnessList → List (List ℕ)
documents_of (Above bounds) topic list = []
documents_of (Equal bounds) topic list = []
documents_of (Open witnesses) topic list = unwrap_or (option_map (names_listed list) (slice_get witnesses topic)) []

-- evidence has a topic, or a document on a list, at this place
abbrev pub HasPlace : Evidence → CertificatePlace → Type 0
HasPlace evidence FirstRun = Unit {0}
HasPlace evidence SecondRun = Unit {0}
HasPlace evidence TopicCount = Unit {0}
HasPlace evidence (Topic topic) = topic < length (topics_of evidence)
HasPlace evidence (Document topic list document) = document < length (documents_of evidence topic list)

-- the lines on the topics before one
abbrev pub lines_before : Evidence → ℕ → List (List ℕ)
lines_before (Above bounds) topic = map low_line (take topic bounds)
lines_before (Equal bounds) topic = map low_high_line (take topic bounds)
lines_before (Open witnesses) topic = flat_map witness_lines (take topic witnesses)

-- seven lines come before all topics
abbrev pub line_of_topic : Evidence → ℕ → ℕ
line_of_topic evidence topic = 8 + length (lines_before evidence topic)

-- the number, from 1, of the line that says what stands at a place
abbrev pub line_of_place : Evidence → CertificatePlace → ℕ
line_of_place evidence FirstRun = 4
line_of_place evidence SecondRun = 5
line_of_place evidence TopicCount = 7
line_of_place evidence (Topic topic) = line_of_topic evidence topic
line_of_place evidence (Document topic Low document) = line_of_topic evidence topic + 1 + document
line_of_place evidence (Document topic High document) = line_of_topic evidence topic + 2 + length (documents_of evidence topic Low) + document

-- ---- what such a line says
-- a fact of the line of a certificate with a number, from 1
abbrev pub OfLine : Certificate → ℕ → (List ℕ → Type 0) → Type 0
OfLine c number fact = (line : List ℕ) × (slice_get (certificate_lines c) (number - 1) ≡ Some line) × fact line

-- a line names a topic of evidence
abbrev pub NamesTopic : List ℕ → List ℕ → Type 0
NamesTopic name line = (rest : List ℕ) × ((line ≡ codes "topic " ++ name ++ 32 ∷ rest) ⊎ (line ≡ codes "low " ++ name ++ 32 ∷ rest))

-- a line says what stands at a place of a certificate
abbrev pub SaysPlace : Certificate → CertificatePlace → List ℕ → Type 0
SaysPlace c FirstRun line = line ≡ codes "first " ++ c.first
SaysPlace c SecondRun line = line ≡ codes "second " ++ c.second
SaysPlace c TopicCount line = line ≡ topics_line (length (topics_of c.evidence))
SaysPlace c (Topic topic) line = (name : List ℕ) × (slice_get (topics_of c.evidence) topic ≡ Some name) × NamesTopic name line
SaysPlace c (Document topic list document) line = (name : List ℕ) × (slice_get (documents_of c.evidence topic list) document ≡ Some name) × (line ≡ document_line name)
