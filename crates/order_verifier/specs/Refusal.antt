-- Why a certificate is no evidence for what it claims of a desk under marks.
use Rattle.std.specs.Prelude.{◌≡◌, ◌≢◌, ◌⊎◌, ℕ, ◌∷◌, false, List, [], length, map, take, slice_get, Some, None, ℤ, pos, ◌≤ℤ◌, ◌<ℤ◌}
use Rattle.std.specs.List.{AllByRecursion, AllZip, zip}
use Rattle.desk_model.specs.Book.{Book}
use Rattle.desk_model.specs.Desk.{Desk}
use Rattle.desk_model.specs.Extremes.{Ends}
use Rattle.desk_model.specs.Name.{number_of}
use Rattle.desk_model.specs.Verdict.{whole_sum, differs}
use Rattle.desk_model.specs.declared.types.Mark.{Mark}
use Rattle.desk_model.specs.declared.types.MeasureName.{MeasureName}
use Rattle.measure_laws.specs.Ends.{HasEnds}
use Rattle.order_certificate.specs.Claim.{NamedTopic, AreItsRuns, named_topics, topics_of}
use Rattle.order_certificate.specs.Evidence.{AreLows, AreHighs, AreUnjudged, IsLowSum, IsHighSum, Shows, lows_of, highs_of}
use Rattle.order_certificate.specs.declared.certificate.Certificate.{Certificate}
use Rattle.order_certificate.specs.declared.certificate.Evidence.{Evidence}
use Rattle.order_certificate.specs.declared.certificate.Evidence.TheVariants.{Above, Equal, Open}
use Rattle.order_certificate.specs.declared.certificate.TopicBound.{TopicBound}
use Rattle.order_certificate.specs.declared.certificate.TopicWitness.{TopicWitness}
use Rattle.order_certificate.specs.declared.place.CertificatePlace.{CertificatePlace}
use Rattle.order_certificate.specs.declared.place.CertificatePlace.TheVariants.{FirstRun, SecondRun, TopicCount, Topic, Document}
use Rattle.order_certificate.specs.declared.place.WitnessList.TheVariants.{Low, High}

-- the first item of a list that fails, by its number from 0, where all before it hold
pub record IsFirstFailing {X : Type 0} (Holds Fails : X → Type 0) (xs : List X) (number : ℕ) : Type 0 where
  pub before : AllByRecursion Holds (take number xs)
  pub item : X
  pub there : slice_get xs number ≡ Some item
  pub fails : Fails item

-- ---- names
-- the names of a desk's topics
abbrev pub topic_names : Desk → List (List ℕ)
topic_names desk = map (λ (book : Book). book.name) desk.topics

-- a certificate names two runs of a desk, by their numbers
abbrev pub NamesRuns : Certificate → Desk → ℕ → ℕ → Type 0
NamesRuns c desk first second = AreItsRuns c desk first second × (first ≢ second)

-- the second run of a certificate is no run of the desk, or is the first
abbrev pub HasNoSecond : Certificate → Desk → Type 0
HasNoSecond c desk = (number_of desk.runs c.second ≡ None) ⊎ (number_of desk.runs c.second ≡ number_of desk.runs c.first)

-- the names of some topics differ from a desk's: their number, or the first of them that differs
abbrev pub HaveWrongTopic : List (List ℕ) → List (List ℕ) → CertificatePlace → Type 0
HaveWrongTopic names own FirstRun = ⊥
HaveWrongTopic names own SecondRun = ⊥
HaveWrongTopic names own TopicCount = length names ≢ length own
HaveWrongTopic names own (Topic topic) =
    (length names ≡ length own) × IsFirstFailing (λ (p : List ℕ × List ℕ). p.0 ≡ p.1) (λ p. p.0 ≢ p.1) (zip names own) topic
HaveWrongTopic names own (Document topic list document) = ⊥

-- the first run of a certificate is no run of the desk, or its second is none or is the first
abbrev pub HasWrongRun : Certificate → Desk → CertificatePlace → Type 0
HasWrongRun c desk FirstRun = number_of desk.runs c.first ≡ None
HasWrongRun c desk SecondRun = (first : ℕ) × (number_of desk.runs c.first ≡ Some first) × HasNoSecond c desk
HasWrongRun c desk TopicCount = ⊥
HasWrongRun c desk (Topic topic) = ⊥
HasWrongRun c desk (Document topic list document) = ⊥

-- the first name of a certificate that differs from the desk, by its place: a run's or a topic's
abbrev pub IsWrongName : Certificate → Desk → CertificatePlace → Type 0
IsWrongName c desk place =
    HasWrongRun c desk place
    ⊎ ((first : ℕ) × (second : ℕ) × NamesRuns c desk first second × HaveWrongTopic (topics_of c.evidence) (topic_names desk) place)

-- ---- what is compared
-- two runs of a desk by their numbers, with the measure and the marks under which they are compared
pub record Compared : Type 0 where
  pub measure : MeasureName
  pub desk : Desk
  pub marks : List (List Mark)
  pub first : ℕ
  pub second : ℕ

-- the topics on which they are compared
abbrev pub topics_in : Compared → List NamedTopic
topics_in c = named_topics c.desk c.marks

-- a fact of the ends of both runs' differences on a topic
abbrev pub OfEnds : Compared → NamedTopic → (Ends → Type 0) → Type 0
OfEnds c t fact = (ends : Ends) × HasEnds c.measure t.topic.marks (t.topic.ranking c.first) (t.topic.ranking c.second) ends × fact ends

-- evidence shows what it claims of both runs
abbrev pub ShowsOf : Compared → Evidence → Type 0
ShowsOf c evidence = Shows c.measure (topics_in c) c.first c.second evidence

-- ---- numbers of topics
-- a topic with its numbers
abbrev pub Bounded : Type 0
Bounded = TopicBound × NamedTopic

-- the lower number of a topic is as evidence wants it, or is greater than the lower end of the least difference
abbrev pub HasLow : Compared → Bounded → Type 0
HasLow c p = AreLows c.measure c.first c.second (p.0.low ∷ []) (p.1 ∷ [])

abbrev pub HasGreaterLow : Compared → Bounded → Type 0
HasGreaterLow c p = OfEnds c p.1 (λ ends. ends.least_lo <ℤ p.0.low)

-- the upper number of a topic is as evidence wants it, or is smaller than the upper end of the greatest difference
abbrev pub HasHigh : Compared → Bounded → Type 0
HasHigh c p = AreHighs c.measure c.first c.second (p.0.high ∷ []) (p.1 ∷ [])

abbrev pub HasSmallerHigh : Compared → Bounded → Type 0
HasSmallerHigh c p = OfEnds c p.1 (λ ends. p.0.high <ℤ ends.most_hi)

-- the first topic of evidence, from 0, with a number that is beyond its end
abbrev pub HasBoundTooGreat : Compared → Evidence → ℕ → Type 0
HasBoundTooGreat c (Above bounds) topic = IsFirstFailing (HasLow c) (HasGreaterLow c) (zip bounds (topics_in c)) topic
HasBoundTooGreat c (Equal bounds) topic = IsFirstFailing (λ p. HasLow c p × HasHigh c p) (λ p. HasGreaterLow c p ⊎ HasSmallerHigh c p) (zip bounds (topics_in c)) topic
HasBoundTooGreat c (Open witnesses) topic = ⊥

-- the numbers of evidence are as it wants them on each topic
abbrev pub BoundsHold : Compared → Evidence → Type 0
BoundsHold c (Above bounds) = AreLows c.measure c.first c.second (lows_of bounds) (topics_in c)
BoundsHold c (Equal bounds) = AreLows c.measure c.first c.second (lows_of bounds) (topics_in c) × AreHighs c.measure c.first c.second (highs_of bounds) (topics_in c)
BoundsHold c (Open witnesses) = ⊥

-- their sums do not show the claim
abbrev pub HasWrongSum : Evidence → Type 0
HasWrongSum (Above bounds) = whole_sum (lows_of bounds) ≤ℤ pos 0
HasWrongSum (Equal bounds) = (whole_sum (lows_of bounds) <ℤ pos 0) ⊎ (pos 0 <ℤ whole_sum (highs_of bounds))
HasWrongSum (Open witnesses) = ⊥

-- ---- lists of documents
-- both lists of a topic name unjudged documents
abbrev pub AreCompletions : TopicWitness × NamedTopic → Type 0
AreCompletions p = AreUnjudged p.1 p.0.low × AreUnjudged p.1 p.0.high

-- the first name of a list, by its number from 0, that is no unjudged document's
abbrev pub IsFirstOther : NamedTopic → List (List ℕ) → ℕ → Type 0
IsFirstOther t names document = IsFirstFailing (λ name. AreUnjudged t (name ∷ [])) (λ name. AreUnjudged t (name ∷ []) → ⊥) names document

-- the first of both lists of a topic, the low one before the high one
abbrev pub HasOther : ℕ → TopicWitness × NamedTopic → CertificatePlace → Type 0
HasOther topic p FirstRun = ⊥
HasOther topic p SecondRun = ⊥
HasOther topic p TopicCount = ⊥
HasOther topic p (Topic at) = ⊥
HasOther topic p (Document at Low document) = (at ≡ topic) × IsFirstOther p.1 p.0.low document
HasOther topic p (Document at High document) = (at ≡ topic) × AreUnjudged p.1 p.0.low × IsFirstOther p.1 p.0.high document

-- the first of the lists of all topics, in the order of the topics
abbrev pub HasWrongDocument : Compared → Evidence → CertificatePlace → Type 0
HasWrongDocument c (Above bounds) place = ⊥
HasWrongDocument c (Equal bounds) place = ⊥
HasWrongDocument c (Open witnesses) place = (topic : ℕ) × IsFirstFailing AreCompletions (λ p. HasOther topic p place) (zip witnesses (topics_in c)) topic

-- the lists of evidence name unjudged documents of their topics
abbrev pub HasCompletions : Compared → Evidence → Type 0
HasCompletions c (Above bounds) = ⊥
HasCompletions c (Equal bounds) = ⊥
HasCompletions c (Open witnesses) = AllZip (λ (w : TopicWitness) t. AreUnjudged t w.low × AreUnjudged t w.high) witnesses (topics_in c)

-- the two sums do not show that their completions differ on the order
abbrev pub HasSameOrder : Compared → Evidence → Type 0
HasSameOrder c (Above bounds) = ⊥
HasSameOrder c (Equal bounds) = ⊥
HasSameOrder c (Open witnesses) =
    (low : ℤ) × (high : ℤ) × IsLowSum c.measure c.first c.second witnesses (topics_in c) low × IsHighSum c.measure c.first c.second witnesses (topics_in c) high × (differs low high ≡ false)
