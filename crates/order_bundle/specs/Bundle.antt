-- Bundles and their text.
use Rattle.std.specs.Prelude.{◌≡◌, ◌≢◌, ◌⊎◌, ℕ, ◌<◌, ◌≤◌, min, max, List, [], ◌∷◌, ◌++◌, All, length, map, flat_map, Option, Some, None, codes, decimal, pos}
use Rattle.std.specs.Fmt.{signed_decimal}
use Rattle.std.specs.List.{AllZip}
use Rattle.std.specs.List.Sorted.{IsStrictlyIncreasing}
use Rattle.desk_model.specs.Limits.{RUN_LIMIT}
use Rattle.desk_model.specs.MeasureText.{IsMeasure, measure_text}
use Rattle.desk_model.specs.declared.types.MeasureName.{MeasureName}
use Rattle.line_forms.specs.Form.{text_of}
use Rattle.line_forms.specs.Places.{AreAscendingNames, IsShortNumber, count_line}
use Rattle.line_forms.specs.Rows.{AllFollow}
use Rattle.order_certificate.specs.Certificate.{AreDocuments, AreTopics, IsDocumentCount, IsLevel, document_line, topics_line}
use Rattle.order_bundle.specs.declared.bundle.Bound.{Bound}
use Rattle.order_bundle.specs.declared.bundle.PairClaim.{PairClaim}
use Rattle.order_bundle.specs.declared.bundle.PairEvidence.{PairEvidence}
use Rattle.order_bundle.specs.declared.bundle.PairEvidence.TheVariants.{Above, Equal, Open}
use Rattle.order_bundle.specs.declared.bundle.Picks.{Picks}
use Rattle.order_bundle.specs.declared.bundle.TopicNames.{TopicNames}
use Rattle.order_bundle.specs.declared.places.UnorderedPair.{UnorderedPair}

-- claims on pairs of runs under one measure and one level
pub record Bundle : Type 0 where
  pub measure : MeasureName
  pub level : ℕ
  pub runs : List (List ℕ)
  pub topics : List TopicNames
  pub claims : List PairClaim

-- ---- its lines
abbrev pub number_line : List ℕ → ℕ → List ℕ
number_line word n = word ++ decimal n

abbrev pub run_line : List ℕ → List ℕ
run_line name = codes "run " ++ name

-- a topic with the number of its documents, and these
abbrev pub topic_lines : TopicNames → List (List ℕ)
topic_lines t = count_line (codes "topic ") t.topic (length t.docs) ∷ map document_line t.docs

-- the numbers of two runs
abbrev pub runs_text : ℕ → ℕ → List ℕ
runs_text first second = decimal first ++ 32 ∷ decimal second

-- a lower number, and both numbers
abbrev pub bound_line : Bound → List ℕ
bound_line b = codes "bound " ++ signed_decimal b.low

abbrev pub both_bounds_line : Bound → List ℕ
both_bounds_line b = codes "bound " ++ signed_decimal b.low ++ 32 ∷ signed_decimal b.high

abbrev pub pick_line : ℕ → List ℕ
pick_line k = codes "pick " ++ decimal k

-- how many documents a list picks, and these
abbrev pub list_lines : List ℕ → List ℕ → List (List ℕ)
list_lines word picks = number_line word (length picks) ∷ map pick_line picks

abbrev pub picks_lines : Picks → List (List ℕ)
picks_lines p = list_lines (codes "low ") p.low ++ list_lines (codes "high ") p.high

-- a claim on two runs, and the evidence topic by topic
abbrev pub evidence_lines : PairEvidence → List ℕ → List (List ℕ)
evidence_lines (Above bounds) runs = (codes "claim above " ++ runs) ∷ map bound_line bounds
evidence_lines (Equal bounds) runs = (codes "claim equal " ++ runs) ∷ map both_bounds_line bounds
evidence_lines (Open picks) runs = (codes "claim open " ++ runs) ∷ flat_map picks_lines picks

abbrev pub claim_lines : PairClaim → List (List ℕ)
claim_lines c = evidence_lines c.evidence (runs_text c.first c.second)

-- the number of claims, these, and the end
abbrev pub claims_lines : List PairClaim → List (List ℕ)
claims_lines claims = number_line (codes "claims ") (length claims) ∷ flat_map claim_lines claims ++ codes "end" ∷ []

-- the number of topics, these, and the claims
abbrev pub topics_lines : List TopicNames → List PairClaim → List (List ℕ)
topics_lines topics claims = topics_line (length topics) ∷ flat_map topic_lines topics ++ claims_lines claims

-- the number of runs, these, the topics and the claims
abbrev pub runs_lines : List (List ℕ) → List TopicNames → List PairClaim → List (List ℕ)
runs_lines runs topics claims = number_line (codes "runs ") (length runs) ∷ map run_line runs ++ topics_lines topics claims

-- the first lines: which form it is, and what the runs are compared by
abbrev pub opening_lines : MeasureName → ℕ → List (List ℕ)
opening_lines measure level = codes "desk-certificate 2" ∷ (codes "measure " ++ measure_text measure) ∷ (codes "level " ++ decimal level) ∷ []

abbrev pub bundle_lines : Bundle → List (List ℕ)
bundle_lines b = opening_lines b.measure b.level ++ runs_lines b.runs b.topics b.claims

-- the text of a bundle
unfoldable pub bundle_text : Bundle → List ℕ
bundle_text b = text_of (bundle_lines b)

-- ---- its limits
abbrev pub IsRunCount : ℕ → Type 0
IsRunCount n = (2 ≤ n) × (n ≤ RUN_LIMIT)

-- there are 32,640 pairs of 256 runs
abbrev pub CLAIM_LIMIT : ℕ
CLAIM_LIMIT = 32640

abbrev pub IsClaimCount : ℕ → Type 0
IsClaimCount n = n ≤ CLAIM_LIMIT

-- runs of a bundle
pub record AreBundleRuns (names : List (List ℕ)) : Type 0 where
  pub count : IsRunCount (length names)
  pub ascending : AreAscendingNames names

-- topics of a bundle with their documents
pub record AreTopicNames (topics : List TopicNames) : Type 0 where
  pub names : AreTopics (map (λ (t : TopicNames). t.topic) topics)
  pub docs : All (λ (t : TopicNames). AreDocuments t.docs) topics

-- two runs as a pair, in whichever order they are named
abbrev pub pair_of : ℕ → ℕ → UnorderedPair
pair_of first second = record { smaller = min first second; greater = max first second }

-- pairs in the order of the smaller number, and then of the greater one
abbrev pub IsLaterPair : UnorderedPair → UnorderedPair → Type 0
IsLaterPair p q = (p.smaller < q.smaller) ⊎ ((p.smaller ≡ q.smaller) × (p.greater < q.greater))

-- a pair may come after the last one, or where there is none
abbrev pub MayFollow : Option UnorderedPair → UnorderedPair → Type 0
MayFollow None q = Unit {0}
MayFollow (Some p) q = IsLaterPair p q

-- two different runs of so many, whose pair may come after the last one
pub record AreRunsOfClaim (runs : ℕ) (last : Option UnorderedPair) (first second : ℕ) : Type 0 where
  pub first_known : first < runs
  pub second_known : second < runs
  pub different : first ≢ second
  pub later : MayFollow last (pair_of first second)

-- the pair of a claim, which is the last one from then on
abbrev pub last_pair : Option UnorderedPair → PairClaim → Option UnorderedPair
last_pair _ c = Some (pair_of c.first c.second)

-- what a list may pick of so many documents: numbers that ascend, each of a document
pub record ArePicks (docs : ℕ) (picks : List ℕ) : Type 0 where
  pub count : IsDocumentCount (length picks)
  pub ascending : IsStrictlyIncreasing picks
  pub within : All (λ k. k < docs) picks

-- both lists pick documents of a topic
abbrev pub ArePicksOn : Picks → TopicNames → Type 0
ArePicksOn p t = ArePicks (length t.docs) p.low × ArePicks (length t.docs) p.high

-- a lower number alone, and both numbers
abbrev pub IsLowerBound : Bound → Type 0
IsLowerBound b = IsShortNumber b.low × (b.high ≡ pos 0)

abbrev pub AreBothBounds : Bound → Type 0
AreBothBounds b = IsShortNumber b.low × IsShortNumber b.high

-- evidence has one row for each topic
abbrev pub IsEvidenceOn : List TopicNames → PairEvidence → Type 0
IsEvidenceOn topics (Above bounds) = (length bounds ≡ length topics) × All IsLowerBound bounds
IsEvidenceOn topics (Equal bounds) = (length bounds ≡ length topics) × All AreBothBounds bounds
IsEvidenceOn topics (Open picks) = AllZip ArePicksOn picks topics

abbrev pub IsClaimAfter : ℕ → List TopicNames → Option UnorderedPair → PairClaim → Type 0
IsClaimAfter runs topics last c = AreRunsOfClaim runs last c.first c.second × IsEvidenceOn topics c.evidence

-- claims on runs and topics: each on a pair that comes after that of the claim before it
pub record AreClaims (runs : ℕ) (topics : List TopicNames) (claims : List PairClaim) : Type 0 where
  pub count : IsClaimCount (length claims)
  pub ascending : AllFollow last_pair (IsClaimAfter runs topics) None claims

-- a bundle that has a text
pub record IsBundle (b : Bundle) : Type 0 where
  pub measure : IsMeasure b.measure
  pub level : IsLevel b.level
  pub runs : AreBundleRuns b.runs
  pub topics : AreTopicNames b.topics
  pub claims : AreClaims (length b.runs) b.topics b.claims
