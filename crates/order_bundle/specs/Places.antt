-- Which line may stand where in the text of a certificate of either version, and of one that was made under a depth.
use Rattle.std.specs.Prelude.{ℕ, suc, ◌<◌, ◌≤◌, Bool, true, false, List, ◌++◌, ◌∷◌, length, slice_get, codes, Option, Some, None}
use Rattle.desk_model.specs.declared.types.MeasureName.{MeasureName}
use Rattle.line_forms.specs.Form.{Form, Whole, Line, IsTextIn, bind}
use Rattle.line_forms.specs.OrLine.{or_line}
use Rattle.line_forms.specs.Places.{fixed_place, name_and_count_place, number_place}
use Rattle.line_forms.specs.Rows.{named_rows, rows}
use Rattle.order_certificate.specs.Certificate.{IsDocumentCount, IsCertificate, certificate_text}
use Rattle.order_certificate.specs.Places.{claim_line, from_first, level_place, measure_place, name_places, topics_place}
use Rattle.order_certificate.specs.declared.places.Claim.{Claim}
use Rattle.order_certificate.specs.declared.places.Claim.TheVariants as claimed
use Rattle.order_bundle.specs.Bundle.{AreRunsOfClaim, Bundle, IsBundle, IsClaimCount, IsLowerBound, AreBothBounds, IsRunCount, both_bounds_line, bound_line, bundle_text, last_pair, pick_line, runs_text}
use Rattle.order_bundle.specs.Depths.{IsDepth, depth_line}
use Rattle.order_bundle.specs.declared.any_certificate.AnyCertificate.{AnyCertificate}
use Rattle.order_bundle.specs.declared.any_certificate.AnyCertificate.TheVariants.{One, Many}
use Rattle.order_bundle.specs.declared.any_certificate.Version.{Version}
use Rattle.order_bundle.specs.declared.any_certificate.Version.TheVariants as version
use Rattle.order_bundle.specs.declared.bundle.Bound.{Bound}
use Rattle.order_bundle.specs.declared.bundle.PairClaim.{PairClaim}
use Rattle.order_bundle.specs.declared.bundle.PairEvidence.{PairEvidence}
use Rattle.order_bundle.specs.declared.bundle.PairEvidence.TheVariants.{Above, Equal, Open}
use Rattle.order_bundle.specs.declared.bundle.Picks.{Picks}
use Rattle.order_bundle.specs.declared.bundle.TopicNames.{TopicNames}
use Rattle.order_bundle.specs.declared.places.ClaimHead.{ClaimHead}
use Rattle.order_bundle.specs.declared.places.UnorderedPair.{UnorderedPair}
use Rattle.order_bundle.specs.declared.scoped.Scoped.{Scoped}

-- ---- runs and topics
abbrev pub runs_place : Form ℕ
runs_place = number_place (codes "runs ") IsRunCount

abbrev pub run_places : Form (List (List ℕ))
run_places = bind runs_place (name_places (codes "run "))

-- a topic and the number of its documents
abbrev pub topic_place : List ℕ → Form (List ℕ × ℕ)
topic_place = name_and_count_place (codes "topic ") IsDocumentCount

-- a topic with its documents
abbrev pub listed_topic : List ℕ → ℕ → Form TopicNames
listed_topic topic n = bind (name_places (codes "doc ") n) (λ docs. Whole (record { topic = topic; docs = docs }))

abbrev pub topic_places : List ℕ → Form TopicNames
topic_places before = bind (topic_place before) (λ p. listed_topic p.0 p.1)

abbrev pub topics_places : Form (List TopicNames)
topics_places = bind topics_place (named_rows topic_places (λ t. t.topic))

-- ---- claims
-- what is claimed, and of which runs
abbrev pub head_line : ClaimHead → List ℕ
head_line h = claim_line h.claim ++ 32 ∷ runs_text h.first h.second

abbrev pub head_place : ℕ → Option UnorderedPair → Form ClaimHead
head_place runs last = Line head_line (λ h. AreRunsOfClaim runs last h.first h.second) Whole

abbrev pub bound_place : Unit {0} → Form Bound
bound_place _ = Line bound_line IsLowerBound Whole

abbrev pub both_bounds_place : Unit {0} → Form Bound
both_bounds_place _ = Line both_bounds_line AreBothBounds Whole

-- the number of documents of a topic, which has none where it is not there
abbrev pub docs_of : Option TopicNames → ℕ
docs_of None = 0
docs_of (Some t) = length t.docs

abbrev pub doc_count : List TopicNames → ℕ → ℕ
doc_count topics t = docs_of (slice_get topics t)

-- a number of one of so many documents, from a least one on
abbrev pub IsPick : ℕ → ℕ → ℕ → Type 0
IsPick docs least k = (least ≤ k) × (k < docs)

abbrev pub pick_place : ℕ → ℕ → Form ℕ
pick_place docs least = Line pick_line (IsPick docs least) Whole

abbrev pub pick_places : ℕ → ℕ → Form (List ℕ)
pick_places docs n = rows (pick_place docs) (λ _ k. suc k) n 0

-- a list after its count
abbrev pub list_places : List ℕ → ℕ → Form (List ℕ)
list_places word docs = bind (number_place word IsDocumentCount) (pick_places docs)

-- a topic's second list after its first, and both
abbrev pub high_places : ℕ → List ℕ → Form Picks
high_places docs low = bind (list_places (codes "high ") docs) (λ high. Whole (record { low = low; high = high }))

abbrev pub picks_places : ℕ → Form Picks
picks_places docs = bind (list_places (codes "low ") docs) (high_places docs)

-- one row for each topic
abbrev pub bound_places : ℕ → Form (List Bound)
bound_places n = rows bound_place (λ key _. key) n tt

abbrev pub both_bounds_places : ℕ → Form (List Bound)
both_bounds_places n = rows both_bounds_place (λ key _. key) n tt

abbrev pub topic_picks_places : List TopicNames → Form (List Picks)
topic_picks_places topics = rows (λ t. picks_places (doc_count topics t)) (λ t _. suc t) (length topics) 0

-- the evidence of a claim
abbrev pub evidence_places : List TopicNames → Claim → Form PairEvidence
evidence_places topics claimed.Above = bind (bound_places (length topics)) (λ bounds. Whole (Above bounds))
evidence_places topics claimed.Equal = bind (both_bounds_places (length topics)) (λ bounds. Whole (Equal bounds))
evidence_places topics claimed.Open = bind (topic_picks_places topics) (λ picks. Whole (Open picks))

abbrev pub after_head : List TopicNames → ClaimHead → Form PairClaim
after_head topics h = bind (evidence_places topics h.claim) (λ e. Whole (record { first = h.first; second = h.second; evidence = e }))

abbrev pub claim_places : ℕ → List TopicNames → Option UnorderedPair → Form PairClaim
claim_places runs topics last = bind (head_place runs last) (after_head topics)

abbrev pub claims_places : ℕ → List TopicNames → Form (List PairClaim)
claims_places runs topics = bind (number_place (codes "claims ") IsClaimCount) (λ n. rows (claim_places runs topics) last_pair n None)

-- ---- what a bundle asks for from each of its parts on
abbrev pub from_end : MeasureName → ℕ → List (List ℕ) → List TopicNames → List PairClaim → Form Bundle
from_end measure level runs topics claims =
    bind (fixed_place (codes "end")) (λ _. Whole (record { measure = measure; level = level; runs = runs; topics = topics; claims = claims }))

abbrev pub from_claims : MeasureName → ℕ → List (List ℕ) → List TopicNames → Form Bundle
from_claims measure level runs topics = bind (claims_places (length runs) topics) (from_end measure level runs topics)

abbrev pub from_topics : MeasureName → ℕ → List (List ℕ) → Form Bundle
from_topics measure level runs = bind topics_places (from_claims measure level runs)

abbrev pub from_runs : MeasureName → ℕ → Form Bundle
from_runs measure level = bind run_places (from_topics measure level)

-- ---- a certificate of either version, from its first line to its last
abbrev pub version_line : Version → List ℕ
version_line version.One = codes "desk-certificate 1"
version_line version.Many = codes "desk-certificate 2"

abbrev pub version_place : Form Version
version_place = Line version_line (λ _. Unit {0}) Whole

-- what each version asks for after the level, or after the line of a depth
abbrev pub after_depth : Version → MeasureName → ℕ → Option ℕ → Form Scoped
after_depth version.One measure level depth = bind (from_first measure level) (λ c. Whole (record { depth = depth; body = One c }))
after_depth version.Many measure level depth = bind (from_runs measure level) (λ b. Whole (record { depth = depth; body = Many b }))

-- after the level: where depths are allowed, the line of one may come first
abbrev pub after_level : Bool → Version → MeasureName → ℕ → Form Scoped
after_level false v measure level = after_depth v measure level None
after_level true v measure level = or_line depth_line IsDepth (λ d. after_depth v measure level (Some d)) (after_depth v measure level None)

abbrev pub after_measure : Bool → Version → MeasureName → Form Scoped
after_measure depths v measure = bind level_place (after_level depths v measure)

abbrev pub after_version : Bool → Version → Form Scoped
after_version depths v = bind measure_place (after_measure depths v)

-- the places of a certificate: where depths are allowed, of one that was made under a depth or under none
abbrev pub places_with : Bool → Form Scoped
places_with depths = bind version_place (after_version depths)

-- a certificate of either version that was made under no depth
abbrev pub any_places : Form Scoped
any_places = places_with false

abbrev pub unscoped : AnyCertificate → Scoped
unscoped a = record { depth = None; body = a }

-- bytes are the text of such a certificate
abbrev pub IsAnyText : List ℕ → AnyCertificate → Type 0
IsAnyText bytes a = IsTextIn any_places bytes (unscoped a)

-- bytes are the text of a bundle
abbrev pub IsBundleText : List ℕ → Bundle → Type 0
IsBundleText bytes b = IsAnyText bytes (Many b)

-- what has a text, and the text that is written
abbrev pub IsAnyCertificate : AnyCertificate → Type 0
IsAnyCertificate (One c) = IsCertificate c
IsAnyCertificate (Many b) = IsBundle b

abbrev pub any_text : AnyCertificate → List ℕ
any_text (One c) = certificate_text c
any_text (Many b) = bundle_text b
