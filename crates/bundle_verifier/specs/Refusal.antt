-- Why a bundle is no evidence for what it claims of a desk under marks.
use Rattle.std.specs.Prelude.{◌≡◌, ◌≢◌, ◌<◌, ℕ, List, All, length, map, Some, None}
use Rattle.desk_model.specs.Desk.{Desk}
use Rattle.desk_model.specs.Name.{number_of}
use Rattle.desk_model.specs.declared.types.Mark.{Mark}
use Rattle.order_certificate.specs.Certificate.{IsCertificate}
use Rattle.order_certificate.specs.declared.place.CertificatePlace.TheVariants as of_one
use Rattle.order_bundle.specs.Bundle.{Bundle, IsEvidenceOn}
use Rattle.order_bundle.specs.Evidence.{written_out}
use Rattle.order_bundle.specs.declared.bundle.PairClaim.{PairClaim}
use Rattle.order_bundle.specs.declared.bundle.PairEvidence.{PairEvidence}
use Rattle.order_bundle.specs.declared.bundle.PairEvidence.TheVariants.{Above, Equal, Open}
use Rattle.order_bundle.specs.declared.bundle.TopicNames.{TopicNames}
use Rattle.order_verifier.specs.Refusal.{HaveWrongTopic, IsFirstFailing, topic_names}
use Rattle.order_verifier.specs.Verified.{FailsBy, OnDesk}
use Rattle.order_verifier.specs.declared.failure.Failure.{Failure}
use Rattle.bundle_verifier.specs.declared.reason.BundleName.{BundleName}
use Rattle.bundle_verifier.specs.declared.reason.BundleName.TheVariants.{Run, TopicCount, Topic}

-- ---- names
-- a name is that of a run of a desk, or of none
abbrev pub IsRunOf : Desk → List ℕ → Type 0
IsRunOf desk name = (run : ℕ) × (number_of desk.runs name ≡ Some run)

abbrev pub IsNoRunOf : Desk → List ℕ → Type 0
IsNoRunOf desk name = number_of desk.runs name ≡ None

-- the names of a bundle's topics
abbrev pub names_of_topics : List TopicNames → List (List ℕ)
names_of_topics topics = map (λ (t : TopicNames). t.topic) topics

-- the runs of a bundle are runs of a desk, and its topics are the desk's in order
abbrev pub NamesDesk : Bundle → Desk → Type 0
NamesDesk b desk = All (IsRunOf desk) b.runs × (names_of_topics b.topics ≡ topic_names desk)

-- the first name of a bundle that is not the desk's: the runs come before the number of topics, and this before their names
abbrev pub IsWrongName : Bundle → Desk → BundleName → Type 0
IsWrongName b desk (Run run) = IsFirstFailing (IsRunOf desk) (IsNoRunOf desk) b.runs run
IsWrongName b desk TopicCount = All (IsRunOf desk) b.runs × HaveWrongTopic (names_of_topics b.topics) (topic_names desk) of_one.TopicCount
IsWrongName b desk (Topic topic) = All (IsRunOf desk) b.runs × HaveWrongTopic (names_of_topics b.topics) (topic_names desk) (of_one.Topic topic)

-- ---- claims
-- why a claim is no evidence: by the first reason that applies to the certificate of one pair for which it stands
abbrev pub FailsOn : Bundle → Desk → List (List Mark) → PairClaim → Failure → Type 0
FailsOn b desk marks c failure = OnDesk (written_out b c) desk marks (λ k. FailsBy k (written_out b c).evidence failure)

-- evidence has one row for each topic
abbrev pub HasRows : List TopicNames → PairEvidence → Type 0
HasRows topics (Above bounds) = length bounds ≡ length topics
HasRows topics (Equal bounds) = length bounds ≡ length topics
HasRows topics (Open picks) = length picks ≡ length topics

-- what is known of each claim of a bundle within its form
pub record IsClaimOf (b : Bundle) (c : PairClaim) : Type 0 where
  pub first_known : c.first < length b.runs
  pub second_known : c.second < length b.runs
  pub different : c.first ≢ c.second
  pub rows : IsEvidenceOn b.topics c.evidence
  pub certificate : IsCertificate (written_out b c)
