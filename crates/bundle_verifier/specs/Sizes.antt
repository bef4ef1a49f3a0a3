-- How much a claim has on its topics, and that reasons speak of places that a bundle has.
use Rattle.std.specs.Prelude.{◌<◌, ◌≤◌, List, All, length, slice_get}
use Rattle.desk_model.specs.Limits.{TOPIC_LIMIT}
use Rattle.order_certificate.specs.Certificate.{IsDocumentCount}
use Rattle.order_certificate.specs.declared.place.CertificatePlace.{CertificatePlace}
use Rattle.order_certificate.specs.declared.place.CertificatePlace.TheVariants as place
use Rattle.order_bundle.specs.Bundle.{Bundle}
use Rattle.order_bundle.specs.declared.bundle.PairEvidence.{PairEvidence}
use Rattle.order_bundle.specs.declared.bundle.PairEvidence.TheVariants.{Above, Equal, Open}
use Rattle.order_bundle.specs.declared.bundle.Picks.{Picks}
use Rattle.order_verifier.specs.declared.failure.Failure.{Failure}
use Rattle.order_verifier.specs.declared.failure.Failure.TheVariants as failed
use Rattle.bundle_verifier.specs.Lines.{lists_of}
use Rattle.bundle_verifier.specs.declared.reason.BundleReason.{BundleReason}
use Rattle.bundle_verifier.specs.declared.reason.BundleReason.TheVariants.{WrongName, ClaimFails}
use Rattle.bundle_verifier.specs.declared.reason.BundleName.{BundleName}
use Rattle.bundle_verifier.specs.declared.reason.BundleName.TheVariants.{Run, TopicCount, Topic}

-- two lists of documents of one topic
abbrev pub HasFewPicks : Picks → Type 0
HasFewPicks p = IsDocumentCount (length p.low) × IsDocumentCount (length p.high)

-- one row for each of some topics
abbrev pub HasFewRows : PairEvidence → Type 0
HasFewRows (Above bounds) = length bounds ≤ TOPIC_LIMIT
HasFewRows (Equal bounds) = length bounds ≤ TOPIC_LIMIT
HasFewRows (Open picks) = (length picks ≤ TOPIC_LIMIT) × All HasFewPicks picks

-- a name of a bundle, or a place of the evidence of its claim with a number
abbrev pub HasName : Bundle → BundleName → Type 0
HasName b (Run run) = Unit {0}
HasName b TopicCount = Unit {0}
HasName b (Topic topic) = topic < length b.topics

abbrev pub HasPlaceOn : List Picks → CertificatePlace → Type 0
HasPlaceOn lists place.FirstRun = Unit {0}
HasPlaceOn lists place.SecondRun = Unit {0}
HasPlaceOn lists place.TopicCount = Unit {0}
HasPlaceOn lists (place.Topic topic) = Unit {0}
HasPlaceOn lists (place.Document topic list document) = topic < length lists

abbrev pub IsPlacedOn : List Picks → Failure → Type 0
IsPlacedOn lists (failed.BoundTooGreat topic) = Unit {0}
IsPlacedOn lists failed.NoSum = Unit {0}
IsPlacedOn lists (failed.NotCompletion at) = HasPlaceOn lists at
IsPlacedOn lists failed.NoDifference = Unit {0}

abbrev pub HasPlaces : Bundle → BundleReason → Type 0
HasPlaces b (WrongName name) = HasName b name
HasPlaces b (ClaimFails claim failure) = (claim < length b.claims) × IsPlacedOn (lists_of (slice_get b.claims claim)) failure
