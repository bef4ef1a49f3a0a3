-- A reason against a bundle speaks of places that the bundle has, and claims have few lines.
use Rattle.std.proofs.Common.{◌≡◌, ℕ, ◌<◌, ◌≤◌, List, [], ◌∷◌, All, length, map, Some, refl, ap, sym, subst, arith}
use Rattle.std.specs.Prelude.{slice_get, Option, None}
use Rattle.small_lemmas.proofs.Lists.{all_there}
use Rattle.std.specs.List.{AllByRecursion, AllZip, zip}
use Rattle.std.proofs.lemmas.List.{length-map}
use Rattle.std.proofs.lemmas.List.Elements.{All-from_recursion, recursion_from_All}
use Rattle.std.proofs.lemmas.Option.{slice_get_within}
use Rattle.std.proofs.lemmas.Slice.Zip.{AllZip-long, length-zip}
use Rattle.desk_model.specs.Desk.{Desk}
use Rattle.desk_model.specs.Limits.{TOPIC_LIMIT}
use Rattle.desk_model.specs.declared.types.Mark.{Mark}
use Rattle.order_certificate.specs.Claim.{NamedTopic}
use Rattle.order_certificate.specs.declared.certificate.TopicWitness.{TopicWitness}
use Rattle.order_certificate.specs.declared.place.CertificatePlace.{CertificatePlace}
use Rattle.order_certificate.specs.declared.place.CertificatePlace.TheVariants as place
use Rattle.order_certificate.specs.declared.place.WitnessList.TheVariants.{Low, High}
use Rattle.order_bundle.specs.Bundle.{ArePicksOn, Bundle, IsBundle, IsEvidenceOn}
use Rattle.order_bundle.specs.Evidence.{named_evidence, named_lists}
use Rattle.order_bundle.specs.declared.bundle.PairClaim.{PairClaim}
use Rattle.order_bundle.specs.declared.bundle.PairEvidence.{PairEvidence}
use Rattle.order_bundle.specs.declared.bundle.PairEvidence.TheVariants.{Above, Equal, Open}
use Rattle.order_bundle.specs.declared.bundle.Picks.{Picks}
use Rattle.order_bundle.specs.declared.bundle.TopicNames.{TopicNames}
use Rattle.order_verifier.specs.Refusal.{Compared, HasOther, HasWrongDocument, topic_names, topics_in}
use Rattle.order_verifier.specs.Verified.{FailsBy}
use Rattle.order_verifier.specs.declared.failure.Failure.{Failure}
use Rattle.order_verifier.specs.declared.failure.Failure.TheVariants as failed
use Rattle.bundle_verifier.specs.Lines.{lists_in, lists_of}
use Rattle.bundle_verifier.specs.Refusal.{IsClaimOf, names_of_topics}
use Rattle.bundle_verifier.specs.Sizes.{HasFewPicks, HasFewRows, HasPlaceOn, HasPlaces, IsPlacedOn}
use Rattle.bundle_verifier.specs.Verified.{IsReason}
use Rattle.bundle_verifier.specs.declared.reason.BundleName.TheVariants.{Run, TopicCount, Topic}
use Rattle.bundle_verifier.specs.declared.reason.BundleReason.{BundleReason}
use Rattle.bundle_verifier.specs.declared.reason.BundleReason.TheVariants.{WrongName, ClaimFails}
use Rattle.bundle_verifier.proofs.Matched.{claims_of}

-- ---- few lines
few_picks : (ps : List Picks) (ts : List TopicNames) → AllZip ArePicksOn ps ts → AllByRecursion HasFewPicks ps
few_picks [] ts h = tt
few_picks (p ∷ ps) [] h = absurd h
few_picks (p ∷ ps) (t ∷ ts) h = ((h.0.0.count, h.0.1.count), few_picks ps ts h.1)

few_rows : (ts : List TopicNames) (e : PairEvidence) → length ts ≤ TOPIC_LIMIT → IsEvidenceOn ts e → HasFewRows e
few_rows ts (Above bounds) few h = let even = h.0 in omega (arith, few, even)
few_rows ts (Equal bounds) few h = let even = h.0 in omega (arith, few, even)
few_rows ts (Open picks) few h = let even = AllZip-long ArePicksOn picks ts h in (omega (arith, few, even), All-from_recursion HasFewPicks picks (few_picks picks ts h))

topics_few : (b : Bundle) → IsBundle b → length b.topics ≤ TOPIC_LIMIT
topics_few b h = let count = h.topics.names.count.1 in omega (arith, count, length-map b.topics (λ (t : TopicNames). t.topic))

claims_few : (b : Bundle) → IsBundle b → (cs : List PairClaim) → AllByRecursion (IsClaimOf b) cs → AllByRecursion (λ (c : PairClaim). HasFewRows c.evidence) cs
claims_few b h [] all = tt
claims_few b h (c ∷ cs) all = (few_rows b.topics c.evidence (topics_few b h) all.0.rows, claims_few b h cs all.1)

pub all_few : (b : Bundle) → IsBundle b → All (λ (c : PairClaim). HasFewRows c.evidence) b.claims
all_few b h = All-from_recursion (λ (c : PairClaim). HasFewRows c.evidence) b.claims (claims_few b h b.claims (claims_of b h))

-- ---- places
other_within : (lists : List Picks) (topic : ℕ) (p : TopicWitness × NamedTopic) (at : CertificatePlace) → topic < length lists → HasOther topic p at → HasPlaceOn lists at
other_within lists topic p place.FirstRun lt h = tt
other_within lists topic p place.SecondRun lt h = tt
other_within lists topic p place.TopicCount lt h = tt
other_within lists topic p (place.Topic other) lt h = tt
other_within lists topic p (place.Document other Low document) lt h = let same = h.0 in omega (arith, lt, same)
other_within lists topic p (place.Document other High document) lt h = let same = h.0 in omega (arith, lt, same)

document_within : (k : Compared) (topics : List TopicNames) (e : PairEvidence) (at : CertificatePlace) → HasWrongDocument k (named_evidence topics e) at → HasPlaceOn (lists_in e) at
document_within k topics (Above bounds) at h = absurd h
document_within k topics (Equal bounds) at h = absurd h
document_within k topics (Open picks) at (topic, h) =
    let ws = map named_lists (zip topics picks) in
    let within = slice_get_within (zip ws (topics_in k)) topic h.item h.there in
    other_within picks topic h.item at (omega (arith, within, length-zip ws (topics_in k), length-map (zip topics picks) named_lists, length-zip topics picks)) h.fails

failure_within : (b : Bundle) (c : PairClaim) (k : Compared) (failure : Failure) → FailsBy k (named_evidence b.topics c.evidence) failure → IsPlacedOn (lists_in c.evidence) failure
failure_within b c k (failed.BoundTooGreat topic) h = tt
failure_within b c k failed.NoSum h = tt
failure_within b c k (failed.NotCompletion at) h = document_within k b.topics c.evidence at h
failure_within b c k failed.NoDifference h = tt

pub reason_placed : (b : Bundle) (desk : Desk) (marks : List (List Mark)) (reason : BundleReason) → IsReason b desk marks reason → HasPlaces b reason
reason_placed b desk marks (WrongName (Run run)) h = tt
reason_placed b desk marks (WrongName TopicCount) h = tt
reason_placed b desk marks (WrongName (Topic topic)) h =
    let first = h.1.1 in
    let within = slice_get_within (zip (names_of_topics b.topics) (topic_names desk)) topic first.item first.there in
    omega (arith, within, length-zip (names_of_topics b.topics) (topic_names desk), length-map b.topics (λ (t : TopicNames). t.topic))
reason_placed b desk marks (ClaimFails claim failure) h =
    let first = h.1 in
    let c : PairClaim = first.item in
    let (x, y, runs, topics, fails) = first.fails in
    (slice_get_within b.claims claim c first.there, subst (λ lists. IsPlacedOn lists failure) (sym (ap lists_of first.there)) (failure_within b c (record { measure = b.measure; desk = desk; marks = marks; first = x; second = y }) failure fails))

-- the lists of a claim are few
pub lists_few : (b : Bundle) (claim : ℕ) → All (λ (c : PairClaim). HasFewRows c.evidence) b.claims → (length (lists_of (slice_get b.claims claim)) ≤ TOPIC_LIMIT) × All HasFewPicks (lists_of (slice_get b.claims claim))
lists_few b claim few = at (slice_get b.claims claim) (λ c is. all_there (λ (k : PairClaim). HasFewRows k.evidence) b.claims claim c (recursion_from_All (λ (k : PairClaim). HasFewRows k.evidence) b.claims few) is)
  where
    none : (length {A = Picks} [] ≤ TOPIC_LIMIT) × All HasFewPicks []
    none = (omega arith, All-from_recursion HasFewPicks [] tt)

    of : (e : PairEvidence) → HasFewRows e → (length (lists_in e) ≤ TOPIC_LIMIT) × All HasFewPicks (lists_in e)
    of (Above bounds) h = none
    of (Equal bounds) h = none
    of (Open picks) h = h

    at : (o : Option PairClaim) → ((c : PairClaim) → o ≡ Some c → HasFewRows c.evidence) → (length (lists_of o) ≤ TOPIC_LIMIT) × All HasFewPicks (lists_of o)
    at None h = none
    at (Some c) h = of c.evidence (h c refl)
