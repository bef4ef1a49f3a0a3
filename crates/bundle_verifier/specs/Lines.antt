-- Which line of a bundle's text says what stands at a place, and what is told of a reason against it.
use Rattle.std.specs.Prelude.{◌≡◌, ℕ, ◌+◌, List, [], length, flat_map, take, slice_get, Option, Some, None, Result, Ok, Err}
use Rattle.desk_model.specs.Desk.{Desk}
use Rattle.desk_model.specs.declared.types.Mark.{Mark}
use Rattle.order_certificate.specs.declared.place.CertificatePlace.{CertificatePlace}
use Rattle.order_certificate.specs.declared.place.CertificatePlace.TheVariants as place
use Rattle.order_certificate.specs.declared.place.WitnessList.TheVariants.{Low, High}
use Rattle.order_bundle.specs.Bundle.{Bundle, claim_lines, picks_lines, topic_lines}
use Rattle.order_bundle.specs.Evidence.{IsBundleEvidence}
use Rattle.order_bundle.specs.declared.bundle.PairClaim.{PairClaim}
use Rattle.order_bundle.specs.declared.bundle.PairEvidence.{PairEvidence}
use Rattle.order_bundle.specs.declared.bundle.PairEvidence.TheVariants.{Above, Equal, Open}
use Rattle.order_bundle.specs.declared.bundle.Picks.{Picks}
use Rattle.order_verifier.specs.declared.failure.Failure.{Failure}
use Rattle.order_verifier.specs.declared.failure.Failure.TheVariants as failed
use Rattle.order_verifier.specs.declared.rejected.Rejected.{Rejected}
use Rattle.order_verifier.specs.declared.rejected.Rejected.TheVariants.{WrongNames, BoundTooGreat, NoSum, NotCompletion, NoDifference}
use Rattle.bundle_verifier.specs.Verified.{IsReason}
use Rattle.bundle_verifier.specs.declared.reason.BundleName.{BundleName}
use Rattle.bundle_verifier.specs.declared.reason.BundleName.TheVariants.{Run, TopicCount, Topic}
use Rattle.bundle_verifier.specs.declared.reason.BundleReason.{BundleReason}
use Rattle.bundle_verifier.specs.declared.reason.BundleReason.TheVariants.{WrongName, ClaimFails}
use Rattle.bundle_verifier.specs.declared.rejected.BundleRejected.{BundleRejected}

-- ---- lines, numbered from 1
-- four lines come before the runs, and the runs and one line before the topics
abbrev pub line_of_name : Bundle → BundleName → ℕ
line_of_name b (Run run) = 5 + run
line_of_name b TopicCount = 5 + length b.runs
line_of_name b (Topic topic) = 6 + length b.runs + length (flat_map topic_lines (take topic b.topics))

-- the line that begins a claim
abbrev pub line_of_claim : Bundle → ℕ → ℕ
line_of_claim b claim = 7 + length b.runs + length (flat_map topic_lines b.topics) + length (flat_map claim_lines (take claim b.claims))

-- the lists of a claim, none where it has numbers
abbrev pub lists_in : PairEvidence → List Picks
lists_in (Above bounds) = []
lists_in (Equal bounds) = []
lists_in (Open picks) = picks

abbrev pub lists_of : Option PairClaim → List Picks
lists_of None = []
lists_of (Some c) = lists_in c.evidence

-- how many documents the first list of a topic picks
abbrev pub low_length : Option Picks → ℕ
low_length None = 0
low_length (Some p) = length p.low

-- the line of a document that a list of some claim's lists picks, after the line that begins the claim
abbrev pub line_on_lists : List Picks → CertificatePlace → ℕ
line_on_lists lists place.FirstRun = 0
line_on_lists lists place.SecondRun = 0
line_on_lists lists place.TopicCount = 0
line_on_lists lists (place.Topic topic) = 0
line_on_lists lists (place.Document topic Low document) = length (flat_map picks_lines (take topic lists)) + 2 + document
line_on_lists lists (place.Document topic High document) = length (flat_map picks_lines (take topic lists)) + 3 + low_length (slice_get lists topic) + document

abbrev pub line_of_place : Bundle → ℕ → CertificatePlace → ℕ
line_of_place b claim at = line_of_claim b claim + line_on_lists (lists_of (slice_get b.claims claim)) at

-- ---- what is told
abbrev pub why_told : Bundle → ℕ → Failure → Rejected
why_told b claim (failed.BoundTooGreat topic) = BoundTooGreat topic
why_told b claim failed.NoSum = NoSum
why_told b claim (failed.NotCompletion at) = NotCompletion (line_of_place b claim at)
why_told b claim failed.NoDifference = NoDifference

-- claims are counted from 1, and names stand before all claims
abbrev pub told : Bundle → BundleReason → BundleRejected
told b (WrongName name) = record { claim = 0; why = WrongNames (line_of_name b name) }
told b (ClaimFails claim failure) = record { claim = claim + 1; why = why_told b claim failure }

-- what verifying a bundle answers: that it is evidence, or what is told of the first reason why not
abbrev pub IsAnswer : Bundle → Desk → List (List Mark) → Result (Unit {0}) BundleRejected → Type 0
IsAnswer b desk marks (Ok _) = IsBundleEvidence b desk marks
IsAnswer b desk marks (Err r) = (reason : BundleReason) × IsReason b desk marks reason × (r ≡ told b reason)
