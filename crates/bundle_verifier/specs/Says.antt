-- What the lines of a bundle's text say.
use Rattle.std.specs.Prelude.{◌≡◌, ℕ, ◌-◌, List, length, slice_get, codes, Some}
use Rattle.line_forms.specs.Places.{count_line}
use Rattle.order_certificate.specs.Certificate.{topics_line}
use Rattle.order_certificate.specs.declared.place.CertificatePlace.{CertificatePlace}
use Rattle.order_certificate.specs.declared.place.CertificatePlace.TheVariants as place
use Rattle.order_certificate.specs.declared.place.WitnessList.{WitnessList}
use Rattle.order_certificate.specs.declared.place.WitnessList.TheVariants.{Low, High}
use Rattle.order_bundle.specs.Bundle.{Bundle, bundle_lines, pick_line, run_line}
use Rattle.order_bundle.specs.declared.bundle.Picks.{Picks}
use Rattle.order_bundle.specs.declared.bundle.TopicNames.{TopicNames}
use Rattle.bundle_verifier.specs.Lines.{lists_of}
use Rattle.bundle_verifier.specs.declared.reason.BundleName.{BundleName}
use Rattle.bundle_verifier.specs.declared.reason.BundleName.TheVariants.{Run, TopicCount, Topic}

-- a fact of the line of a bundle with a number, from 1
abbrev pub OfBundleLine : Bundle → ℕ → (List ℕ → Type 0) → Type 0
OfBundleLine b number fact = (line : List ℕ) × (slice_get (bundle_lines b) (number - 1) ≡ Some line) × fact line

-- a line says a name of a bundle, or the number of its topics
abbrev pub SaysName : Bundle → BundleName → List ℕ → Type 0
SaysName b (Run run) line = (name : List ℕ) × (slice_get b.runs run ≡ Some name) × (line ≡ run_line name)
SaysName b TopicCount line = line ≡ topics_line (length b.topics)
SaysName b (Topic topic) line = (t : TopicNames) × (slice_get b.topics topic ≡ Some t) × (line ≡ count_line (codes "topic ") t.topic (length t.docs))

-- what one of the two lists of a topic picks
abbrev pub picks_on : WitnessList → Picks → List ℕ
picks_on Low p = p.low
picks_on High p = p.high

-- a line says a pick of a claim: which one, by its place among the lists of the claim
abbrev pub SaysPick : Bundle → ℕ → CertificatePlace → List ℕ → Type 0
SaysPick b claim place.FirstRun line = ⊥
SaysPick b claim place.SecondRun line = ⊥
SaysPick b claim place.TopicCount line = ⊥
SaysPick b claim (place.Topic topic) line = ⊥
SaysPick b claim (place.Document topic list document) line =
    (p : Picks) × (slice_get (lists_of (slice_get b.claims claim)) topic ≡ Some p) × (k : ℕ) × (slice_get (picks_on list p) document ≡ Some k) × (line ≡ pick_line k)
