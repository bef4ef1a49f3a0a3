-- What is told of a certificate is told of a place that it has.
use Rattle.std.proofs.Common.{◌≡◌, ℕ, zero, suc, ◌<◌, List, [], ◌∷◌, length, Some, ap, sym, subst, arith, inl, inr}
use Rattle.std.specs.Prelude.{slice_get, unwrap_or}
use Rattle.std.specs.Option.{option_map}
use Rattle.std.specs.List.{zip}
use Rattle.std.proofs.lemmas.Option.{slice_get_within}
use Rattle.std.proofs.lemmas.Slice.Zip.{length-zip}
use Rattle.desk_model.specs.Desk.{Desk}
use Rattle.desk_model.specs.declared.types.Mark.{Mark}
use Rattle.order_certificate.specs.Claim.{NamedTopic, topics_of}
use Rattle.order_certificate.specs.PlaceLines.{HasPlace, OfLine, SaysPlace, documents_of, names_listed}
use Rattle.order_certificate.specs.declared.certificate.Certificate.{Certificate}
use Rattle.order_certificate.specs.declared.certificate.Evidence.{Evidence}
use Rattle.order_certificate.specs.declared.certificate.Evidence.TheVariants.{Above, Equal, Open}
use Rattle.order_certificate.specs.declared.certificate.TopicWitness.{TopicWitness}
use Rattle.order_certificate.specs.declared.place.CertificatePlace.{CertificatePlace}
use Rattle.order_certificate.specs.declared.place.CertificatePlace.TheVariants.{FirstRun, SecondRun, TopicCount, Topic, Document}
use Rattle.order_certificate.specs.declared.place.WitnessList.{WitnessList}
use Rattle.order_certificate.specs.declared.place.WitnessList.TheVariants.{Low, High}
use Rattle.order_certificate.proofs.LinesOfPlaces.{line_says}
use Rattle.order_verifier.specs.Refusal.{Compared, HasOther, HasWrongDocument, HasWrongRun, HaveWrongTopic, IsWrongName, topic_names, topics_in}
use Rattle.order_verifier.specs.Verified.{FailsBy, IsPlaced, IsRejected, OnDesk}
use Rattle.order_verifier.specs.declared.failure.Failure.{Failure}
use Rattle.order_verifier.specs.declared.failure.Failure.TheVariants as failed
use Rattle.order_verifier.specs.declared.rejected.Rejected.TheVariants.{WrongNames, NotCompletion}

pub run_placed : (c : Certificate) (desk : Desk) (place : CertificatePlace) → HasWrongRun c desk place → HasPlace c.evidence place
run_placed c desk FirstRun h = tt
run_placed c desk SecondRun h = tt
run_placed c desk TopicCount h = tt
run_placed c desk (Topic topic) h = absurd h
run_placed c desk (Document topic list document) h = absurd h

pub topic_placed : (e : Evidence) (own : List (List ℕ)) (place : CertificatePlace) → HaveWrongTopic (topics_of e) own place → HasPlace e place
topic_placed e own FirstRun h = tt
topic_placed e own SecondRun h = tt
topic_placed e own TopicCount h = tt
topic_placed e own (Topic topic) h = omega (arith, slice_get_within (zip (topics_of e) own) topic h.1.item h.1.there, length-zip (topics_of e) own)
topic_placed e own (Document topic list document) h = absurd h

-- a pair of two lists is of an item of the first
first_there : {A B : Type 0} (xs : List A) (ys : List B) (i : ℕ) (p : A × B) → slice_get (zip xs ys) i ≡ Some p → slice_get xs i ≡ Some p.0
first_there [] ys i p e = absurd (cc)
first_there (x ∷ xs) [] i p e = absurd (cc)
first_there (x ∷ xs) (y ∷ ys) zero p e = let same : (x, y) ≡ p = cc in ap (λ q. Some q.0) same
first_there (x ∷ xs) (y ∷ ys) (suc i) p e = first_there xs ys i p e

listed_there : (ws : List TopicWitness) (topic : ℕ) (list : WitnessList) (w : TopicWitness) → slice_get ws topic ≡ Some w → documents_of (Open ws) topic list ≡ names_listed list w
listed_there ws topic list w at = ap (λ o. unwrap_or (option_map (names_listed list) o) []) at

other_placed : (ws : List TopicWitness) (topic : ℕ) (p : TopicWitness × NamedTopic) (place : CertificatePlace) → slice_get ws topic ≡ Some p.0 → HasOther topic p place → HasPlace (Open ws) place
other_placed ws topic p FirstRun at h = absurd h
other_placed ws topic p SecondRun at h = absurd h
other_placed ws topic p TopicCount at h = absurd h
other_placed ws topic p (Topic other) at h = absurd h
other_placed ws topic p (Document t Low document) at h =
    subst (λ k. document < length (documents_of (Open ws) k Low)) (sym h.0) (subst (λ (ns : List (List ℕ)). document < length ns) (sym (listed_there ws topic Low p.0 at)) (slice_get_within p.0.low document h.1.item h.1.there))
other_placed ws topic p (Document t High document) at h =
    subst (λ k. document < length (documents_of (Open ws) k High)) (sym h.0) (subst (λ (ns : List (List ℕ)). document < length ns) (sym (listed_there ws topic High p.0 at)) (slice_get_within p.0.high document h.2.item h.2.there))

document_placed : (c : Compared) (e : Evidence) (place : CertificatePlace) → HasWrongDocument c e place → HasPlace e place
document_placed c (Above bounds) place h = absurd h
document_placed c (Equal bounds) place h = absurd h
document_placed c (Open ws) place (topic, h) = other_placed ws topic h.item place (first_there ws (topics_in c) topic h.item h.there) h.fails

pub failure_placed : (c : Compared) (e : Evidence) (failure : Failure) → FailsBy c e failure → IsPlaced e failure
failure_placed c e (failed.BoundTooGreat topic) h = tt
failure_placed c e failed.NoSum h = tt
failure_placed c e (failed.NotCompletion place) h = document_placed c e place h
failure_placed c e failed.NoDifference h = tt

name_placed : (c : Certificate) (desk : Desk) (place : CertificatePlace) → IsWrongName c desk place → HasPlace c.evidence place
name_placed c desk place (inl h) = run_placed c desk place h
name_placed c desk place (inr (_, _, _, h)) = topic_placed c.evidence (topic_names desk) place h

-- ---- the line that is told says what stands at the place
pub names_told : (c : Certificate) (desk : Desk) (marks : List (List Mark)) (line : ℕ) → IsRejected c desk marks (WrongNames line) → (place : CertificatePlace) × IsWrongName c desk place × OfLine c line (SaysPlace c place)
names_told c desk marks line (place, h, is) = (place, h, subst (λ n. OfLine c n (SaysPlace c place)) (sym is) (line_says c place (name_placed c desk place h)))

pub document_told : (c : Certificate) (desk : Desk) (marks : List (List Mark)) (line : ℕ) → IsRejected c desk marks (NotCompletion line) →
    (place : CertificatePlace) × OnDesk c desk marks (λ k. HasWrongDocument k c.evidence place) × OfLine c line (SaysPlace c place)
document_told c desk marks line (place, h, is) =
    (place, h, subst (λ n. OfLine c n (SaysPlace c place)) (sym is) (line_says c place (document_placed (record { measure = c.measure; desk = desk; marks = marks; first = h.0; second = h.1 }) c.evidence place h.4)))
