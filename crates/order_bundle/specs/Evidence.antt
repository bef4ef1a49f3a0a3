-- What a bundle claims of a desk under marks, and when it is evidence: by the certificates of one pair for which its claims stand.
use Rattle.std.specs.Prelude.{◌≡◌, ℕ, List, [], All, map, slice_index_or, Some}
use Rattle.std.specs.List.{zip}
use Rattle.desk_model.specs.Book.{Book}
use Rattle.desk_model.specs.Desk.{Desk}
use Rattle.desk_model.specs.Name.{number_of}
use Rattle.desk_model.specs.declared.types.Mark.{Mark}
use Rattle.order_certificate.specs.Claim.{ClaimHolds}
use Rattle.order_certificate.specs.Evidence.{IsEvidence}
use Rattle.order_certificate.specs.declared.certificate.Certificate.{Certificate}
use Rattle.order_certificate.specs.declared.certificate.Evidence.{Evidence}
use Rattle.order_certificate.specs.declared.certificate.Evidence.TheVariants as of_one
use Rattle.order_certificate.specs.declared.certificate.TopicBound.{TopicBound}
use Rattle.order_certificate.specs.declared.certificate.TopicWitness.{TopicWitness}
use Rattle.order_bundle.specs.Bundle.{Bundle}
use Rattle.order_bundle.specs.declared.bundle.Bound.{Bound}
use Rattle.order_bundle.specs.declared.bundle.PairClaim.{PairClaim}
use Rattle.order_bundle.specs.declared.bundle.PairEvidence.{PairEvidence}
use Rattle.order_bundle.specs.declared.bundle.PairEvidence.TheVariants.{Above, Equal, Open}
use Rattle.order_bundle.specs.declared.bundle.Picks.{Picks}
use Rattle.order_bundle.specs.declared.bundle.TopicNames.{TopicNames}

-- ---- a claim written out with the names that its numbers stand for
-- the name with a number, from 0
abbrev pub name_at : List (List ℕ) → ℕ → List ℕ
name_at names n = slice_index_or names n []

-- a bound with the name of its topic
abbrev pub named_bound : TopicNames × Bound → TopicBound
named_bound p = record { topic = p.0.topic; low = p.1.low; high = p.1.high }

-- two lists with the name of their topic and those of the documents that they pick
abbrev pub named_lists : TopicNames × Picks → TopicWitness
named_lists p = record { topic = p.0.topic; low = map (name_at p.0.docs) p.1.low; high = map (name_at p.0.docs) p.1.high }

abbrev pub named_evidence : List TopicNames → PairEvidence → Evidence
named_evidence topics (Above bounds) = of_one.Above (map named_bound (zip topics bounds))
named_evidence topics (Equal bounds) = of_one.Equal (map named_bound (zip topics bounds))
named_evidence topics (Open picks) = of_one.Open (map named_lists (zip topics picks))

-- the certificate of one pair for which a claim stands
abbrev pub written_out : Bundle → PairClaim → Certificate
written_out b c = record { measure = b.measure; level = b.level; first = name_at b.runs c.first; second = name_at b.runs c.second; evidence = named_evidence b.topics c.evidence }

-- ---- what a bundle claims, and when it is evidence
-- all its claims hold
abbrev pub ClaimsHold : Bundle → Desk → List (List Mark) → Type 0
ClaimsHold b desk marks = All (λ c. ClaimHolds (written_out b c) desk marks) b.claims

-- a bundle is evidence: its runs are runs of the desk, its topics are the desk's topics in order, and each claim, written out, is evidence
pub record IsBundleEvidence (b : Bundle) (desk : Desk) (marks : List (List Mark)) : Type 0 where
  pub runs : All (λ name. (run : ℕ) × (number_of desk.runs name ≡ Some run)) b.runs
  pub topics : map (λ (t : TopicNames). t.topic) b.topics ≡ map (λ (book : Book). book.name) desk.topics
  pub claims : All (λ c. IsEvidence (written_out b c) desk marks) b.claims
