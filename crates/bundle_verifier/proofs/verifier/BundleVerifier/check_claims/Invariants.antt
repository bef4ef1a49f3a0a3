use Rattle.std.proofs.Common.{◌≡◌, ℕ, List, take}
use Rattle.std.specs.List.{AllByRecursion}
use Rattle.desk_model.specs.Desk.{Desk}
use Rattle.desk_model.specs.declared.types.Mark.{Mark}
use Rattle.order_certificate.specs.Evidence.{IsEvidence}
use Rattle.order_bundle.specs.Bundle.{Bundle}
use Rattle.order_bundle.specs.Evidence.{written_out}
use Rattle.bundle_verifier.proofs.verifier.BundleVerifier.check_claims.Given as goal

pub record Passed (b : Bundle) (desk : Desk) (marks : List (List Mark)) (index number : ℕ) : Type 0 where
  pub place : number ≡ index
  pub evidence : AllByRecursion (λ c. IsEvidence (written_out b c) desk marks) (take index b.claims)

abbrev pub invariant-loop-claim : goal.invariant-loop-claim
invariant-loop-claim l = Passed l.bundle l.desk l.marks l.claim-index l.number
