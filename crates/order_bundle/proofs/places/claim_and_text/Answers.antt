use Rattle.std.proofs.Common.{◌≢◌, ℕ, List, ◌++◌, ◌∷◌}
use Rattle.std.specs.Prelude.{codes}
use Rattle.order_certificate.specs.Places.{claim_line}
use Rattle.order_certificate.specs.declared.places.Claim.{Claim}
use Rattle.order_certificate.specs.declared.places.Claim.TheVariants as claimed
use Rattle.order_bundle.proofs.places.claim_and_text.Goals as goal

none : (line : List ℕ) → ((rest : List ℕ) → line ≢ codes "claim above " ++ rest) → ((rest : List ℕ) → line ≢ codes "claim equal " ++ rest) → ((rest : List ℕ) → line ≢ codes "claim open " ++ rest) → (claim : Claim) (rest : List ℕ) → line ≢ claim_line claim ++ 32 ∷ rest
none line above equal open_ claimed.Above rest e = above rest e
none line above equal open_ claimed.Equal rest e = equal rest e
none line above equal open_ claimed.Open rest e = open_ rest e

pub returns-in-None-clause-none : goal.returns-in-None-clause-none
returns-in-None-clause-none c claim rest e = none c.args.line.now c.in_default.ensures.none c.in_default-after.ensures.none c.in-None.ensures.none claim rest e
