use Rattle.std.proofs.Common.{ap, ◌∙◌, subst, sym}
use Rattle.bundle_verifier.specs.Lines.{told}
use Rattle.bundle_verifier.specs.Room.{BesideDesk}
use Rattle.bundle_verifier.specs.Sizes.{HasPlaces}
use Rattle.bundle_verifier.proofs.Placed.{reason_placed}
use Rattle.bundle_verifier.proofs.verifier.BundleVerifier.verify_in.Goals as goal

pub told-requires : goal.told-requires
told-requires c =
    let room = c.args.room.now in
    subst (λ (r : BesideDesk). HasPlaces r.bundle c.in-Err.reason) (sym c.room.view_is) (reason_placed room.bundle room.desk room.marks c.in-Err.reason c.in-Err.ensures.verified)

pub returns-in-Err-clause-verified : goal.returns-in-Err-clause-verified
returns-in-Err-clause-verified c = (c.in-Err.reason, c.in-Err.ensures.verified, c.told.ensures ∙ ap (λ (r : BesideDesk). told r.bundle c.in-Err.reason) c.room.view_is)
