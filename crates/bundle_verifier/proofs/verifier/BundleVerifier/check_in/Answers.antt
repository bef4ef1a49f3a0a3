use Rattle.std.proofs.Common.{List, subst, sym}
use Rattle.desk_model.specs.declared.types.Mark.{Mark}
use Rattle.topic_ends.specs.Counted.{AreCountsOf}
use Rattle.topic_ends.specs.RunBounds.{AreBoundsOf}
use Rattle.bundle_verifier.specs.Room.{BesideDesk}
use Rattle.bundle_verifier.specs.Verified.{IsVerified}
use Rattle.bundle_verifier.proofs.verifier.BundleVerifier.check_in.Goals as goal

pub counted-marks-requires : goal.counted-marks-requires
counted-marks-requires c = subst (AreCountsOf c.room.inside.marks.now) (sym c.as_slice.ensures.value) c.room.invariant.counted

pub returns-clause-verified : goal.returns-clause-verified
returns-clause-verified c =
    subst (λ (r : BesideDesk). IsVerified r.bundle r.desk r.marks c.check.result) c.room.view_is
    (subst (λ marks. IsVerified c.room.inside.bundle.now c.room.inside.desk.now marks c.check.result) c.counted-marks.ensures c.check.ensures.verified)

pub check-requires-clause-bounds : goal.check-requires-clause-bounds
check-requires-clause-bounds c =
    subst (λ (marks : List (List Mark)). AreBoundsOf c.room.inside.desk.now marks c.as_slice-3.result.now) (sym c.counted-marks.ensures)
    (subst (AreBoundsOf c.room.inside.desk.now c.room.inside.marks.now) (sym c.as_slice-3.ensures.value) c.room.invariant.bounded)
