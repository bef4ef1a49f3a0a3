use Rattle.std.proofs.Common.{List, subst, sym}
use Rattle.std.specs.Prelude.{Err}
use Rattle.desk_model.specs.Desk.{AreMarksOf}
use Rattle.desk_model.specs.declared.types.Mark.{Mark}
use Rattle.order_bundle.specs.Evidence.{ClaimsHold, IsBundleEvidence}
use Rattle.bundle_verifier.specs.Lines.{IsAnswer}
use Rattle.bundle_verifier.proofs.Placed.{reason_placed}
use Rattle.bundle_verifier.proofs.verifier.BundleVerifier.verify_bundle.Goals as goal

pub check_bundle-requires-clause-marks : goal.check_bundle-requires-clause-marks
check_bundle-requires-clause-marks c = subst (AreMarksOf c.args.desk.now) (sym c.rows-rows.ensures) c.requires.marks

pub told-requires : goal.told-requires
told-requires c = reason_placed c.args.bundle.now c.args.desk.now c.rows-rows.result.now c.in-Err.reason c.in-Err.ensures.verified

pub returns-in-Ok-clause-verified : goal.returns-in-Ok-clause-verified
returns-in-Ok-clause-verified c = subst (IsBundleEvidence c.args.bundle.now c.args.desk.now) c.rows-rows.ensures c.in-Ok.ensures.verified

pub returns-in-Ok-clause-claims : goal.returns-in-Ok-clause-claims
returns-in-Ok-clause-claims c = subst (ClaimsHold c.args.bundle.now c.args.desk.now) c.rows-rows.ensures c.in-Ok.ensures.claims

pub returns-in-Err-clause-verified : goal.returns-in-Err-clause-verified
returns-in-Err-clause-verified c =
    subst (λ (ms : List (List Mark)). IsAnswer c.args.bundle.now c.args.desk.now ms (Err c.told.result)) c.rows-rows.ensures
    (c.in-Err.reason, c.in-Err.ensures.verified, c.told.ensures)
