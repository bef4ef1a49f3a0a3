use Rattle.bundle_verifier.proofs.Placed.{all_few}
use Rattle.bundle_verifier.proofs.told.claims_are_small.Goals as goal

pub returns : goal.returns
returns c = all_few c.args.bundle.now c.valid.ensures
