use Rattle.std.proofs.Common.{◌≡◌, map}
use Rattle.table_bundle.specs.Drafts.{replaced}
use Rattle.table_bundle.proofs.places.replaced_claims.Given as goal

abbrev pub invariant-loop-claim : goal.invariant-loop-claim
invariant-loop-claim l = record { made : l.made.items ≡ map (replaced l.places) l.yielded }
