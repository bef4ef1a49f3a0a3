use Rattle.std.proofs.Common.{◌≡◌, take}
use Rattle.std.specs.List.{AllByRecursion}
use Rattle.bundle_verifier.specs.Refusal.{IsRunOf}
use Rattle.bundle_verifier.proofs.names.first_other_run.Given as goal

abbrev pub invariant-loop-name : goal.invariant-loop-name
invariant-loop-name l = (l.run ≡ l.name-index) × AllByRecursion (IsRunOf l.desk) (take l.name-index l.names)
