use Rattle.precision_candidates.proofs.BaseClasses.{AreBaseTo}
use Rattle.precision_candidates.proofs.classes.set_base.Given as goal

abbrev pub invariant-loop-place : goal.invariant-loop-place
invariant-loop-place l = AreBaseTo l.marks l.place l.classes
