use Rattle.std.proofs.Common.{◌≡◌, take}
use Rattle.rprec.specs.Packed.{pack}
use Rattle.rprec.specs.Sums.{counts_of}
use Rattle.rprec.proofs.sums.with_rest.Given as goal

abbrev pub invariant-loop-place : goal.invariant-loop-place
invariant-loop-place l = l.longer ≡ pack (counts_of l.run.marks.now (take l.place l.run.docs.now))
