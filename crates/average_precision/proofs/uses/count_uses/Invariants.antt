use Rattle.std.proofs.Common.{◌≡◌, length}
use Rattle.average_precision.specs.Uses.{shares, AreRaised}
use Rattle.average_precision.proofs.uses.count_uses.Given as goal

abbrev pub invariant-loop-run : goal.invariant-loop-run
invariant-loop-run l = record {
  long : length l.classes.items ≡ length l.kept.on.marks.now;
  raised : AreRaised l.initial.counts (shares l.kept.on.marks.now l.kept.on.rankings.now l.uses l.run) l.counts;
}
