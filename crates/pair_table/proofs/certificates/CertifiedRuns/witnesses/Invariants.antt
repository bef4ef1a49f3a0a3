use Rattle.std.proofs.Common.{◌≡◌, take}
use Rattle.pair_table.specs.Evidence.{witnesses_of}
use Rattle.pair_table.proofs.certificates.CertifiedRuns.witnesses.Given as goal

abbrev pub invariant-loop-number : goal.invariant-loop-number
invariant-loop-number g l = record {
  made : l.witnesses.items ≡ take l.number (witnesses_of (g.M.Measure.measured l.self.table.now.measure) l.self.desk.now l.marks l.self.first l.self.second);
}
