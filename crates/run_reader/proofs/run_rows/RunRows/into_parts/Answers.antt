use Rattle.std.proofs.Common.{ap}
use Rattle.run_reader.specs.Run.{Run}
use Rattle.run_reader.proofs.run_rows.RunRows.into_parts.Goals as goal

pub returns-clause-name : goal.returns-clause-name
returns-clause-name c = ap (λ (run : Run). run.name) c.self.view_is

pub returns-clause-kept : goal.returns-clause-kept
returns-clause-kept c = ap (λ (run : Run). run.topics) c.self.view_is

pub returns-clause-used : goal.returns-clause-used
returns-clause-used c = ap (λ (run : Run). run.used) c.self.view_is

pub returns-clause-named : goal.returns-clause-named
returns-clause-named c = c.self.invariant.0

pub returns-clause-run : goal.returns-clause-run
returns-clause-run c = c.self.invariant.1

pub returns-clause-within : goal.returns-clause-within
returns-clause-within c = c.self.invariant.2
