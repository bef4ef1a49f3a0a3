use Rattle.measure_laws.proofs.Unique.{extremes_unique, named_ends_unique, precision_ends_are}
use Rattle.measure_laws.proofs.laws.ends_are_determined.Goals as goal

pub returns-clause-unique : goal.returns-clause-unique
returns-clause-unique c = extremes_unique

pub returns-clause-named : goal.returns-clause-named
returns-clause-named c = named_ends_unique

pub returns-clause-precision : goal.returns-clause-precision
returns-clause-precision c = precision_ends_are
