use Rattle.std.proofs.Common.{refl}
use Rattle.measure_laws.proofs.Weights.{persistence-small}
use Rattle.rbp.specs.Laws as laws
use Rattle.rbp.proofs.rbp.Rbp.new.Goals as goal

pub new-requires-clause-small : goal.new-requires-clause-small
new-requires-clause-small c = persistence-small c.args.top c.args.bottom c.requires

pub returns-clause-made : goal.returns-clause-made
returns-clause-made c = record { named = refl; numbers = laws.numbers c.args.top c.args.bottom }
