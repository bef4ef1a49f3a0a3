use Rattle.std.proofs.Common.{map, take}
use Rattle.std.specs.List.{All}
use Rattle.command_line.specs.Given.{IsOne, values_held}
use Rattle.command_line.proofs.allowed.each_is_one.Given as goal

abbrev pub invariant-loop-name : goal.invariant-loop-name
invariant-loop-name l = All (λ name. IsOne (values_held l.given name)) (map (λ n. n.now) (take l.name-index l.names))
