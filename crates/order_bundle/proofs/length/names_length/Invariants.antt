use Rattle.std.proofs.Common.{◌≡◌, ◌+◌, ◌*◌, ◌≤◌, ◌++◌, drop, map}
use Rattle.order_bundle.specs.Lengths.{text_length}
use Rattle.order_bundle.proofs.length.names_length.Given as goal

-- what is counted and what is left to count are all
abbrev pub invariant-loop-name : goal.invariant-loop-name
invariant-loop-name l = record {
  counted : l.bytes + text_length (map (λ name. l.word ++ name) (drop l.name-index l.names)) ≡ text_length (map (λ name. l.word ++ name) l.names);
  few : l.bytes ≤ 266 * l.name-index;
}
