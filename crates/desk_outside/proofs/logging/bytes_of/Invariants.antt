use Rattle.std.proofs.Common.{◌≡◌, take}
use Rattle.desk_outside.specs.Calls.{bytes_of}
use Rattle.desk_outside.proofs.logging.bytes_of.Given as goal

abbrev pub invariant-loop-byte : goal.invariant-loop-byte
invariant-loop-byte l = bytes_of l.bytes ≡ take l.byte-index l.byte-items
