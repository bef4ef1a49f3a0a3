use Rattle.std.proofs.Common.{◌≡◌, drop}
use Rattle.desk_outside.specs.InMemory.{entries_of, held_in}
use Rattle.desk_outside.proofs.mem_shelf.place_of.Given as goal

abbrev pub invariant-loop-i : goal.invariant-loop-i
invariant-loop-i l = held_in (entries_of (drop l.i l.files)) l.name ≡ held_in (entries_of l.files) l.name
