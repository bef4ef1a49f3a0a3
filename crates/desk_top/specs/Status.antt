-- The numbers of statuses, and the lines that go with them.
use Rattle.std.specs.Prelude.{◌≡◌, ℕ, List, [], codes}
use Rattle.desk_top.specs.declared.status.Status.{Status}
use Rattle.desk_top.specs.declared.status.Status.TheVariants.{Done, Refused, Usage, Outside, Memory, Rejected, Close}

-- the number of a status
abbrev pub status_code : Status → ℕ
status_code Done = 0
status_code Refused = 1
status_code Usage = 2
status_code Outside = 3
status_code Memory = 4
status_code Rejected = 5
status_code Close = 6

-- a number is that of a status, of which something holds
abbrev pub IsStatus : ℕ → (Status → Type 0) → Type 0
IsStatus number fact = (status : Status) × (number ≡ status_code status) × fact status

-- the line of a status, where it is always the same one
abbrev pub status_line : Status → List ℕ
status_line Usage = codes "usage: desk COMMAND --qrels FILE --measure NAME [--level N] RUN...\n"
status_line Outside = codes "fault: outside\n"
status_line Memory = codes "fault: memory\n"
status_line status = []

-- the statuses that go with a text
abbrev pub GoesWithText : Status → Type 0
GoesWithText Done = Unit {0}
GoesWithText Rejected = Unit {0}
GoesWithText Close = Unit {0}
GoesWithText status = ⊥
