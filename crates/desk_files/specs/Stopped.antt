-- Why a command stops at a file.
use Rattle.std.specs.Prelude.{◌≡◌}
use Rattle.desk_files.specs.declared.stop.Stop.{Stop as KeptStop}
use Rattle.desk_files.specs.declared.stop.Stop.TheVariants as kept
use Rattle.desk_files.specs.Files.{Stop, Memory, Refused}
use Rattle.desk_files.specs.Views.{refusal_of}

-- the stop of the program is this one
abbrev pub IsStopOf : Stop → KeptStop → Type 0
IsStopOf why (kept.Refused refusal) = why ≡ Refused (refusal_of refusal)
IsStopOf why kept.Outside = ⊥
IsStopOf why kept.Memory = why ≡ Memory
