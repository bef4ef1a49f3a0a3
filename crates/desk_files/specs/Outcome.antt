-- What functions below the top call answer, beside what the files come to.
use Rattle.std.specs.Prelude.{◌≡◌, ◌⊎◌, ℕ, Option, Result, Ok, Err, IfSome, IsSomeAnd}
use Rattle.desk_outside.specs.Outside.{Files, Rose}
use Rattle.desk_files.specs.declared.stop.Stop.{Stop as KeptStop}
use Rattle.desk_files.specs.declared.stop.Stop.TheVariants as kept
use Rattle.desk_files.specs.Files.{Stop, Outside, Refused}
use Rattle.desk_files.specs.Views.{refusal_of}

-- a command stops as the files come to it, unless memory ran out or the shelf failed
abbrev pub StopsAt : Option Files → ℕ → ℕ → KeptStop → (Files → Stop → Type 0) → Type 0
StopsAt told before now (kept.Refused refusal) comes = IfSome told (λ files. comes files (Refused (refusal_of refusal)))
StopsAt told before now kept.Outside comes = Rose before now ⊎ IsSomeAnd told (λ files. comes files Outside)
StopsAt told before now kept.Memory comes = Unit {0}

-- a command stops as the files come to it
abbrev pub Stops : {Y : Type 0} → Option Files → ℕ → ℕ → KeptStop → (Files → Result Y Stop) → Type 0
Stops told before now stop gives = StopsAt told before now stop (λ files why. gives files ≡ Err why)

-- an answer, seen by view, is what the files come to
abbrev pub Gives : {X Y : Type 0} → Option Files → ℕ → ℕ → (X → Y) → Result X KeptStop → (Files → Result Y Stop) → Type 0
Gives told before now view (Ok x) gives = IfSome told (λ files. gives files ≡ Ok (view x))
Gives told before now view (Err stop) gives = Stops told before now stop gives
