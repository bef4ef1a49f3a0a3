-- A file that is opened, and fed to a reader.
use Rattle.std.proofs.Common.{◌≡◌, ◌⊎◌, ℕ, ◌≤◌, List, ap, sym, subst, ◌∙◌, inl, inr}
use Rattle.std.specs.Prelude.{Option, Some, None, Result, Ok, Err, IfSome, IsErrAnd}
use Rattle.desk_outside.specs.Outside.{Files}
use Rattle.desk_files.specs.declared.stop.Stop.{Stop as KeptStop}
use Rattle.desk_files.specs.declared.stop.Stop.TheVariants as kept
use Rattle.desk_files.specs.Files.{Stop, Memory, Refused, whole_file, or_stop, file_by}
use Rattle.desk_files.specs.Views.{refusal_of}
use Rattle.desk_files.specs.Outcome.{Stops, Gives}
use Rattle.desk_files.specs.Stopped.{IsStopOf}
use Rattle.desk_files.proofs.Stopping.{after_ok, at_err, gives_handed_on}

-- the file was fed whole, and these are its bytes
abbrev pub IsFedWhole : Option Files → List ℕ → List ℕ → Type 0
IsFedWhole told path bytes = IfSome told (λ held. whole_file path (held path) ≡ Ok bytes)

-- the answer of a reader is what its bytes come to, or memory ran out
abbrev pub IsReadUnless : {X F : Type 0} → F → Result X F → Result X F → Type 0
IsReadUnless memory answer read = (answer ≡ Err memory) ⊎ (answer ≡ read)

-- a reader, whose faults stop a command so
module _ {X F : Type 0} (stop_at : List ℕ → F → Stop) (read : List ℕ → Result X F) (path : List ℕ) where
  -- what stops the opening or the feeding stops the reading
  pub stops_file : {Y : Type 0} (told known : Option Files) (first before now : ℕ) (view : Y → X) (r : Result Y KeptStop) (e : KeptStop) → known ≡ told → IsErrAnd r (λ stop. stop ≡ e) → first ≤ before → Stops known before now e (λ held. whole_file path (held path)) →
      Gives told first now view r (λ held. file_by stop_at read held path)
  stops_file told known first before now view r e same is le s =
      gives_handed_on told known first before now view r e (λ held. whole_file path (held path)) (λ held. file_by stop_at read held path) same is le s
      (λ files why t stop. at_err (whole_file path (files path)) (λ bytes. or_stop (stop_at path) (read bytes)) why stop)

  reads_as : (told : Option Files) (bytes : List ℕ) (r : Result X F) → IsFedWhole told path bytes → read bytes ≡ r → IfSome told (λ held. file_by stop_at read held path ≡ or_stop (stop_at path) r)
  reads_as None bytes r fed is = tt
  reads_as (Some held) bytes r fed is = after_ok (whole_file path (held path)) (λ bytes. or_stop (stop_at path) (read bytes)) bytes (or_stop (stop_at path) r) fed (ap (or_stop (stop_at path)) is)

  -- what was read is what the file says
  pub reads_file : (told known : Option Files) (memory : F) (bytes : List ℕ) (x : X) → known ≡ told → IsFedWhole known path bytes → IsReadUnless memory (Ok x) (read bytes) → IfSome told (λ held. file_by stop_at read held path ≡ Ok x)
  reads_file told known memory bytes x same fed (inl bad) = absurd (cc)
  reads_file told known memory bytes x same fed (inr is) = reads_as told bytes (Ok x) (subst (λ t. IsFedWhole t path bytes) same fed) (sym is)

  module _ (memory : F) (is_memory : stop_at path memory ≡ Memory) where
    faulty : (told : Option Files) (before now : ℕ) (bytes : List ℕ) (fault : F) (e : KeptStop) → IsFedWhole told path bytes → IsReadUnless {X = X} memory (Err fault) (read bytes) → IsStopOf (stop_at path fault) e → Stops told before now e (λ held. file_by stop_at read held path)
    faulty told before now bytes fault kept.Memory fed is stop = tt
    faulty told before now bytes fault kept.Outside fed is stop = absurd stop
    faulty None before now bytes fault (kept.Refused refusal) fed is stop = tt
    faulty (Some held) before now bytes fault (kept.Refused refusal) fed (inl bad) stop =
        let same : fault ≡ memory = cc in
        let no : Memory ≡ Refused (refusal_of refusal) = sym is_memory ∙ sym (ap (stop_at path) same) ∙ stop in
        absurd (cc)
    faulty (Some held) before now bytes fault (kept.Refused refusal) fed (inr is) stop = reads_as (Some held) bytes (Err fault) fed (sym is) ∙ ap Err stop

    -- a fault of its bytes stops the reading
    pub file_is_faulty : (told known : Option Files) (before now : ℕ) (bytes : List ℕ) (fault : F) (e : KeptStop) → known ≡ told → IsFedWhole known path bytes → IsReadUnless {X = X} memory (Err fault) (read bytes) → IsStopOf (stop_at path fault) e →
        Stops told before now e (λ held. file_by stop_at read held path)
    file_is_faulty told known before now bytes fault e same fed is stop = faulty told before now bytes fault e (subst (λ t. IsFedWhole t path bytes) same fed) is stop
