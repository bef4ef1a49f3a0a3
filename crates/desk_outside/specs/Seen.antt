-- What is seen of the objects outside, before a call and after it.
use Rattle.std.specs.Prelude.{◌≡◌, ℕ, List, Option}
use Rattle.std.specs.Io.KnownBytes.{append_known}
use Rattle.desk_outside.specs.Outside.{Files, AppendsPrefix}
use Rattle.desk_outside.specs.Calls.{ShelfCall}
use Rattle.desk_outside.specs.State.{ShelfState, SourceState, SinkState}
use Rattle.desk_outside.specs.declared.log.ReadCall.{ReadCall}

-- a shelf: its files, where they are known, the calls that had been made and those that have, and its two counts of failures
pub record Shelf : Type 0 where
  pub files : Option Files
  pub had : List ShelfCall
  pub has : List ShelfCall
  pub before : ℕ
  pub after : ℕ

-- an input: what was left of it and what is, where that is known, the reads that had been made and those that have, and its two counts of failures
pub record Source : Type 0 where
  pub rest : Option (List ℕ)
  pub left : Option (List ℕ)
  pub had : List ReadCall
  pub has : List ReadCall
  pub before : ℕ
  pub after : ℕ

-- an output: what it had received and what it has, where that is known, and its two counts of failures
pub record Sink : Type 0 where
  pub had : Option (List ℕ)
  pub has : Option (List ℕ)
  pub before : ℕ
  pub after : ℕ

-- a shelf by its states before a call and after it
abbrev pub shelf : ShelfState → ShelfState → Shelf
shelf old new = record { files = old.files; had = old.calls; has = new.calls; before = old.faults; after = new.faults }

-- an input by its states before a call and after it
abbrev pub source : SourceState → SourceState → Source
source old new = record { rest = old.rest; left = new.rest; had = old.reads; has = new.reads; before = old.faults; after = new.faults }

-- an output by its states before a call and after it
abbrev pub sink : SinkState → SinkState → Sink
sink old new = record { had = old.received; has = new.received; before = old.faults; after = new.faults }

-- an input was not read
abbrev pub IsUntouched : Source → Type 0
IsUntouched input = input.has ≡ input.had

-- an output received nothing
abbrev pub ReceivedNothing : Sink → Type 0
ReceivedNothing out = out.has ≡ out.had

-- an output received the whole text
abbrev pub ReceivedAll : Sink → List ℕ → Type 0
ReceivedAll out text = out.has ≡ append_known out.had text

-- an output received a prefix of the text
abbrev pub ReceivedPrefix : Sink → List ℕ → Type 0
ReceivedPrefix out text = AppendsPrefix out.had out.has text
