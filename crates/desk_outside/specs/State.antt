-- What is known of a shelf, a source and a sink at one moment.
use Rattle.std.specs.Prelude.{ℕ, List, Option, Bool}
use Rattle.desk_outside.specs.Outside.{Files}
use Rattle.desk_outside.specs.Calls.{ShelfCall}
use Rattle.desk_outside.specs.declared.log.ReadCall.{ReadCall}

-- a shelf: its files by name and what is left of the open file, where these are known; whether a file is open; how many of its calls failed; and its calls, in
-- order, also those that failed
pub record ShelfState : Type 0 where
  pub files : Option Files
  pub rest : Option (List ℕ)
  pub is_open : Bool
  pub faults : ℕ
  pub calls : List ShelfCall

-- a source: what is left of it, where that is known, how many of its calls failed, and what each read did, in order
pub record SourceState : Type 0 where
  pub rest : Option (List ℕ)
  pub faults : ℕ
  pub reads : List ReadCall

-- a sink: what it received, where that is known, and how many of its calls failed
pub record SinkState : Type 0 where
  pub received : Option (List ℕ)
  pub faults : ℕ
