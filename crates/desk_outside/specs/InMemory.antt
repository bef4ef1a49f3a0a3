-- What objects in memory hold, and which of their calls fail.
use Rattle.std.specs.Prelude.{◌≡◌, ◌⊎◌, ℕ, ◌+◌, ◌-◌, ◌^◌, min, Bool, List, [], ◌∷◌, map, length, Option, Some, None, nat_eq, IsTrue, if◌then◌else◌, String, string_bytes, Vec}
use Rattle.std.specs.List.{list_any}
use Rattle.std.specs.declared.alloc.Global.{Global}
use Rattle.std.specs.Cmp.Lexicographic.{pointwise}
use Rattle.desk_outside.specs.Outside.{Files}
use Rattle.desk_outside.specs.Calls.{ShelfCall}
use Rattle.desk_outside.specs.declared.log.ReadCall.{ReadCall}

-- the numbers of the calls that fail, the number of the next call, and the failures that were counted
pub record CallState : Type 0 where
  pub failing : List ℕ
  pub next : ℕ
  pub faults : ℕ

-- no call was made yet, and calls are numbered from 0
abbrev pub no_calls : List ℕ → CallState
no_calls failing = record { failing = failing; next = 0; faults = 0 }

-- the next call is one that fails
abbrev pub is_listed : CallState → Bool
is_listed calls = list_any (λ n. nat_eq n calls.next) calls.failing

-- one more call was made, and the count rose by one exactly where it failed (the number stops far past every u64, where no list reaches)
abbrev pub after_call : CallState → Bool → CallState
after_call calls fails =
    record {
      failing = calls.failing;
      next = min (calls.next + 1) (2 ^ 128 - 1);
      faults = if fails then min (calls.faults + 1) (2 ^ 64 - 1) else calls.faults;
    }

-- the names and bytes of files
abbrev pub entries_of : List (String Global × Vec ℕ Global) → List (List ℕ × List ℕ)
entries_of files = map (λ e. (string_bytes e.0, e.1.items)) files

-- the files by name: of two entries with one name the first counts
abbrev pub held_in : List (List ℕ × List ℕ) → Files
held_in [] name = None
held_in (e ∷ es) name = if pointwise nat_eq e.0 name then Some e.1 else held_in es name

-- a shelf in memory: its files, what is left of the open one, which of its calls fail, and its calls
pub record MemoryShelf : Type 0 where
  pub entries : List (List ℕ × List ℕ)
  pub rest : Option (List ℕ)
  pub calls : CallState
  pub made : List ShelfCall

-- a source in memory: what is left, the most bytes that a call gives, which of its calls fail, and its reads
pub record MemorySource : Type 0 where
  pub rest : List ℕ
  pub piece : ℕ
  pub calls : CallState
  pub reads : List ReadCall

-- a sink in memory: what it received, its room, the most bytes that a call takes, and its calls
pub record MemorySink : Type 0 where
  pub received : List ℕ
  pub room : ℕ
  pub piece : ℕ
  pub calls : CallState

-- the next call of the sink fails, by the list or since the sink is full
abbrev pub FailsNext : MemorySink → Type 0
FailsNext sink = IsTrue (is_listed sink.calls) ⊎ (length sink.received ≡ sink.room)
