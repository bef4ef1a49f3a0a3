-- What a sink received of a text.
use Rattle.std.proofs.Common.{◌≡◌, ℕ, List, [], sym, arith}
use Rattle.std.specs.Prelude.{Option, Result, Ok, Err, OnOk, is_ok, if◌then◌else◌}
use Rattle.desk_outside.specs.Outside.{AppendsPrefix, HasCause}
use Rattle.desk_outside.specs.Seen.{Sink, ReceivedAll}
use Rattle.desk_outside.proofs.Told.{append_known-nil}
use Rattle.desk_top.specs.Told.{WritesLine}

pub writes : {T E : Type 0} (r : Result T E) (err : Sink) (text : List ℕ) → OnOk r (ReceivedAll err text) → AppendsPrefix err.had err.has text → HasCause err.before err.after r → WritesLine err text
writes (Ok x) err text whole prefix cause = record { prefix = prefix; whole = λ _. whole; later = cause.later }
writes (Err e) err text whole prefix cause = record { prefix = prefix; whole = λ calm. absurd (calm cause.failed); later = cause.later }

-- no line was told
pub writes_nothing : (had : Option (List ℕ)) (failures : ℕ) → WritesLine (record { had = had; has = had; before = failures; after = failures }) []
writes_nothing had failures = record { prefix = (0, sym (append_known-nil had)); whole = λ calm. sym (append_known-nil had); later = omega arith }

-- what a vector holds where something was put at its end
pub grown_where_ok : {T E : Type 0} (r : Result T E) (new whole old : List ℕ) → new ≡ (if is_ok r then whole else old) → OnOk r (new ≡ whole)
grown_where_ok (Ok x) new whole old e = e
grown_where_ok (Err x) new whole old e = tt
