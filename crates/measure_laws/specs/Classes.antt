-- Classes of documents of a topic, and how many of each there are.
use Rattle.std.specs.Prelude.{ℕ, Bool, false, ◌&&◌, nat_lt, List, length}
pub use Rattle.desk_model.specs.Mark.{is_unjudged}
use Rattle.desk_model.specs.Mark.{mark_at}
use Rattle.desk_model.specs.Completion.{with_picked}
use Rattle.desk_model.specs.Score.{true_count}
use Rattle.desk_model.specs.declared.types.Mark.{Mark}

-- whether a document is an unjudged one of a class
abbrev pub open_in : List Mark → (ℕ → Bool) → ℕ → Bool
open_in marks class doc = is_unjudged (mark_at marks doc) && class doc

-- the number of documents of a universe in a class
abbrev pub size_of : ℕ → (ℕ → Bool) → ℕ
size_of n class = true_count class n

-- the number of documents judged relevant
abbrev pub judged_count : List Mark → ℕ
judged_count marks = true_count (with_picked marks (λ _. false)) (length marks)

-- whether a document is of a class, and fewer than j documents of that class come before it
abbrev pub is_among_first : ℕ → (ℕ → Bool) → ℕ → Bool
is_among_first j class doc = class doc && nat_lt (size_of doc class) j
