-- Completions: what the documents without a judgement may turn out to be.
use Rattle.std.specs.Prelude.{◌≡◌, ℕ, ◌<◌, Bool, true, false, List, length}
use Rattle.desk_model.specs.Mark.{mark_at}
use Rattle.desk_model.specs.declared.types.Mark.{Mark}
use Rattle.desk_model.specs.declared.types.Mark.TheVariants.{Unjudged, Relevant, Other}

-- a truth value that a mark allows
abbrev pub Allows : Mark → Bool → Type 0
Allows Unjudged b = Unit {0}
Allows Relevant b = b ≡ true
Allows Other b = b ≡ false

-- truth values that complete the judgements: each document of the universe has one that its mark allows
abbrev pub Completes : List Mark → (ℕ → Bool) → Type 0
Completes marks truth = (doc : ℕ) → doc < length marks → Allows (mark_at marks doc) (truth doc)

-- a completion of a topic: which documents are true, and which places each run shows past its end
pub record Completion : Type 0 where
  pub truth : ℕ → Bool
  pub tail : ℕ → List Bool

-- the truth value of a document with a mark, where an unjudged one has the value picked for it
abbrev pub picked_value : Bool → Mark → Bool
picked_value pick Unjudged = pick
picked_value pick Relevant = true
picked_value pick Other = false

-- the truth values by which of the unjudged documents exactly the picked ones are true
abbrev pub with_picked : List Mark → (ℕ → Bool) → ℕ → Bool
with_picked marks pick doc = picked_value (pick doc) (mark_at marks doc)
