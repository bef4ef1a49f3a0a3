-- Picking some of the unjudged documents completes the judgements.
use Rattle.std.proofs.Common.{◌≡◌, ℕ, Bool, true, false, List, [], ◌∷◌, refl}
use Rattle.desk_model.specs.Mark.{mark_at}
use Rattle.desk_model.specs.Completion.{Allows, Completes, Completion, picked_value, with_picked}
use Rattle.desk_model.specs.Order.{Topic, IsCompletion}
use Rattle.desk_model.specs.declared.types.Mark.{Mark}
use Rattle.desk_model.specs.declared.types.Mark.TheVariants.{Unjudged, Relevant, Other}

picked_allowed : (pick : Bool) (m : Mark) → Allows m (picked_value pick m)
picked_allowed pick Unjudged = tt
picked_allowed pick Relevant = refl
picked_allowed pick Other = refl

pub with_picked-Completes : (marks : List Mark) (pick : ℕ → Bool) → Completes marks (with_picked marks pick)
with_picked-Completes marks pick doc h = picked_allowed (pick doc) (mark_at marks doc)

-- a value that a mark allows lies between that with nothing picked and that with all picked
pub allowed_least : (m : Mark) (b : Bool) → Allows m b → picked_value false m ≡ true → b ≡ true
allowed_least Relevant b h e = h
allowed_least Unjudged b h e = absurd (cc)
allowed_least Other b h e = absurd (cc)

pub allowed_most : (m : Mark) (b : Bool) → Allows m b → b ≡ true → picked_value true m ≡ true
allowed_most Relevant b h e = refl
allowed_most Unjudged b h e = refl
allowed_most Other b h e = absurd (cc)

-- the completion of a topic in which no unjudged document is true and no run goes on
none_true : Topic → Completion
none_true topic = record { truth = with_picked topic.marks (λ _. false); tail = λ _. [] }

pub some_completion : (topics : List Topic) → (cs : List Completion) × IsCompletion topics cs
unfolding none_true
some_completion [] = ([], tt)
some_completion (topic ∷ topics) =
    let rest = some_completion topics in (none_true topic ∷ rest.0, (with_picked-Completes topic.marks (λ _. false), rest.1))
