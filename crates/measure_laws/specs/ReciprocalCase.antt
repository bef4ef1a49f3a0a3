-- The least case of reciprocal rank: at most one unjudged document is relevant.
use Rattle.std.specs.Prelude.{ℕ, Bool, false, nat_eq, List, map, filter, Option, Some, None}
use Rattle.desk_model.specs.Mark.{is_unjudged, mark_at}
use Rattle.desk_model.specs.Completion.{with_picked}
use Rattle.desk_model.specs.Score.{first_true, reciprocal}
use Rattle.desk_model.specs.declared.types.Mark.{Mark}
use Rattle.measure_laws.specs.Differences.{Scores, first_least}

-- whether a document is the chosen one
abbrev pub is_choice : Option ℕ → ℕ → Bool
is_choice None doc = false
is_choice (Some one) doc = nat_eq one doc

-- the completion in which of the unjudged documents the chosen one alone is true
abbrev pub with_choice : List Mark → Option ℕ → ℕ → Bool
with_choice marks choice = with_picked marks (is_choice choice)

-- the two scores in that completion
abbrev pub reciprocal_scores : List Mark → List ℕ → List ℕ → Option ℕ → Scores
reciprocal_scores marks a b choice =
    let truth = with_choice marks choice in record { first = reciprocal (first_true truth a); second = reciprocal (first_true truth b) }

-- the unjudged documents of a ranking, in its order
abbrev pub unjudged_of : List Mark → List ℕ → List (Option ℕ)
unjudged_of marks docs = map Some (filter (λ doc. is_unjudged (mark_at marks doc)) docs)

-- no document where that has the smallest difference, else the first of b's ranking that has it
abbrev pub reciprocal_choice : List Mark → List ℕ → List ℕ → Option ℕ
reciprocal_choice marks a b = first_least (reciprocal_scores marks a b) None (unjudged_of marks b)
