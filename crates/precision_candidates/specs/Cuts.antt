-- The last ranks of the first unjudged documents of a ranking.
use Rattle.std.specs.Prelude.{◌≡◌, ℕ, ◌+◌, ◌-◌, ◌&&◌, nat_lt, if◌then◌else◌, List, [], ◌∷◌, length}
use Rattle.desk_model.specs.Mark.{is_unjudged, mark_at}
use Rattle.desk_model.specs.declared.types.Mark.{Mark}
use Rattle.measure_laws.specs.Candidates.{high_choice, low_choice, open_docs}
use Rattle.precision_candidates.specs.declared.by_rank.Cuts.{Cuts}

-- the rank of the last of the first so many unjudged documents, where the list begins at a rank, and another number where there is none of them
abbrev pub last_rank : List Mark → ℕ → ℕ → List ℕ → ℕ → ℕ
last_rank marks last rank [] left = last
last_rank marks last rank (doc ∷ docs) left =
    if is_unjudged (mark_at marks doc) && nat_lt 0 left then last_rank marks rank (rank + 1) docs (left - 1) else last_rank marks last (rank + 1) docs left

-- the last ranks of the documents that a run's high candidate takes, and of those that its low one leaves out
pub record AreCuts (marks : List Mark) (docs : List ℕ) (cuts : Cuts) : Type 0 where
  pub taken : cuts.taken ≡ last_rank marks 0 1 docs (high_choice marks docs)
  pub left_out : cuts.left_out ≡ last_rank marks 0 1 docs (length (open_docs marks docs) - low_choice marks docs)
