-- The first k documents of two rankings.
use Rattle.std.specs.Prelude.{ℕ, Bool, not, ◌&&◌, List, take}
use Rattle.desk_model.specs.Ranking.{is_in}

-- whether a document is in b's first k and not in a's
abbrev pub only_second : ℕ → List ℕ → List ℕ → ℕ → Bool
only_second k a b doc = is_in (take k b) doc && not (is_in (take k a) doc)

-- whether a document is in both first k or in neither
abbrev pub neutral : ℕ → List ℕ → List ℕ → ℕ → Bool
neutral k a b doc = not (only_second k a b doc) && not (only_second k b a doc)
