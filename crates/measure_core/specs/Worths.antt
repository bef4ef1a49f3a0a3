-- What ranks are worth.
use Rattle.std.specs.Prelude.{◌≡◌, ℕ, zero, suc, ◌+◌, ◌≤◌, List, length, slice_index, Option, Some, None}
use Rattle.std.specs.Int.{abs_diff}
use Rattle.desk_model.specs.Limits.{RANK_LIMIT}
use Rattle.desk_model.specs.Ranking.{rank}

-- a rank from 1, and none for 0
abbrev pub rank_or_none : ℕ → Option ℕ
rank_or_none zero = None
rank_or_none (suc n) = Some (suc n)

-- by how much the ranks of a document in two rankings differ in worth
abbrev pub worths_apart : (Option ℕ → ℕ) → List ℕ → List ℕ → ℕ → ℕ
worths_apart worth a b doc = abs_diff (worth (rank a doc)) (worth (rank b doc))

-- a list of what each rank is worth, by the rank
pub record AreWorths (worth : Option ℕ → ℕ) (worths : List ℕ) : Type 0 where
  pub count : length worths ≡ RANK_LIMIT + 1
  pub each : (rank : ℕ) → rank ≤ RANK_LIMIT → slice_index worths rank ≡ worth (rank_or_none rank)
