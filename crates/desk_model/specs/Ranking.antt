-- Rankings as lists of document numbers.
use Rattle.desk_model.specs.Limits.{RANK_LIMIT}
use Rattle.std.specs.Prelude.{ℕ, Bool, ◌<◌, ◌≤◌, List, length, All, nat_eq, Option}
use Rattle.std.specs.List.{IsDistinct, list_any, position_from}

-- at most 10,000 different documents of a universe
pub record IsRanking (universe : ℕ) (docs : List ℕ) : Type 0 where
  pub distinct : IsDistinct nat_eq docs
  pub within : All (λ doc. doc < universe) docs
  pub short : length docs ≤ RANK_LIMIT

-- the rank of a document, from 1
abbrev pub rank : List ℕ → ℕ → Option ℕ
rank docs doc = position_from (λ each. nat_eq each doc) 1 docs

-- whether a document is in a list
abbrev pub is_in : List ℕ → ℕ → Bool
is_in docs doc = list_any (λ each. nat_eq each doc) docs
