-- Places of two lists whose documents ascend.
use Rattle.std.specs.Prelude.{ℕ, ◌<◌, ◌≤◌, nat_le, if◌then◌else◌, List, Option, Some, None}
use Rattle.std.specs.List.{AllByRecursion}
use Rattle.desk_model.specs.Limits.{RANK_LIMIT}
use Rattle.desk_model.specs.Placed.{IsAscending}
use Rattle.desk_model.specs.declared.placed.Placed.{Placed}
use Rattle.measure_laws.specs.Ranks.{IsRankWithin}

-- the rank of a place, and none where its document comes after that of another
abbrev pub rank_unless_after : Placed → Placed → Option ℕ
rank_unless_after x y = if nat_le x.doc y.doc then Some x.rank else None

-- a list that is left of a walk over totals of so many
pub record IsLeft (n : ℕ) (es : List Placed) : Type 0 where
  pub ascending : IsAscending es
  pub within : AllByRecursion (λ (e : Placed). e.doc < n) es
  pub ranks : AllByRecursion (λ (e : Placed). IsRankWithin RANK_LIMIT (Some e.rank)) es

-- no document of a list comes before this one
abbrev pub BeginsAt : ℕ → List Placed → Type 0
BeginsAt doc places = AllByRecursion (λ (p : Placed). doc ≤ p.doc) places
