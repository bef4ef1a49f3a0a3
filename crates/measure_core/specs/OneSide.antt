-- Documents that one of two runs alone has among its first k, by their ranks.
use Rattle.measure_laws.specs.Prefixes.{only_second}
use Rattle.std.specs.Prelude.{ℕ, List, Bool, false, nat_le, if◌then◌else◌, Option, Some, None}

-- whether a rank is at most k; an absent one is not
abbrev pub is_by : ℕ → Option ℕ → Bool
is_by k None = false
is_by k (Some rank) = nat_le rank k

-- one for a rank of at most k
abbrev pub by_worth : ℕ → Option ℕ → ℕ
by_worth k rank = if is_by k rank then 1 else 0

-- one for a document that the second of two rankings has among its first k, and the first has not
abbrev pub alone_weight : ℕ → List ℕ → List ℕ → ℕ → ℕ
alone_weight k a b doc = if only_second k a b doc then 1 else 0
