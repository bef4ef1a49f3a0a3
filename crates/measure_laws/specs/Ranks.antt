-- Ranks, from 1, of documents that may be absent.
use Rattle.std.specs.Prelude.{ℕ, ◌≤◌, min, Bool, true, false, nat_lt, Option, Some, None}

-- whether a rank comes before another, where an absent one comes last
abbrev pub comes_before : Option ℕ → Option ℕ → Bool
comes_before None y = false
comes_before (Some x) None = true
comes_before (Some x) (Some y) = nat_lt x y

-- a rank from 1 to n, or none
abbrev pub IsRankWithin : ℕ → Option ℕ → Type 0
IsRankWithin n None = Unit {0}
IsRankWithin n (Some r) = (1 ≤ r) × (r ≤ n)

-- the earlier of two ranks, where an absent one comes last
abbrev pub earlier : Option ℕ → Option ℕ → Option ℕ
earlier None y = y
earlier (Some x) None = Some x
earlier (Some x) (Some y) = Some (min x y)
