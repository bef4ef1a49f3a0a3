-- The floor and the ceiling of a fraction, and the ends that can be added.
pub use Rattle.desk_model.specs.Floors.{IsFloor, IsCeiling}
use Rattle.std.specs.Prelude.{ℤ, pos, neg_ℤ, ◌≤ℤ◌, ◌^◌}
use Rattle.topic_counts.specs.declared.span.Span.{Span}

-- from -10^30 to 10^30
abbrev pub IsNear : ℤ → Type 0
IsNear z = (neg_ℤ (pos (10 ^ 30)) ≤ℤ z) × (z ≤ℤ pos (10 ^ 30))

-- both ends are near
abbrev pub IsShort : Span → Type 0
IsShort s = IsNear s.lo × IsNear s.hi
