-- The whole number that stands for one over a rank.
use Rattle.std.specs.Prelude.{ℕ}
use Rattle.measure_laws.specs.Powers.{ceil_div}

-- 2^41 over the rank, rounded up
abbrev pub inverse_of : ℕ → ℕ
inverse_of rank = ceil_div 2199023255552 rank
