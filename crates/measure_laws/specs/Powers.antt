-- Powers of a persistence a / b below 1, in whole parts of S = 10^18, and the weights of ranks.
use Rattle.desk_model.specs.Limits.{PARTS_OF_ONE}
use Rattle.std.specs.Prelude.{ℕ, zero, suc, ◌+◌, ◌-◌, ◌*◌, ◌/◌, Option, Some, None}

-- n over d, rounded up
abbrev pub ceil_div : ℕ → ℕ → ℕ
ceil_div n d = (n + (d - 1)) / d

-- S times (a / b)^i, each step rounded down
unfoldable pub low_power : ℕ → ℕ → ℕ → ℕ
low_power a b zero = PARTS_OF_ONE
low_power a b (suc i) = low_power a b i * a / b

-- the same, each step rounded up
unfoldable pub high_power : ℕ → ℕ → ℕ → ℕ
high_power a b zero = PARTS_OF_ONE
high_power a b (suc i) = ceil_div (high_power a b i * a) b

-- the weight of a rank, S times (1 - a / b) * (a / b)^(rank - 1), rounded down; an absent rank has none
abbrev pub low_weight : ℕ → ℕ → Option ℕ → ℕ
low_weight a b None = 0
low_weight a b (Some rank) = low_power a b (rank - 1) * (b - a) / b

-- the same, rounded up
abbrev pub high_weight : ℕ → ℕ → Option ℕ → ℕ
high_weight a b None = 0
high_weight a b (Some rank) = ceil_div (high_power a b (rank - 1) * (b - a)) b
