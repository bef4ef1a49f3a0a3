-- The generator of the demo's texts.
use Rattle.std.specs.Prelude.{ℕ, zero, suc, ◌+◌, ◌*◌, ◌/◌, ◌%◌, ◌^◌}

-- the state after another draw: a linear congruence modulo 2^64, with the multiplier and the increment of Knuth's MMIX
abbrev pub next_state : ℕ → ℕ
next_state x = (x * 6364136223846793005 + 1442695040888963407) % 2 ^ 64

-- the state so many draws after a state
unfoldable pub state_after : ℕ → ℕ → ℕ
state_after x zero = x
state_after x (suc n) = next_state (state_after x n)

-- the value of a draw, which is the upper bits of the state after it
abbrev pub value_of : ℕ → ℕ
value_of x = x / 2 ^ 33

-- the value of a draw after a state, by its number from 0
abbrev pub drawn : ℕ → ℕ → ℕ
drawn x n = value_of (state_after x (suc n))
