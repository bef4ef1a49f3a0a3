-- Choices among the numbers from 0 to a last one, by the value of each.
use Rattle.std.specs.Prelude.{ℕ, ◌<◌, ◌≤◌, nat_lt, nat_eq, Bool, true, false, ◌&&◌, ◌||◌}
use Rattle.precision_candidates.specs.declared.choice.Choice.{Choice}

-- the first of those with the smallest value
pub record IsFirstSmallest (number : ℕ → ℕ) (last t : ℕ) : Type 0 where
  pub within : t ≤ last
  pub least : (k : ℕ) → k ≤ last → number t ≤ number k
  pub first : (k : ℕ) → k < t → number t < number k

-- the first of those with the greatest value
pub record IsFirstGreatest (number : ℕ → ℕ) (last t : ℕ) : Type 0 where
  pub within : t ≤ last
  pub most : (k : ℕ) → k ≤ last → number k ≤ number t
  pub first : (k : ℕ) → k < t → number k < number t

-- whether one value is at least as good as another, better, and whether one place counts before another: the high side wants the greatest value at the
-- first place, the low side the smallest at the last
abbrev pub IsAsGood : Bool → ℕ → ℕ → Type 0
IsAsGood true x y = y ≤ x
IsAsGood false x y = x ≤ y

abbrev pub IsBetter : Bool → ℕ → ℕ → Type 0
IsBetter true x y = y < x
IsBetter false x y = x < y

abbrev pub IsEarlier : Bool → ℕ → ℕ → Type 0
IsEarlier true k i = k < i
IsEarlier false k i = i < k

-- the best of the first so many
pub record IsBestOf (high : Bool) (number : ℕ → ℕ) (last n best : ℕ) : Type 0 where
  pub within : best ≤ last
  pub good : (k : ℕ) → k < n → IsAsGood high (number best) (number k)
  pub first : (k : ℕ) → k < n → IsEarlier high k best → IsBetter high (number best) (number k)

-- whether a candidate is chosen before another
abbrev pub is_before : Bool → Choice → Choice → Bool
is_before true x y = nat_lt y.value x.value || (nat_eq x.value y.value && nat_lt x.count y.count)
is_before false x y = nat_lt x.value y.value || (nat_eq x.value y.value && nat_lt y.count x.count)
