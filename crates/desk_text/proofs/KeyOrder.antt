-- Keys compare as their values do.
use Rattle.std.proofs.Common.{◌≡◌, ℕ, suc, ◌<◌, ℤ, pos, negsuc, ◌<ℤ◌, ap, arith}
use Rattle.std.proofs.lemmas.Int.{ints}
use Rattle.std.specs.Ordering.{MatchOrdering, int_cmp}
use Rattle.std.specs.declared.cmp.Ordering.{Ordering}
use Rattle.std.specs.declared.cmp.Ordering.TheVariants.{Less, Equal, Greater}
use Rattle.std.specs.Cmp.{int_ranks, int_cmp_is}
use Rattle.std.specs.Int.RustNames.{unsigned_abs}
use Rattle.desk_text.specs.Key.{first_place, size_value, with_sign, value_of_key, IsKey, IsSize}
use Rattle.desk_text.specs.KeyLaws.{size_value-lt, zero_size, first_place_some}

-- a function of the size that keeps the order of sizes, and 0, keeps the order of numbers
with_sign-lt : (f : ℕ → ℕ) (P : ℕ → Type 0) → ((a b : ℕ) → P a → P b → a < b → f a < f b) → P 0 → (x y : ℤ) → P (unsigned_abs x) → P (unsigned_abs y) → x <ℤ y → with_sign f x <ℤ with_sign f y
with_sign-lt f P keeps none (pos m) (pos n) hx hy below = let h = keeps m n hx hy (omega (arith, ints)) in omega (arith, ints)
with_sign-lt f P keeps none (pos m) (negsuc n) hx hy below = absurd (omega (arith, ints))
with_sign-lt f P keeps none (negsuc m) (pos n) hx hy below = let h = keeps 0 (suc m) none hx (omega arith) in omega (arith, ints)
with_sign-lt f P keeps none (negsuc m) (negsuc n) hx hy below = let h = keeps (suc n) (suc m) hy hx (omega (arith, ints)) in omega (arith, ints)

-- a smaller key has a smaller value
pub value_of_key-lt : (x y : ℤ) → IsKey x → IsKey y → x <ℤ y → value_of_key x <ℤ value_of_key y
value_of_key-lt = with_sign-lt (size_value first_place) (IsSize first_place) (λ a b. size_value-lt first_place a b first_place_some) (zero_size first_place first_place_some).1

ranked_values : (x y : ℤ) (r : Ordering) → IsKey x → IsKey y → MatchOrdering r (x <ℤ y) (x ≡ y) (y <ℤ x) → MatchOrdering r (value_of_key x <ℤ value_of_key y) (value_of_key x ≡ value_of_key y) (value_of_key y <ℤ value_of_key x)
ranked_values x y Less hx hy h = value_of_key-lt x y hx hy h
ranked_values x y Equal hx hy h = ap value_of_key h
ranked_values x y Greater hx hy h = value_of_key-lt y x hy hx h

pub int_cmp-value_of_key : (x y : ℤ) → IsKey x → IsKey y → int_cmp x y ≡ int_cmp (value_of_key x) (value_of_key y)
int_cmp-value_of_key x y hx hy = int_cmp_is (value_of_key x) (value_of_key y) (int_cmp x y) (ranked_values x y (int_cmp x y) hx hy (int_ranks x y))
