-- Rows that bits stand for.
use Rattle.std.proofs.Common.{◌≡◌, ◌≢◌, ℕ, zero, suc, ◌*◌, ◌/◌, ◌%◌, ◌^◌, ◌<◌, ◌≤◌, true, false, nat_eq, ◌||◌, List, [], ◌∷◌, length, get_or, set, max, bit_or, w64, inl, inr, arith, refl, ap, ◌∙◌, sym}
use Rattle.std.specs.Int.{bit_at}
use Rattle.std.proofs.lemmas.Bool.{cases_lt}
use Rattle.std.proofs.lemmas.Grind.{get_or-set_at}
use Rattle.std.proofs.lemmas.List.{get_or_past, get_or-set_other}
use Rattle.std.proofs.lemmas.List.FromFn.{get_or-map-range_with_len, length-map-range_with_len}
use Rattle.std.proofs.lemmas.Nat.Bits.{bit_at_set_same, bit_at_set_other, bit_at_or, bit_at-zero, bit_at-lt}
use Rattle.small_lemmas.proofs.Numbers.{same_or_not}
use Rattle.measure_core.specs.Bits.{has_bit}
use Rattle.order_tiers.specs.Rows.{has, row_of}

pub length-row_of : (runs : ℕ) (bits : List ℕ) → length (row_of runs bits) ≡ runs
unfolding row_of
length-row_of runs bits = length-map-range_with_len (has_bit bits) 0 runs

pub has-row_of : (runs : ℕ) (bits : List ℕ) (run : ℕ) → run < runs → has (row_of runs bits) run ≡ has_bit bits run
unfolding row_of
has-row_of runs bits run lt = get_or-map-range_with_len (has_bit bits) 0 runs run run false lt (omega arith)

pub has-past : (runs : ℕ) (bits : List ℕ) (run : ℕ) → runs ≤ run → has (row_of runs bits) run ≡ false
has-past runs bits run past = get_or_past (row_of runs bits) run false (omega (arith, past, length-row_of runs bits))

-- a bit for each of the runs that there may be
pub in_words : (runs : ℕ) (bits : List ℕ) (run : ℕ) → runs ≤ 256 → run < length (row_of runs bits) → (run < runs) × (run / 64 < 4) × (run < 64 * 4)
in_words runs bits run few lt = let long = length-row_of runs bits in (omega (arith, lt, long), omega (arith, lt, long, few), omega (arith, lt, long, few))

-- ---- no bits
abbrev pub no_words : List ℕ
no_words = 0 ∷ 0 ∷ 0 ∷ 0 ∷ []

none_set : (run : ℕ) → has_bit no_words run ≡ false
none_set run = ap (λ (m : ℕ). nat_eq (bit_at m (run % 64)) 1) (zero_at (run / 64)) ∙ ap (λ (m : ℕ). nat_eq m 1) (bit_at-zero (run % 64))
  where
    zero_at : (k : ℕ) → get_or no_words k 0 ≡ 0
    zero_at zero = refl
    zero_at (suc zero) = refl
    zero_at (suc (suc zero)) = refl
    zero_at (suc (suc (suc zero))) = refl
    zero_at (suc (suc (suc (suc k)))) = refl

pub has_none : (runs run : ℕ) → has (row_of runs no_words) run ≡ false
has_none runs run = elim (cases_lt run runs) [
  | inl inside ↦ has-row_of runs no_words run inside ∙ none_set run
  | inr past ↦ has-past runs no_words run past
]

-- ---- one bit more
abbrev pub with_bit : List ℕ → ℕ → List ℕ
with_bit bits d = set bits (d / 64) (bit_or (get_or bits (d / 64) 0) (1 * 2 ^ (d % 64) % 2 ^ 64))

small : (d : ℕ) → d % 64 < 64
small d = omega arith

set_here : (bits : List ℕ) (d : ℕ) → d < 64 * length bits → has_bit (with_bit bits d) d ≡ true
set_here bits d within =
    let n : ℕ = get_or bits (d / 64) 0 in
    ap (λ (m : ℕ). nat_eq (bit_at m (d % 64)) 1) (get_or-set_at bits (d / 64) (d / 64) (bit_or n (1 * 2 ^ (d % 64) % 2 ^ 64)) 0 refl (omega (arith, within)))
    ∙ ap (λ (m : ℕ). nat_eq m 1) (bit_at_set_same w64 n (d % 64) (small d))

kept_elsewhere : (bits : List ℕ) (d other : ℕ) → d < 64 * length bits → other ≢ d → has_bit (with_bit bits d) other ≡ has_bit bits other
kept_elsewhere bits d other within apart = elim (same_or_not (other / 64) (d / 64)) [
  | inl same ↦
      let n : ℕ = get_or bits (d / 64) 0 in
      let away : other % 64 ≢ d % 64 = λ bad. apart (omega (arith, bad, same)) in
      ap (λ (m : ℕ). nat_eq (bit_at m (other % 64)) 1) (get_or-set_at bits (d / 64) (other / 64) (bit_or n (1 * 2 ^ (d % 64) % 2 ^ 64)) 0 same (omega (arith, within)))
      ∙ ap (λ (m : ℕ). nat_eq m 1) (bit_at_set_other w64 n (d % 64) (small d) (other % 64) away)
      ∙ sym (ap (λ (k : ℕ). nat_eq (bit_at (get_or bits k 0) (other % 64)) 1) same)
  | inr elsewhere ↦ ap (λ (m : ℕ). nat_eq (bit_at m (other % 64)) 1) (get_or-set_other bits (d / 64) (other / 64) (bit_or (get_or bits (d / 64) 0) (1 * 2 ^ (d % 64) % 2 ^ 64)) 0 elsewhere)
]

pub added_has : (runs : ℕ) (bits : List ℕ) (run : ℕ) → run < runs → run < 64 * length bits → has (row_of runs (with_bit bits run)) run ≡ true
added_has runs bits run lt within = has-row_of runs (with_bit bits run) run lt ∙ set_here bits run within

pub added_keeps : (runs : ℕ) (bits : List ℕ) (run : ℕ) → run < 64 * length bits → (other : ℕ) → other ≢ run → has (row_of runs (with_bit bits run)) other ≡ has (row_of runs bits) other
added_keeps runs bits run within other apart = elim (cases_lt other runs) [
  | inl inside ↦ has-row_of runs (with_bit bits run) other inside ∙ kept_elsewhere bits run other within apart ∙ sym (has-row_of runs bits other inside)
  | inr past ↦ has-past runs (with_bit bits run) other past ∙ sym (has-past runs bits other past)
]

-- ---- the bits of two
-- each word has the bits of two words
pub record AreJoined (words others after : List ℕ) : Type 0 where
  pub each : (k : ℕ) → get_or after k 0 ≡ bit_or (get_or words k 0) (get_or others k 0)

one_or : (m n : ℕ) → m < 2 → n < 2 → nat_eq (max m n) 1 ≡ (nat_eq m 1 || nat_eq n 1)
one_or zero zero h k = refl
one_or zero (suc zero) h k = refl
one_or zero (suc (suc n)) h k = absurd (omega (arith, k))
one_or (suc zero) zero h k = refl
one_or (suc zero) (suc zero) h k = refl
one_or (suc zero) (suc (suc n)) h k = absurd (omega (arith, k))
one_or (suc (suc m)) n h k = absurd (omega (arith, h))

bit_joined : (words others after : List ℕ) → AreJoined words others after → (run : ℕ) → has_bit after run ≡ (has_bit words run || has_bit others run)
bit_joined words others after h run =
    let m : ℕ = get_or words (run / 64) 0 in
    let n : ℕ = get_or others (run / 64) 0 in
    ap (λ (v : ℕ). nat_eq (bit_at v (run % 64)) 1) (h.each (run / 64)) ∙ ap (λ (v : ℕ). nat_eq v 1) (bit_at_or m n (run % 64))
    ∙ one_or (bit_at m (run % 64)) (bit_at n (run % 64)) (bit_at-lt m (run % 64)) (bit_at-lt n (run % 64))

pub joined_has : (runs : ℕ) (words others after : List ℕ) → AreJoined words others after → (run : ℕ) → has (row_of runs after) run ≡ (has (row_of runs words) run || has (row_of runs others) run)
joined_has runs words others after h run = elim (cases_lt run runs) [
  | inl inside ↦ has-row_of runs after run inside ∙ bit_joined words others after h run ∙ ap (λ b. b || has_bit others run) (sym (has-row_of runs words run inside)) ∙ ap (λ b. has (row_of runs words) run || b) (sym (has-row_of runs others run inside))
  | inr past ↦ has-past runs after run past ∙ ap (λ b. b || false) (sym (has-past runs words run past)) ∙ ap (λ b. has (row_of runs words) run || b) (sym (has-past runs others run past))
]
