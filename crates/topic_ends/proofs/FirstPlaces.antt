-- The first place of a list at which a test passes, from some place on.
use Rattle.std.proofs.Common.{◌≡◌, ℕ, suc, ◌+◌, ◌<◌, ◌≤◌, Bool, true, false, List, length, drop, get_or, Some, None, arith, add-one, ap, sym}
use Rattle.std.specs.List.{position_from}
use Rattle.std.proofs.Math.Seq.{drop-cons}
use Rattle.std.proofs.lemmas.List.{drop_all}

-- it is the place itself where the test passes there
pub here : (p : ℕ → Bool) (items : List ℕ) (i : ℕ) → i < length items → true ≡ p (get_or items i 0) → position_from p (1 + i) (drop i items) ≡ Some (i + 1)
here p items i h e = rw (drop-cons items i 0 h, sym e) (ap (λ (n : ℕ). Some n) (omega arith))

-- and otherwise the first from the next place on
pub later : (p : ℕ → Bool) (items : List ℕ) (i : ℕ) → i < length items → false ≡ p (get_or items i 0) → position_from p (1 + i) (drop i items) ≡ position_from p (1 + (i + 1)) (drop (i + 1) items)
later p items i h e = rw (add-one, drop-cons items i 0 h, sym e) (ap (λ (n : ℕ). position_from p n (drop (suc i) items)) (omega arith))

-- past the end there is none
pub nowhere : (p : ℕ → Bool) (items : List ℕ) (i : ℕ) → length items ≤ i → position_from p (1 + i) (drop i items) ≡ None
nowhere p items i h = ap (position_from p (1 + i)) (drop_all i items h)
