-- Sums over the topics of the ends of differences in completions, topic by topic.
use Rattle.std.proofs.Common.{◌≡◌, ℕ, ◌+◌, ◌*◌, ◌^◌, ◌<◌, ◌≤◌, List, take, Some, ℤ, ◌+ℤ◌, to_z, of_z, sym, subst, arith}
use Rattle.std.specs.Prelude.{slice_get, unsigned_abs}
use Rattle.std.specs.Int.{w128}
use Rattle.std.proofs.lemmas.Int.{ints}
use Rattle.measure_laws.specs.Shares.{IsModest}
use Rattle.order_verifier.proofs.FirstFailing.{SumsTo, sums_more}

-- the sum of the numbers beside the first items, and how large it can be
pub record Added {X : Type 0} (R : ℤ → X → Type 0) (items : List X) (index : ℕ) (sum : ℤ) : Type 0 where
  pub summed : SumsTo R (take index items) sum
  pub within : unsigned_abs sum ≤ index * (2 * 10 ^ 18)

pub added_more : {X : Type 0} (R : ℤ → X → Type 0) (items : List X) (i : ℕ) (x : X) (sum z : ℤ) → slice_get items i ≡ Some x → i < 10000 → Added R items i sum → R z x → IsModest z → Added R items (i + 1) (to_z w128 (of_z w128 (sum +ℤ to_z w128 (of_z w128 z))))
added_more R items i x sum z at few h r modest =
    let total : to_z w128 (of_z w128 (sum +ℤ to_z w128 (of_z w128 z))) ≡ sum +ℤ z = omega (arith, ints, h.within, modest, few) in
    let size : unsigned_abs (sum +ℤ z) ≤ (i + 1) * (2 * 10 ^ 18) = omega (arith, ints, h.within, modest) in
    record {
      summed = subst (SumsTo R (take (i + 1) items)) (sym total) (sums_more R items i x sum z at h.summed r);
      within = subst (λ s. unsigned_abs s ≤ (i + 1) * (2 * 10 ^ 18)) (sym total) size;
    }
