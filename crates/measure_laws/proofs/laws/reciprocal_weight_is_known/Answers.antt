use Rattle.std.proofs.Common.{◌≡◌, ℕ, ◌+◌, ◌*◌, ◌/◌, ◌^◌, ◌<◌, ◌≤◌, length, Option, Some, None, MatchOption, arith, refl}
use Rattle.std.proofs.Math.Nat.{div-mul-le_self, lt-div-mul-add}
use Rattle.desk_model.specs.Ranking.{rank}
use Rattle.measure_laws.specs.Ranks.{IsRankWithin}
use Rattle.measure_laws.specs.Weights.{reciprocal_weight}
use Rattle.measure_laws.proofs.Ranks.{rank_within}
use Rattle.measure_laws.proofs.laws.reciprocal_weight_is_known.Goals as goal

-- S over a rank, rounded down, is its share
share : (n : ℕ) (x : Option ℕ) → IsRankWithin n x →
    MatchOption x (reciprocal_weight x ≡ 0) (λ r. (reciprocal_weight x * r ≤ 10 ^ 18) × (10 ^ 18 < (reciprocal_weight x + 1) * r))
share n None h = refl
share n (Some r) h =
    let more : 10 ^ 18 < 10 ^ 18 / r * r + r = lt-div-mul-add (omega (arith, h.0)) in
    (div-mul-le_self (10 ^ 18) r, omega (arith, more))

pub returns : goal.returns
returns c = λ marks a b doc. (
  reciprocal_weight (rank a doc),
  reciprocal_weight (rank b doc),
  share (length a) (rank a doc) (rank_within a (length a) doc (omega arith)),
  share (length b) (rank b doc) (rank_within b (length b) doc (omega arith)),
  refl,
)
