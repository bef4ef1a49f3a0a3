-- Weights that are said in two ways.
use Rattle.std.proofs.Common.{◌≡◌, ℕ, Bool, cond, not, ◌&&◌, ◌||◌, List, take, ap, ◌∙◌, subst}
use Rattle.std.proofs.Common.{◌+◌, ◌<◌, true, false, length, refl, arith}
use Rattle.desk_model.specs.Ranking.{is_in, rank}
use Rattle.measure_laws.specs.Weights.{one_side_weight}
use Rattle.measure_core.specs.Shifts.{HasRoom, IsShifted, HaveRoom, AreShifted}
use Rattle.measure_core.specs.declared.shift.Shift.{Shift}
use Rattle.topic_counts.proofs.Prefixes.{rank_by}
use Rattle.std.specs.Int.{abs_diff}
use Rattle.measure_core.specs.OneSide.{by_worth, alone_weight}
use Rattle.measure_core.specs.Worths.{worths_apart}
use Rattle.measure_core.specs.declared.shift.Shift.TheVariants.{Add, TakeBack}
use Rattle.std.specs.Prelude.{slice_index}

pub room_same : (shift : Shift) (one other : ℕ → ℕ) (totals : List ℕ) → ((doc : ℕ) → one doc ≡ other doc) → HaveRoom shift one totals → HaveRoom shift other totals
room_same shift one other totals same room doc lt = subst (λ (w : ℕ). HasRoom shift w (slice_index totals doc)) (same doc) (room doc lt)

pub shifted_same : (shift : Shift) (one other : ℕ → ℕ) (before now : List ℕ) → ((doc : ℕ) → one doc ≡ other doc) → AreShifted shift one before now → AreShifted shift other before now
shifted_same shift one other before now same h = record { count = h.count; each = λ doc lt. subst (λ (w : ℕ). IsShifted shift w (slice_index before doc) (slice_index now doc)) (same doc) (h.each doc lt) }

-- a weight of one side by the ranks of the document
sides_apart : (p q : Bool) → let both : ℕ = cond ((p && not q) || (q && not p)) 1 0 in both ≡ abs_diff (cond q 1 0) (cond p 1 0)
sides_apart true true = refl
sides_apart true false = refl
sides_apart false true = refl
sides_apart false false = refl

pub side_by_ranks : (k : ℕ) (a b : List ℕ) (doc : ℕ) → one_side_weight k a b doc ≡ worths_apart (by_worth k) a b doc
side_by_ranks k a b doc =
    sides_apart (is_in (take k b) doc) (is_in (take k a) doc)
    ∙ ap (λ (p : Bool). abs_diff (cond (is_in (take k a) doc) 1 0) (cond p 1 0)) (rank_by k doc b)
    ∙ ap (λ (q : Bool). abs_diff (cond q 1 0) (by_worth k (rank b doc))) (rank_by k doc a)

-- ---- two shifts one after the other
module _ (shift : Shift) (whole one other : ℕ → ℕ) (sum : (doc : ℕ) → whole doc ≡ one doc + other doc) where
  room_parts : (shift : Shift) (w v u total : ℕ) → w ≡ v + u → HasRoom shift w total → HasRoom shift v total
  room_parts Add w v u total e room = omega (arith, e, room)
  room_parts TakeBack w v u total e room = omega (arith, e, room)

  room_after : (shift : Shift) (w v u total between : ℕ) → w ≡ v + u → HasRoom shift w total → IsShifted shift v total between → HasRoom shift u between
  room_after Add w v u total between e room is = omega (arith, e, room, is)
  room_after TakeBack w v u total between e room is = omega (arith, e, room, is)

  shifted_twice : (shift : Shift) (w v u total between now : ℕ) → w ≡ v + u → IsShifted shift v total between → IsShifted shift u between now → IsShifted shift w total now
  shifted_twice Add w v u total between now e is also = omega (arith, e, is, also)
  shifted_twice TakeBack w v u total between now e is also = omega (arith, e, is, also)

  pub room_first : (totals : List ℕ) → HaveRoom shift whole totals → HaveRoom shift one totals
  room_first totals room doc lt = room_parts shift (whole doc) (one doc) (other doc) (slice_index totals doc) (sum doc) (room doc lt)

  pub room_second : (before now : List ℕ) → HaveRoom shift whole before → AreShifted shift one before now → HaveRoom shift other now
  room_second before now room h doc lt =
      let within : doc < length before = omega (arith, lt, h.count) in
      room_after shift (whole doc) (one doc) (other doc) (slice_index before doc) (slice_index now doc) (sum doc) (room doc within) (h.each doc within)

  pub both_shifted : (before between now : List ℕ) → AreShifted shift one before between → AreShifted shift other between now → AreShifted shift whole before now
  both_shifted before between now h g = record {
    count = g.count ∙ h.count;
    each = λ doc lt.
        shifted_twice shift (whole doc) (one doc) (other doc) (slice_index before doc) (slice_index between doc) (slice_index now doc) (sum doc) (h.each doc lt) (g.each doc (omega (arith, lt, h.count)));
  }

-- ---- both sides of a weight of one side
side_parts : (p q : Bool) → let both : ℕ = cond ((p && not q) || (q && not p)) 1 0 in both ≡ cond (p && not q) 1 0 + cond (q && not p) 1 0
side_parts true true = omega arith
side_parts true false = omega arith
side_parts false true = omega arith
side_parts false false = omega arith

pub side_sum : (k : ℕ) (a b : List ℕ) (doc : ℕ) → one_side_weight k a b doc ≡ alone_weight k a b doc + alone_weight k b a doc
side_sum k a b doc = side_parts (is_in (take k b) doc) (is_in (take k a) doc)
