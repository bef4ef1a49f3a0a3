-- The scores of each two runs are found place by place.
use Rattle.std.proofs.Common.{◌≡◌, ◌≢◌, ℕ, ◌+◌, ◌*◌, ◌<◌, ◌≤◌, nat_eq, Bool, true, false, List, length, get_or, set, ap, refl, sym, subst, inl, inr, arith}
use Rattle.std.proofs.Math.Nat.{mul-le-mul_right}
use Rattle.std.proofs.lemmas.Bool.{cases_lt}
use Rattle.std.proofs.lemmas.Bool.Decides.{nat_tests}
use Rattle.std.proofs.lemmas.Grind.{get_or-set_at}
use Rattle.std.proofs.lemmas.List.{get_or-set_other}
use Rattle.desk_model.specs.Limits.{PARTS_OF_ONE, RANK_LIMIT}
use Rattle.desk_model.specs.Ranking.{IsRanking}
use Rattle.desk_model.specs.declared.types.Mark.{Mark}
use Rattle.measure_laws.specs.AverageEnds.{high_case, low_case}
use Rattle.measure_laws.proofs.AverageBounds.{high_average-most, low_average-most}
use Rattle.measure_core.specs.Pairs.{DeskTopic, ranking_on, runs_on}
use Rattle.measure_core.specs.declared.room.CrossScores.{CrossScores}
use Rattle.average_precision.specs.Crossed.{AreAllCrossed, AreCrossed, AreCrossedTo, place_of}

-- a place of an earlier run comes before that run's
row_before : (n run r o : ℕ) → o < n → r < run → r * n + o < run * n
row_before n run r o within less = let rows : (r + 1) * n ≤ run * n = mul-le-mul_right n (omega (arith, less)) in omega (arith, rows, within)

pub place_within : (t : DeskTopic) (run other : ℕ) → run < runs_on t → other < runs_on t → place_of t run other < runs_on t * runs_on t
place_within t run other h k = row_before (runs_on t) (runs_on t) run other k h

same_run : (n run other r o : ℕ) → other < n → o < n → r * n + o ≡ run * n + other → r ≡ run
same_run n run other r o h k e = elim (cases_lt r run) [
  | inl less ↦ absurd (omega (arith, e, row_before n run r o k less))
  | inr more ↦ elim (cases_lt run r) [
    | inl less ↦ absurd (omega (arith, e, row_before n r run other h less))
    | inr even ↦ omega (arith, more, even)
  ]
]

same_other : (n run other r o : ℕ) → r ≡ run → r * n + o ≡ run * n + other → o ≡ other
same_other n run other r o s e = let rows : r * n ≡ run * n = ap (λ (m : ℕ). m * n) s in omega (arith, e, rows)

pub crossed_more : (marks : List Mark) (t : DeskTopic) (run other : ℕ) (scores : List CrossScores) (x : CrossScores) → other < runs_on t → place_of t run other < length scores →
    AreCrossed marks (ranking_on t run) (ranking_on t other) x → AreCrossedTo marks t (place_of t run other) scores → AreCrossedTo marks t (place_of t run other + 1) (set scores (place_of t run other) x)
crossed_more marks t run other scores x h room made before r o k lt none = by (nat_eq (place_of t run other) (place_of t r o)) refl
  where
    by : (b : Bool) → nat_eq (place_of t run other) (place_of t r o) ≡ b → AreCrossed marks (ranking_on t r) (ranking_on t o) (get_or (set scores (place_of t run other) x) (place_of t r o) none)
    by true is =
        let same : place_of t r o ≡ place_of t run other = grind (arith, nat_tests) in
        let of_run : r ≡ run = same_run (runs_on t) run other r o h k same in
        let of_other : o ≡ other = same_other (runs_on t) run other r o of_run same in
        subst (AreCrossed marks (ranking_on t r) (ranking_on t o)) (sym (get_or-set_at scores (place_of t run other) (place_of t r o) x none same room))
        (subst (λ (m : ℕ). AreCrossed marks (ranking_on t m) (ranking_on t o) x) (sym of_run) (subst (λ (m : ℕ). AreCrossed marks (ranking_on t run) (ranking_on t m) x) (sym of_other) made))
    by false is =
        let apart : place_of t r o ≢ place_of t run other = grind (arith, nat_tests) in
        subst (AreCrossed marks (ranking_on t r) (ranking_on t o)) (sym (get_or-set_other scores (place_of t run other) (place_of t r o) x none apart)) (before r o k (omega (arith, lt, apart)) none)

pub crossed_at : (marks : List Mark) (t : DeskTopic) (run other : ℕ) (scores : List CrossScores) (none : CrossScores) → run < runs_on t → other < runs_on t → AreAllCrossed marks t scores →
    AreCrossed marks (ranking_on t run) (ranking_on t other) (get_or scores (place_of t run other) none)
crossed_at marks t run other scores none h k all = all run other k (place_within t run other h k) none

-- ---- no score is great
pub high_small : (marks : List Mark) (run docs : List ℕ) (scores : CrossScores) → IsRanking (length marks) docs → AreCrossed marks run docs scores → scores.in_high ≤ RANK_LIMIT * PARTS_OF_ONE
high_small marks run docs scores r h = omega (arith, h.in_high, high_average-most (length marks) (high_case marks run) docs r)

pub low_small : (marks : List Mark) (run docs : List ℕ) (scores : CrossScores) → IsRanking (length marks) docs → AreCrossed marks run docs scores → scores.in_low ≤ RANK_LIMIT * PARTS_OF_ONE
low_small marks run docs scores r h = omega (arith, h.in_low, low_average-most (length marks) (low_case marks run) docs r)
