-- The search for the best of many greedy choices.
use Rattle.desk_model.specs.Limits.{RANK_LIMIT}
use Rattle.std.specs.Prelude.{◌≡◌, ℕ, ◌<◌, ◌≤◌, ◌&&◌, ◌||◌, ◌⊎◌, Bool, false, not, nat_lt, if◌then◌else◌}
use Rattle.rprec.specs.declared.greedy.DepthCandidate.{DepthCandidate}
use Rattle.rprec.specs.Greedy.{beats}

-- whether a candidate has a smaller difference than another, or the same with fewer relevant documents
abbrev pub precedes : DepthCandidate → DepthCandidate → Bool
precedes c best = beats c best || (not (beats best c) && nat_lt c.count best.count)

-- the one of two candidates that precedes, and else the second
abbrev pub preferred : DepthCandidate → DepthCandidate → DepthCandidate
preferred c best = if precedes c best then c else best

-- a candidate of no more documents than a run has
pub record IsShallow (c : DepthCandidate) : Type 0 where
  pub few : c.count ≤ RANK_LIMIT
  pub first_few : c.first ≤ RANK_LIMIT
  pub second_few : c.second ≤ RANK_LIMIT

-- an earlier candidate, or one of the choices from one place up to another, which the earlier does not precede
pub record IsBestBetween (choices : ℕ → DepthCandidate) (start end : ℕ) (earlier best : DepthCandidate) : Type 0 where
  pub one : (best ≡ earlier) ⊎ ((place : ℕ) × ((start ≤ place) × ((place < end) × (best ≡ choices place))))
  pub not_before : precedes earlier best ≡ false

-- and no other one precedes it
pub record IsBestOf (choices : ℕ → DepthCandidate) (start end : ℕ) (earlier best : DepthCandidate) : Type 0 where
  pub choice : IsBestBetween choices start end earlier best
  pub none : (place : ℕ) → start ≤ place → place < end → precedes (choices place) best ≡ false
