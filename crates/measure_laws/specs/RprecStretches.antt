-- R-precision beyond both rankings: from a number of relevant documents on, both runs' own documents stay as they are, and two numbers more can have the least difference.
use Rattle.std.specs.Prelude.{◌≡◌, ℕ, ◌+◌, ◌-◌, ◌<◌, ◌≤◌, ◌⊎◌, max, Bool, false, List, length}
use Rattle.desk_model.specs.declared.types.Mark.{Mark}
use Rattle.measure_laws.specs.Classes.{judged_count}
use Rattle.measure_laws.specs.Differences.{is_smaller}
use Rattle.measure_laws.specs.LeastDifference.{IsPossible, own_unjudged, unjudged_count}
use Rattle.measure_laws.specs.RprecCase.{greedy_scores}

-- a number of relevant documents that the topic can have, and no smaller than either ranking is long where the topic can have more
pub record IsBeyond (marks : List Mark) (a b : List ℕ) (r : ℕ) : Type 0 where
  pub possible : IsPossible marks r
  pub positive : r < judged_count marks + unjudged_count marks → 0 < r
  pub first : r < judged_count marks + unjudged_count marks → length a ≤ r
  pub second : r < judged_count marks + unjudged_count marks → length b ≤ r

-- the first number from there on at which b's own unjudged documents are all relevant, and the last one at which none of a's own is
abbrev pub second_used : List Mark → List ℕ → List ℕ → ℕ → ℕ
second_used marks a b r = max r (judged_count marks + own_unjudged r marks b a)

abbrev pub others_used : List Mark → List ℕ → List ℕ → ℕ → ℕ
others_used marks a b r = max r (judged_count marks + (unjudged_count marks - own_unjudged r marks a b))

-- from one number of relevant documents to another the difference of the greedy choices falls at each step, or at none
abbrev pub IsEven : List Mark → List ℕ → List ℕ → ℕ → ℕ → Bool → Type 0
IsEven marks a b start end falls = (m k : ℕ) → start ≤ m → m < k → k ≤ end → is_smaller (greedy_scores marks a b k) (greedy_scores marks a b m) ≡ falls

-- the three stretches from there on; along the last one the difference does not fall
pub record AreStretches (marks : List Mark) (a b : List ℕ) (r : ℕ) : Type 0 where
  pub order : second_used marks a b r ≤ others_used marks a b r
  pub last : others_used marks a b r ≤ judged_count marks + unjudged_count marks
  pub first : (falls : Bool) × IsEven marks a b r (second_used marks a b r) falls
  pub second : (falls : Bool) × IsEven marks a b (second_used marks a b r) (others_used marks a b r) falls
  pub third : IsEven marks a b (others_used marks a b r) (judged_count marks + unjudged_count marks) false

-- a number of relevant documents up to there, or one of the two where a stretch ends
abbrev pub IsCandidate : List Mark → List ℕ → List ℕ → ℕ → ℕ → Type 0
IsCandidate marks a b r s = ((judged_count marks ≤ s) × (s ≤ r)) ⊎ ((s ≡ second_used marks a b r) ⊎ (s ≡ others_used marks a b r))
