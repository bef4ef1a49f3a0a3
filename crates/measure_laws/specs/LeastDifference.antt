-- The least difference of two rankings on a topic, in counts of documents and ranks: a fraction, or the smallest of some.
use Rattle.std.specs.Prelude.{◌≡◌, ◌↔◌, ℕ, ◌+◌, ◌-◌, ◌*◌, ◌<◌, ◌≤◌, min, nat_lt, true, false, if◌then◌else◌, List, length, take, Option, Some, None, ℤ, pos, ◌-ℤ◌, ◌*ℤ◌, ◌≤ℤ◌}
use Rattle.desk_model.specs.Mark.{is_unjudged, mark_at}
use Rattle.desk_model.specs.Classes.{only_count}
use Rattle.desk_model.specs.Completion.{with_picked}
use Rattle.desk_model.specs.Extremes.{InEvery, InSome}
use Rattle.desk_model.specs.Fraction.{IsAtMost, IsAtLeast}
use Rattle.desk_model.specs.Ranking.{is_in, rank}
use Rattle.desk_model.specs.Score.{first_true, reciprocal, true_count}
use Rattle.desk_model.specs.declared.types.Mark.{Mark}
use Rattle.desk_model.specs.declared.types.MeasureName.{MeasureName}
use Rattle.measure_laws.specs.Classes.{judged_count, open_in, size_of}
use Rattle.measure_laws.specs.Ranks.{earlier}

-- the least difference over all completions is the smallest of some fractions, and is attained: a whole number is at most unit times it exactly
-- where it is at most unit times each of them, and at least that exactly where it is so for one of them
pub record IsSmallestOf {X : Type 0} (measure : MeasureName) (marks : List Mark) (a b : List ℕ) (among : X → Type 0) (num : X → ℤ) (den : X → ℕ) : Type 0 where
  pub positive : (x : X) → among x → 0 < den x
  pub below : (z : ℤ) (unit : ℕ) → InEvery measure marks a b (IsAtMost z unit) ↔ ((x : X) → among x → (z *ℤ pos (den x)) ≤ℤ (pos unit *ℤ num x))
  pub above : (z : ℤ) (unit : ℕ) → InSome measure marks a b (IsAtLeast z unit) ↔ ((x : X) × among x × ((pos unit *ℤ num x) ≤ℤ (z *ℤ pos (den x))))

-- the least difference is num over den, and is attained
pub record IsLeastDifference (measure : MeasureName) (marks : List Mark) (a b : List ℕ) (num : ℤ) (den : ℕ) : Type 0 where
  pub positive : 0 < den
  pub below : (z : ℤ) (unit : ℕ) → InEvery measure marks a b (IsAtMost z unit) ↔ ((z *ℤ pos den) ≤ℤ (pos unit *ℤ num))
  pub above : (z : ℤ) (unit : ℕ) → InSome measure marks a b (IsAtLeast z unit) ↔ ((pos unit *ℤ num) ≤ℤ (z *ℤ pos den))

-- the documents that a has among its first k and b has not: how many are judged relevant, and how many unjudged
abbrev pub own_relevant : ℕ → List Mark → List ℕ → List ℕ → ℕ
own_relevant k marks a b = only_count false marks (take k a) (take k b)

abbrev pub own_unjudged : ℕ → List Mark → List ℕ → List ℕ → ℕ
own_unjudged k marks a b = only_count true marks (take k a) (take k b) - own_relevant k marks a b

-- the documents of a topic that can be relevant, and the unjudged ones
abbrev pub possible_count : List Mark → ℕ
possible_count marks = true_count (with_picked marks (λ _. true)) (length marks)

abbrev pub unjudged_count : List Mark → ℕ
unjudged_count marks = size_of (length marks) (open_in marks (λ _. true))

-- the relevant documents of recall's least case: all that can be but a's own unjudged ones where a leads, else the judged ones and b's own unjudged ones
abbrev pub recall_relevant : ℕ → List Mark → List ℕ → List ℕ → ℕ
recall_relevant k marks a b =
    if nat_lt (own_relevant k marks b a + own_unjudged k marks b a) (own_relevant k marks a b) then possible_count marks - own_unjudged k marks a b
    else judged_count marks + own_unjudged k marks b a

-- by how many relevant documents among the first r the runs differ at least where a topic has r: b's own unjudged ones are chosen first, and a's own last
abbrev pub rprec_lead : List Mark → List ℕ → List ℕ → ℕ → ℤ
rprec_lead marks a b r =
    let chosen = r - judged_count marks in
    pos (own_relevant r marks a b + (chosen - (unjudged_count marks - own_unjudged r marks a b))) -ℤ pos (own_relevant r marks b a + min chosen (own_unjudged r marks b a))

-- a number of relevant documents that a topic can have
abbrev pub IsPossible : List Mark → ℕ → Type 0
IsPossible marks r = (judged_count marks ≤ r) × (r ≤ judged_count marks + unjudged_count marks)

-- no document, or an unjudged one of a ranking
abbrev pub IsChoiceOf : List Mark → List ℕ → Option ℕ → Type 0
IsChoiceOf marks docs None = Unit {0}
IsChoiceOf marks docs (Some doc) = (is_in docs doc ≡ true) × (is_unjudged (mark_at marks doc) ≡ true)

-- the first rank with a relevant document where of the unjudged ones the chosen one alone is relevant
abbrev pub first_rank : List Mark → Option ℕ → List ℕ → Option ℕ
first_rank marks None docs = first_true (with_picked marks (λ _. false)) docs
first_rank marks (Some doc) docs = earlier (first_true (with_picked marks (λ _. false)) docs) (rank docs doc)

-- the difference of the two runs' scores under a choice, as one fraction
abbrev pub choice_num : List Mark → List ℕ → List ℕ → Option ℕ → ℤ
choice_num marks a b choice =
    let x = reciprocal (first_rank marks choice a) in
    let y = reciprocal (first_rank marks choice b) in pos (x.num * y.den) -ℤ pos (y.num * x.den)

abbrev pub choice_den : List Mark → List ℕ → List ℕ → Option ℕ → ℕ
choice_den marks a b choice = (reciprocal (first_rank marks choice a)).den * (reciprocal (first_rank marks choice b)).den
