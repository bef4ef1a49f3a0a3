-- The least case of R-precision: for each number r of relevant documents a greedy choice, and of these the first with the smallest difference.
use Rattle.std.specs.Prelude.{◌≡◌, ℕ, ◌+◌, ◌-◌, ◌≤◌, Bool, true, ◌||◌, List, ◌∷◌, length}
use Rattle.std.specs.List.{range_with_len}
use Rattle.desk_model.specs.Completion.{with_picked}
use Rattle.desk_model.specs.Fraction.{over}
use Rattle.desk_model.specs.Score.{true_among, true_count}
use Rattle.desk_model.specs.declared.types.Mark.{Mark}
use Rattle.desk_model.specs.declared.types.MeasureName.TheVariants.{RPrecision}
use Rattle.measure_laws.specs.Prefixes.{only_second, neutral}
use Rattle.measure_laws.specs.Classes.{open_in, size_of, judged_count, is_among_first}
use Rattle.measure_laws.specs.Differences.{IsLeastCase, Scores, first_least}

-- the unjudged documents made relevant where r are to be: first those of b's first r alone, then those in both or neither, then those of a's first r alone
abbrev pub greedy_pick : List Mark → List ℕ → List ℕ → ℕ → ℕ → Bool
greedy_pick marks a b r doc =
    let second = open_in marks (only_second r a b) in
    let both = open_in marks (neutral r a b) in
    let first = open_in marks (only_second r b a) in
    let wanted = r - judged_count marks in
    let later = wanted - size_of (length marks) second in
    let last = later - size_of (length marks) both in
    is_among_first wanted second doc || (is_among_first later both doc || is_among_first last first doc)

-- the completion with that choice
abbrev pub greedy_truth : List Mark → List ℕ → List ℕ → ℕ → ℕ → Bool
greedy_truth marks a b r = with_picked marks (greedy_pick marks a b r)

-- the two scores in it
abbrev pub greedy_scores : List Mark → List ℕ → List ℕ → ℕ → Scores
greedy_scores marks a b r =
    let truth = greedy_truth marks a b r in record { first = over (true_among truth r a) r; second = over (true_among truth r b) r }

-- the numbers of relevant documents beyond the judged ones, ascending
abbrev pub later_counts : List Mark → List ℕ
later_counts marks = range_with_len (judged_count marks + 1) (size_of (length marks) (open_in marks (λ _. true)))

-- the numbers of relevant documents that a topic can have, ascending
abbrev pub rprec_counts : List Mark → List ℕ
rprec_counts marks = judged_count marks ∷ later_counts marks

-- the smallest number of relevant documents at which the least difference is attained
abbrev pub rprec_count : List Mark → List ℕ → List ℕ → ℕ
rprec_count marks a b = first_least (greedy_scores marks a b) (judged_count marks) (later_counts marks)

-- the completion of the least case
abbrev pub rprec_truth : List Mark → List ℕ → List ℕ → ℕ → Bool
rprec_truth marks a b = greedy_truth marks a b (rprec_count marks a b)

-- a completion with r relevant documents has the least difference of all completions
abbrev pub IsAttainedAt : List Mark → List ℕ → List ℕ → ℕ → Type 0
IsAttainedAt marks a b r =
    (truth : ℕ → Bool) × (true_count truth (length marks) ≡ r) × IsLeastCase RPrecision marks a b truth

-- the smallest number of relevant documents of a completion with the least difference
pub record IsSmallestAttained (marks : List Mark) (a b : List ℕ) (r : ℕ) : Type 0 where
  pub attained : IsAttainedAt marks a b r
  pub others : (s : ℕ) → IsAttainedAt marks a b s → r ≤ s
