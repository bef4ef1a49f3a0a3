-- Completions, means over topics, and orders that always hold.
use Rattle.std.proofs.Common.{◌≡◌, ℕ, zero, suc, Bool, true, false, ◌+◌, cond, List, [], ◌∷◌, refl, arith, lit<}
use Rattle.desk_model.specs.Completion.{Allows, Completes, Completion, with_picked}
use Rattle.desk_model.specs.Desk.{topics_under}
use Rattle.desk_model.specs.Fraction.{Fraction, over, IsBelow, IsSame, plus, total, mean}
use Rattle.desk_model.specs.Order.{IsCompletion, run_mean, IsAlwaysAbove, AreAlwaysEqual}
use Rattle.desk_model.specs.declared.types.Mark.TheVariants.{Unjudged, Relevant, Other}
use Rattle.desk_model.specs.declared.types.MeasureName.TheVariants.{Precision, Recall, Biased}
use Rattle.desk_laws.specs.Example.{two_runs, two_topics, marks_401, one_topic, parts, d3_false, d3_true, no_document, every_document, without_tails}

-- ---- what a mark allows
pub relevant_is_true : Allows Relevant true
relevant_is_true = refl

pub relevant_is_not_false : Allows Relevant false → ⊥
relevant_is_not_false h = absurd (cc)

pub other_is_false : Allows Other false
other_is_false = refl

pub other_is_not_true : Allows Other true → ⊥
other_is_not_true h = absurd (cc)

pub unjudged_is_either : Allows Unjudged true × Allows Unjudged false
unjudged_is_either = (tt, tt)

-- ---- the two completions of the example: d3 true or d3 false
pub completion_with_d3_false : Completes marks_401 d3_false
completion_with_d3_false zero h = refl
completion_with_d3_false (suc zero) h = refl
completion_with_d3_false (suc (suc zero)) h = tt
completion_with_d3_false (suc (suc (suc doc))) h = absurd (omega arith)

pub completion_with_d3_true : Completes marks_401 d3_true
completion_with_d3_true zero h = refl
completion_with_d3_true (suc zero) h = refl
completion_with_d3_true (suc (suc zero)) h = tt
completion_with_d3_true (suc (suc (suc doc))) h = absurd (omega arith)

-- what is judged stays: no completion makes d1 false or d2 true
pub no_completion_without_d1 : Completes marks_401 no_document → ⊥
no_completion_without_d1 h = let e = h 0 (lit< tt) in absurd (cc)

pub no_completion_with_d2 : Completes marks_401 every_document → ⊥
no_completion_with_d2 h = let e = h 1 (lit< tt) in absurd (cc)

pub completion_of_an_empty_universe : (truth : ℕ → Bool) → Completes [] truth
completion_of_an_empty_universe truth doc h = absurd (omega arith)

pub unjudged_documents_picked : (pick : ℕ → Bool) → with_picked marks_401 pick 2 ≡ pick 2
unjudged_documents_picked pick = refl

pub judged_documents_not_picked : with_picked marks_401 every_document 1 ≡ false
judged_documents_not_picked = refl

-- one completion for each topic
pub completion_of_one_topic : IsCompletion one_topic (without_tails d3_true ∷ [])
completion_of_one_topic = (completion_with_d3_true, tt)

pub completion_of_no_topic : IsCompletion one_topic [] → ⊥
completion_of_no_topic h = h

pub two_completions_of_one_topic : IsCompletion one_topic (without_tails d3_true ∷ without_tails d3_false ∷ []) → ⊥
two_completions_of_one_topic h = h.1

-- ---- fractions
pub over_nothing : over 3 0 ≡ parts 0 1
over_nothing = refl

pub nothing_over_nothing : over 0 0 ≡ parts 0 1
nothing_over_nothing = refl

pub over_three : over 1 3 ≡ parts 1 3
over_three = refl

pub a_half_below_two_thirds : IsBelow (parts 1 2) (parts 2 3)
a_half_below_two_thirds = lit< tt

pub a_half_not_below_two_quarters : IsBelow (parts 1 2) (parts 2 4) → ⊥
a_half_not_below_two_quarters h = absurd (omega arith)

pub zero_below_a_third : IsBelow (parts 0 1) (parts 1 3)
zero_below_a_third = lit< tt

pub a_half_is_two_quarters : IsSame (parts 1 2) (parts 2 4)
a_half_is_two_quarters = refl

pub a_half_is_not_a_third : IsSame (parts 1 2) (parts 1 3) → ⊥
a_half_is_not_a_third h = absurd (omega arith)

pub zeros_are_one_number : IsSame (parts 0 1) (parts 0 7)
zeros_are_one_number = refl

pub a_half_and_a_third : plus (parts 1 2) (parts 1 3) ≡ parts 5 6
a_half_and_a_third = refl

pub sum_of_nothing : total [] ≡ parts 0 1
sum_of_nothing = refl

pub sum_of_three : IsSame (total (parts 1 2 ∷ parts 1 3 ∷ parts 1 6 ∷ [])) (parts 1 1)
sum_of_three = refl

-- ---- means
pub mean_of_two : mean (parts 1 2 ∷ parts 1 3 ∷ []) ≡ parts 5 12
mean_of_two = refl

pub mean_of_one : IsSame (mean (parts 2 3 ∷ [])) (parts 2 3)
mean_of_one = refl

pub mean_of_zeros : IsSame (mean (parts 0 1 ∷ parts 0 2 ∷ parts 0 1 ∷ [])) (parts 0 1)
mean_of_zeros = refl

-- P_2 of A on topic 401 with d3 false is 1/2, and its mean over the one topic is that
pub mean_over_one_topic : IsSame (run_mean (Precision 2) 0 one_topic (without_tails d3_false ∷ [])) (parts 1 2)
mean_over_one_topic = refl

pub mean_of_b_over_one_topic : IsSame (run_mean (Precision 2) 1 one_topic (without_tails d3_false ∷ [])) (parts 0 1)
mean_of_b_over_one_topic = refl

-- A lacks topic 402 and scores 0 there: (1/2 + 0) / 2
pub mean_of_a_run_without_the_topic :
    IsSame (run_mean (Precision 2) 0 (topics_under two_topics (marks_401 ∷ (Relevant ∷ []) ∷ [])) (without_tails d3_false ∷ without_tails every_document ∷ [])) (parts 1 4)
mean_of_a_run_without_the_topic = refl

-- B has d9 there: recall (0 + 1) / 2
pub mean_of_the_run_with_the_topic :
    IsSame (run_mean (Recall 5) 1 (topics_under two_topics (marks_401 ∷ (Relevant ∷ []) ∷ [])) (without_tails d3_false ∷ without_tails every_document ∷ [])) (parts 1 2)
mean_of_the_run_with_the_topic = refl

-- one relevant place after the first run, none after the others
abbrev if_first : ℕ → List Bool
if_first zero = true ∷ []
if_first (suc run) = []

-- each run looks at its own tail: rank-biased precision of A with a relevant place after d3 is 1/8 greater
pub mean_with_a_tail :
    IsSame (run_mean (Biased 5 10) 0 one_topic (record { truth = d3_false; tail = λ run. if_first run } ∷ [])) (parts 5 8)
mean_with_a_tail = refl

pub mean_with_the_tail_of_another_run :
    IsSame (run_mean (Biased 5 10) 1 one_topic (record { truth = d3_true; tail = λ run. if_first run } ∷ [])) (parts 1 4)
mean_with_the_tail_of_another_run = refl

-- ---- orders that always hold
-- the marks of the example leave d3 alone open
judged : (truth : ℕ → Bool) → Completes marks_401 truth → (truth 0 ≡ true) × (truth 1 ≡ false)
judged truth h = (h 0 (lit< tt), h 1 (lit< tt))

-- P_2 of two documents
abbrev pub precision_of_two : Bool → Bool → Fraction
precision_of_two x y = parts (0 + cond x 1 0 + cond y 1 0) 2

below_either_way : (x y z : Bool) → x ≡ true → y ≡ false → IsBelow (mean (precision_of_two y z ∷ [])) (mean (precision_of_two x z ∷ []))
below_either_way x y true e f = rw (e, f) (lit< tt)
below_either_way x y false e f = rw (e, f) (lit< tt)

-- under P_2 A is above B by 1/2 with d3 true and with d3 false
pub a_is_always_above_b : IsAlwaysAbove (Precision 2) one_topic 0 1
a_is_always_above_b = record { in_every = above }
  where
    above : (cs : List Completion) → IsCompletion one_topic cs → IsBelow (run_mean (Precision 2) 1 one_topic cs) (run_mean (Precision 2) 0 one_topic cs)
    above [] h = absurd h
    above (c ∷ []) h = let j = judged c.truth h.0 in below_either_way (c.truth 0) (c.truth 1) (c.truth 2) j.0 j.1
    above (c ∷ d ∷ cs) h = absurd h.1

pub b_is_not_always_above_a : IsAlwaysAbove (Precision 2) one_topic 1 0 → ⊥
b_is_not_always_above_a h = let e = h.in_every (without_tails d3_true ∷ []) completion_of_one_topic in absurd (omega arith)

-- no run is above itself
pub a_is_not_always_above_itself : IsAlwaysAbove (Recall 1) one_topic 0 0 → ⊥
a_is_not_always_above_itself h = let e = h.in_every (without_tails d3_true ∷ []) completion_of_one_topic in absurd (omega arith)

-- where no document is relevant both means are 0
pub nothing_relevant_is_always_equal : AreAlwaysEqual (Precision 2) (topics_under two_runs ((Other ∷ Other ∷ Other ∷ []) ∷ [])) 0 1
nothing_relevant_is_always_equal = record { in_every = equal }
  where
    same : (x y z : Bool) → x ≡ false → y ≡ false → z ≡ false → IsSame (mean (precision_of_two x z ∷ [])) (mean (precision_of_two y z ∷ []))
    same x y z e f g = rw (e, f, g) refl

    equal : (cs : List Completion) → IsCompletion (topics_under two_runs ((Other ∷ Other ∷ Other ∷ []) ∷ [])) cs →
        IsSame (run_mean (Precision 2) 0 (topics_under two_runs ((Other ∷ Other ∷ Other ∷ []) ∷ [])) cs) (run_mean (Precision 2) 1 (topics_under two_runs ((Other ∷ Other ∷ Other ∷ []) ∷ [])) cs)
    equal [] h = absurd h
    equal (c ∷ []) h = same (c.truth 0) (c.truth 1) (c.truth 2) (h.0 0 (lit< tt)) (h.0 1 (lit< tt)) (h.0 2 (lit< tt))
    equal (c ∷ d ∷ cs) h = absurd h.1

-- a run and itself, whatever is unjudged
pub a_run_is_always_equal_to_itself : AreAlwaysEqual (Recall 1) one_topic 0 0
a_run_is_always_equal_to_itself = record { in_every = λ cs h. refl }

-- the example is not always equal: with d3 false 1/2 is not 0
pub example_is_not_always_equal : AreAlwaysEqual (Precision 2) one_topic 0 1 → ⊥
example_is_not_always_equal h = let e = h.in_every (without_tails d3_true ∷ []) completion_of_one_topic in absurd (omega arith)
