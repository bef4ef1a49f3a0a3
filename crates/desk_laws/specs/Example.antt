-- The example of the cases: topic 401 with d1 judged relevant, d2 judged and not relevant, and d3 unjudged.
-- Run A retrieved d1 and d3, run B d2 and d3. The documents have the numbers 0, 1 and 2.
use Rattle.std.specs.Prelude.{ℕ, Bool, not, nat_eq, true, false, List, [], ◌∷◌, Some, None, ℤ, pos, codes}
use Rattle.desk_model.specs.Book.{Book}
use Rattle.desk_model.specs.Fraction.{Fraction}
use Rattle.desk_model.specs.Extremes.{Ends}
use Rattle.desk_model.specs.Desk.{Desk, topics_under}
use Rattle.desk_model.specs.Completion.{Completion}
use Rattle.desk_model.specs.Order.{Topic}
use Rattle.desk_model.specs.declared.types.Totals.{Totals}
use Rattle.desk_model.specs.declared.types.Mark.{Mark}
use Rattle.desk_model.specs.declared.types.Mark.TheVariants.{Unjudged, Relevant, Other}

abbrev pub topic_401 : Book
topic_401 = record {
  name = codes "401";
  docs = codes "d1" ∷ codes "d2" ∷ codes "d3" ∷ [];
  grades = Some (pos 1) ∷ Some (pos 0) ∷ None ∷ [];
}

-- topic 402, whose one document d9 is judged relevant
abbrev pub topic_402 : Book
topic_402 = record { name = codes "402"; docs = codes "d9" ∷ []; grades = Some (pos 1) ∷ [] }

abbrev pub two_runs : Desk
two_runs = record {
  topics = topic_401 ∷ [];
  runs = codes "A" ∷ codes "B" ∷ [];
  rankings = ((0 ∷ 2 ∷ []) ∷ []) ∷ ((1 ∷ 2 ∷ []) ∷ []) ∷ [];
}

-- the same with topic 402, which run A lacks, and on which run B retrieved d9
abbrev pub two_topics : Desk
two_topics = record {
  topics = topic_401 ∷ topic_402 ∷ [];
  runs = codes "A" ∷ codes "B" ∷ [];
  rankings = ((0 ∷ 2 ∷ []) ∷ [] ∷ []) ∷ ((1 ∷ 2 ∷ []) ∷ (0 ∷ []) ∷ []) ∷ [];
}

abbrev pub marks_401 : List Mark
marks_401 = Relevant ∷ Other ∷ Unjudged ∷ []

abbrev pub a : List ℕ
a = 0 ∷ 2 ∷ []

abbrev pub b : List ℕ
b = 1 ∷ 2 ∷ []

abbrev pub one_topic : List Topic
one_topic = topics_under two_runs (marks_401 ∷ [])

-- the two completions of topic 401: d3 is not relevant, or it is
abbrev pub d3_false : ℕ → Bool
d3_false doc = nat_eq doc 0

abbrev pub d3_true : ℕ → Bool
d3_true doc = not (nat_eq doc 1)

-- documents of which none and all are relevant
abbrev pub no_document : ℕ → Bool
no_document doc = false

abbrev pub every_document : ℕ → Bool
every_document doc = true

-- a fraction
abbrev pub parts : ℕ → ℕ → Fraction
parts n d = record { num = n; den = d }

-- a completion without tails
abbrev pub without_tails : (ℕ → Bool) → Completion
without_tails truth = record { truth = truth; tail = λ run. [] }

-- four sums
abbrev pub sums : ℤ → ℤ → ℤ → ℤ → Totals
sums ll lh ml mh = record { least_lo = ll; least_hi = lh; most_lo = ml; most_hi = mh }

-- four ends of a topic
abbrev pub ends : ℤ → ℤ → ℤ → ℤ → Ends
ends least_lo least_hi most_lo most_hi = record { least_lo = least_lo; least_hi = least_hi; most_lo = most_lo; most_hi = most_hi }
