-- The least difference under reciprocal rank, over the choices of at most one unjudged document.
use Rattle.std.proofs.Common.{◌≡◌, ℕ, Bool, true, false, cond, List, [], ◌∷◌, filter, map, length, Option, Some, None, ℤ, refl, sym, subst}
use Rattle.std.specs.List.{AllByRecursion}
use Rattle.std.proofs.Math.Nat.{mul-pos}
use Rattle.desk_model.specs.Mark.{is_unjudged, mark_at}
use Rattle.desk_model.specs.Extremes.{InEvery, InSome}
use Rattle.desk_model.specs.Fraction.{Fraction, IsAtMost, IsAtLeast}
use Rattle.desk_model.specs.Ranking.{IsRanking, is_in}
use Rattle.desk_model.specs.Score.{first_true, reciprocal}
use Rattle.desk_model.specs.declared.types.Mark.{Mark}
use Rattle.desk_model.specs.declared.types.MeasureName.TheVariants.{Reciprocal}
use Rattle.desk_model.proofs.MarkTests.{unjudged_is}
use Rattle.desk_model.proofs.Completions.{with_picked-Completes}
use Rattle.desk_model.proofs.PrecisionEnds.{is_in_members}
use Rattle.desk_model.proofs.Topics.{reciprocal-den}
use Rattle.measure_laws.specs.LeastDifference.{IsChoiceOf, IsSmallestOf, choice_den, choice_num, first_rank}
use Rattle.measure_laws.specs.ReciprocalCase.{is_choice, reciprocal_choice, reciprocal_scores, unjudged_of, with_choice}
use Rattle.measure_laws.proofs.FirstRanks.{choice_first}
use Rattle.measure_laws.proofs.LeastEnds.{at_least_no_greater, at_most_no_greater}
use Rattle.measure_laws.proofs.Picks.{first_least-all}
use Rattle.measure_laws.proofs.ReciprocalEnds.{reciprocal_least_case}

-- what a choice gives a ranking
choice_rank : (marks : List Mark) (docs others : List ℕ) (choice : Option ℕ) → IsChoiceOf marks others choice → first_true (with_choice marks choice) docs ≡ first_rank marks choice docs
choice_rank marks docs others None h = refl
choice_rank marks docs others (Some doc) h = choice_first marks doc (unjudged_is (mark_at marks doc) h.1) 1 docs

-- the candidates are choices
are_choices : (marks : List Mark) (docs ys : List ℕ) → AllByRecursion (λ d. is_in docs d ≡ true) ys → AllByRecursion (IsChoiceOf marks docs) (unjudged_of marks ys)
are_choices marks docs [] h = tt
are_choices marks docs (y ∷ ys) h = keep (is_unjudged (mark_at marks y)) (filter (λ doc. is_unjudged (mark_at marks doc)) ys) refl (are_choices marks docs ys h.1)
  where
    keep : (b : Bool) (rest : List ℕ) → is_unjudged (mark_at marks y) ≡ b → AllByRecursion (IsChoiceOf marks docs) (map Some rest) → AllByRecursion (IsChoiceOf marks docs) (map Some (cond b (y ∷ rest) rest))
    keep true rest e k = ((h.0, e), k)
    keep false rest e k = k

-- so is that of the least case
least_is_choice : (marks : List Mark) (a b : List ℕ) → IsChoiceOf marks b (reciprocal_choice marks a b)
least_is_choice marks a b = first_least-all (IsChoiceOf marks b) (reciprocal_scores marks a b) None (unjudged_of marks b) tt (are_choices marks b b (is_in_members b))

-- a fact of the scores in the completion of a choice, by its ranks
to_ranks : (fact : Fraction → Fraction → Type 0) (marks : List Mark) (a b : List ℕ) (choice : Option ℕ) → IsChoiceOf marks b choice →
    fact (reciprocal (first_true (with_choice marks choice) a)) (reciprocal (first_true (with_choice marks choice) b)) → fact (reciprocal (first_rank marks choice a)) (reciprocal (first_rank marks choice b))
to_ranks fact marks a b choice h k =
    subst (λ (x : Option ℕ). fact (reciprocal x) (reciprocal (first_rank marks choice b))) (choice_rank marks a b choice h)
    (subst (λ (y : Option ℕ). fact (reciprocal (first_true (with_choice marks choice) a)) (reciprocal y)) (choice_rank marks b b choice h) k)

from_ranks : (fact : Fraction → Fraction → Type 0) (marks : List Mark) (a b : List ℕ) (choice : Option ℕ) → IsChoiceOf marks b choice →
    fact (reciprocal (first_rank marks choice a)) (reciprocal (first_rank marks choice b)) → fact (reciprocal (first_true (with_choice marks choice) a)) (reciprocal (first_true (with_choice marks choice) b))
from_ranks fact marks a b choice h k =
    subst (λ (x : Option ℕ). fact (reciprocal x) (reciprocal (first_true (with_choice marks choice) b))) (sym (choice_rank marks a b choice h))
    (subst (λ (y : Option ℕ). fact (reciprocal (first_rank marks choice a)) (reciprocal y)) (sym (choice_rank marks b b choice h)) k)

low_in : (marks : List Mark) (a b : List ℕ) → IsRanking (length marks) a → IsRanking (length marks) b → (z : ℤ) (u : ℕ) →
    ((choice : Option ℕ) → IsChoiceOf marks b choice → IsAtMost z u (reciprocal (first_rank marks choice a)) (reciprocal (first_rank marks choice b))) → InEvery Reciprocal marks a b (IsAtMost z u)
low_in marks a b ra rb z u h truth ta tb c =
    let choice = reciprocal_choice marks a b in
    let case = reciprocal_least_case marks a b ra rb in
    at_most_no_greater z u (reciprocal (first_true (with_choice marks choice) a)) (reciprocal (first_true (with_choice marks choice) b)) (reciprocal (first_true truth a)) (reciprocal (first_true truth b)) (reciprocal-den _) (reciprocal-den _)
    (from_ranks (IsAtMost z u) marks a b choice (least_is_choice marks a b) (h choice (least_is_choice marks a b))) (case.least truth ta tb c)

-- the choices whose differences are at most some number
abbrev ChoiceAbove : List Mark → List ℕ → List ℕ → ℤ → ℕ → Type 0
ChoiceAbove marks a b z u = (choice : Option ℕ) × IsChoiceOf marks b choice × IsAtLeast z u (reciprocal (first_rank marks choice a)) (reciprocal (first_rank marks choice b))

high_out : (marks : List Mark) (a b : List ℕ) → IsRanking (length marks) a → IsRanking (length marks) b → (z : ℤ) (u : ℕ) → InSome Reciprocal marks a b (IsAtLeast z u) → ChoiceAbove marks a b z u
high_out marks a b ra rb z u (truth, ta, tb, c, h) =
    let choice = reciprocal_choice marks a b in
    let case = reciprocal_least_case marks a b ra rb in (
      choice,
      least_is_choice marks a b,
      to_ranks (IsAtLeast z u) marks a b choice (least_is_choice marks a b)
          (at_least_no_greater z u (reciprocal (first_true (with_choice marks choice) a)) (reciprocal (first_true (with_choice marks choice) b)) (reciprocal (first_true truth a)) (reciprocal (first_true truth b)) (reciprocal-den _) (reciprocal-den _) h (case.least truth ta tb c)),
    )

high_in : (marks : List Mark) (a b : List ℕ) (z : ℤ) (u : ℕ) → ChoiceAbove marks a b z u → InSome Reciprocal marks a b (IsAtLeast z u)
high_in marks a b z u (choice, known, h) = (with_choice marks choice, [], [], with_picked-Completes marks (is_choice choice), from_ranks (IsAtLeast z u) marks a b choice known h)

pub reciprocal_differences : (marks : List Mark) (a b : List ℕ) → IsRanking (length marks) a → IsRanking (length marks) b → IsSmallestOf Reciprocal marks a b (IsChoiceOf marks b) (choice_num marks a b) (choice_den marks a b)
reciprocal_differences marks a b ra rb = record {
  positive = λ choice known. mul-pos (reciprocal-den (first_rank marks choice a)) (reciprocal-den (first_rank marks choice b));
  below = λ z u. (λ h choice known. to_ranks (IsAtMost z u) marks a b choice known (h (with_choice marks choice) [] [] (with_picked-Completes marks (is_choice choice))), low_in marks a b ra rb z u);
  above = λ z u. (high_out marks a b ra rb z u, high_in marks a b z u);
}
