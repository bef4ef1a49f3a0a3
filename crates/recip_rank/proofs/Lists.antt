-- The list of the chosen document, if there is one.
use Rattle.std.proofs.Common.{◌≡◌, ℕ, ◌<◌, ◌≤◌, Bool, true, false, cond, nat_eq, ◌&&◌, ◌||◌, List, [], ◌∷◌, ◌++◌, length, Option, Some, None, refl, ap, sym, subst, ◌∙◌, arith}
use Rattle.std.specs.Prelude.{map, filter}
use Rattle.std.specs.List.{AllByRecursion}
use Rattle.std.specs.Option.{option_to_list}
use Rattle.std.proofs.Math.Bool.{and-false}
use Rattle.std.proofs.lemmas.List.Elements.{recursion_from_All}
use Rattle.desk_model.specs.Completion.{picked_value}
use Rattle.desk_model.specs.Mark.{is_unjudged, mark_at}
use Rattle.desk_model.specs.Ranking.{IsRanking, is_in}
use Rattle.desk_model.specs.declared.types.Mark.{Mark}
use Rattle.desk_model.proofs.Counts.{nat_eq-true}
use Rattle.measure_laws.specs.Differences.{IsFirstLeast}
use Rattle.measure_laws.specs.ReciprocalCase.{is_choice, with_choice, unjudged_of, reciprocal_choice, reciprocal_scores}
use Rattle.measure_laws.proofs.Firsts.{reciprocal_first}
use Rattle.measure_core.specs.Lists.{added_documents}
use Rattle.measure_core.proofs.Ascending.{passing_are}
use Rattle.measure_core.proofs.Pushing.{open_picked}

-- no document, or an unjudged one of the topic
abbrev pub IsOpenChoice : List Mark → Option ℕ → Type 0
IsOpenChoice marks None = Unit {0}
IsOpenChoice marks (Some doc) = (doc < length marks) × (is_unjudged (mark_at marks doc) ≡ true)

one_kept : (marks : List Mark) (doc : ℕ) (kept : List ℕ) (b : Bool) → is_unjudged (mark_at marks doc) ≡ b → doc < length marks → AllByRecursion (IsOpenChoice marks) (map Some kept) → AllByRecursion (IsOpenChoice marks) (map Some (cond b (doc ∷ kept) kept))
one_kept marks doc kept true e lt h = ((lt, e), h)
one_kept marks doc kept false e lt h = h

open_ones : (marks : List Mark) (docs : List ℕ) → AllByRecursion (λ doc. doc < length marks) docs → AllByRecursion (IsOpenChoice marks) (unjudged_of marks docs)
open_ones marks [] h = tt
open_ones marks (doc ∷ docs) h = one_kept marks doc (filter (λ d. is_unjudged (mark_at marks d)) docs) (is_unjudged (mark_at marks doc)) refl h.0 (open_ones marks docs h.1)

one_of : {X : Type 0} (P : X → Type 0) (before others : List X) (x : X) → AllByRecursion P (before ++ x ∷ others) → P x
one_of P [] others x h = h.0
one_of P (y ∷ before) others x h = one_of P before others x h.1

pub choice_open : (marks : List Mark) (a b : List ℕ) → IsRanking (length marks) b → IsOpenChoice marks (reciprocal_choice marks a b)
choice_open marks a b rb =
    let best = reciprocal_first marks a b in
    let all : AllByRecursion (IsOpenChoice marks) (None ∷ unjudged_of marks b) = (tt, open_ones marks b (recursion_from_All (λ doc. doc < length marks) b rb.within)) in
    one_of (IsOpenChoice marks) best.before best.others (reciprocal_choice marks a b) (subst (AllByRecursion (IsOpenChoice marks)) best.stands all)

pub choice_listed : (marks : List Mark) (choice : Option ℕ) → IsOpenChoice marks choice → added_documents marks (with_choice marks choice) ≡ option_to_list choice
choice_listed marks None h =
    passing_are (λ doc. is_unjudged (mark_at marks doc) && with_choice marks None doc) (length marks) 0 [] tt tt tt (λ x from to. sym (open_picked false (mark_at marks x) ∙ and-false (is_unjudged (mark_at marks x))))
choice_listed marks (Some doc) h =
    passing_are (λ d. is_unjudged (mark_at marks d) && with_choice marks (Some doc) d) (length marks) 0 (doc ∷ []) (tt, tt) (omega arith, tt) (omega (arith, h.0), tt) (λ x from to. at x (nat_eq doc x) refl)
  where
    at : (x : ℕ) (b : Bool) → nat_eq doc x ≡ b → (nat_eq doc x || false) ≡ (is_unjudged (mark_at marks x) && picked_value (nat_eq doc x) (mark_at marks x))
    at x true e =
        let unjudged : is_unjudged (mark_at marks x) ≡ true = ap (λ d. is_unjudged (mark_at marks d)) (sym (nat_eq-true doc x e)) ∙ h.1 in
        ap (λ b. b || false) e ∙ sym (open_picked (nat_eq doc x) (mark_at marks x) ∙ ap (λ u. u && nat_eq doc x) unjudged ∙ e)
    at x false e = ap (λ b. b || false) e ∙ sym (open_picked (nat_eq doc x) (mark_at marks x) ∙ ap (λ b. is_unjudged (mark_at marks x) && b) e ∙ and-false (is_unjudged (mark_at marks x)))
