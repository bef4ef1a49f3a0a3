-- The first relevant rank with one document chosen.
use Rattle.std.proofs.Common.{◌≡◌, ℕ, ◌+◌, min, Bool, true, false, cond, nat_eq, List, [], ◌∷◌, length, Option, Some, None, arith, refl, ap, ◌∙◌, sym, subst}
use Rattle.std.specs.List.{position_from}
use Rattle.desk_model.specs.Mark.{mark_at}
use Rattle.desk_model.specs.Completion.{picked_value}
use Rattle.desk_model.specs.declared.types.Mark.{Mark}
use Rattle.desk_model.specs.declared.types.Mark.TheVariants.{Unjudged, Relevant, Other}
use Rattle.desk_model.proofs.Counts.{nat_eq-sym, nat_eq-true}
use Rattle.measure_laws.specs.Ranks.{earlier}
use Rattle.measure_laws.specs.ReciprocalCase.{with_choice}
use Rattle.measure_laws.proofs.Ranks.{Between, position_between}

earlier_here : (r e : ℕ) (p : Option ℕ) → Between (r + 1) e p → earlier (Some r) p ≡ Some r
earlier_here r e None h = refl
earlier_here r e (Some q) h = let less : min r q ≡ r = omega (arith, h) in ap (λ n. Some n) less

earlier_there : (r e : ℕ) (p : Option ℕ) → Between (r + 1) e p → earlier p (Some r) ≡ Some r
earlier_there r e None h = refl
earlier_there r e (Some q) h = let less : min q r ≡ r = omega (arith, h) in ap (λ n. Some n) less

choice_step : (m : Mark) (here : Bool) (r e : ℕ) (p q : Option ℕ) → (here ≡ true → m ≡ Unjudged) → Between (r + 1) e p → Between (r + 1) e q →
    cond (picked_value here m) (Some r) (earlier p q) ≡ earlier (cond (picked_value false m) (Some r) p) (cond here (Some r) q)
choice_step Relevant true r e p q h bp bq = let no : Relevant ≡ Unjudged = h refl in absurd (cc)
choice_step Relevant false r e p q h bp bq = sym (earlier_here r e q bq)
choice_step Other true r e p q h bp bq = let no : Other ≡ Unjudged = h refl in absurd (cc)
choice_step Other false r e p q h bp bq = refl
choice_step Unjudged true r e p q h bp bq = sym (earlier_there r e p bp)
choice_step Unjudged false r e p q h bp bq = refl

-- it is the earlier of the first one judged relevant and the rank of the chosen document
pub choice_first : (marks : List Mark) (doc : ℕ) → mark_at marks doc ≡ Unjudged → (r : ℕ) (xs : List ℕ) →
    position_from (with_choice marks (Some doc)) r xs ≡ earlier (position_from (with_choice marks None) r xs) (position_from (λ each. nat_eq each doc) r xs)
choice_first marks doc open' r [] = refl
choice_first marks doc open' r (x ∷ xs) =
    let later = position_from (with_choice marks None) (r + 1) xs in
    let place = position_from (λ each. nat_eq each doc) (r + 1) xs in
    let known : nat_eq x doc ≡ true → mark_at marks x ≡ Unjudged = λ e. subst (λ (y : ℕ). mark_at marks y ≡ Unjudged) (sym (nat_eq-true x doc e)) open' in
    ap (λ b. cond (picked_value b (mark_at marks x)) (Some r) (position_from (with_choice marks (Some doc)) (r + 1) xs)) (nat_eq-sym doc x)
    ∙ ap (λ o. cond (picked_value (nat_eq x doc) (mark_at marks x)) (Some r) o) (choice_first marks doc open' (r + 1) xs)
    ∙ choice_step (mark_at marks x) (nat_eq x doc) r (r + 1 + length xs) later place known (position_between (with_choice marks None) (r + 1) (r + 1 + length xs) xs refl) (position_between (λ each. nat_eq each doc) (r + 1) (r + 1 + length xs) xs refl)
