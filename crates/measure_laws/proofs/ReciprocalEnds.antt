-- Reciprocal rank: at most one document made relevant has the least difference.
use Rattle.std.proofs.Common.{◌≡◌, ℕ, ◌+◌, ◌*◌, ◌<◌, ◌≤◌, Bool, true, false, cond, nat_eq, List, [], ◌∷◌, map, filter, length, Option, Some, None, arith, refl, ap, ◌∙◌, sym, subst}
use Rattle.std.specs.List.{AllByRecursion, position_from}
use Rattle.std.proofs.Math.Nat.{mul-le-mul_left}
use Rattle.std.proofs.lemmas.List.Elements.{recursion_from_All}
use Rattle.std.proofs.lemmas.Bool.{eq-eqb}
use Rattle.desk_model.specs.Mark.{is_unjudged, mark_at}
use Rattle.desk_model.specs.Completion.{Allows, Completes, picked_value}
use Rattle.desk_model.specs.Ranking.{IsRanking}
use Rattle.desk_model.specs.Fraction.{Fraction}
use Rattle.desk_model.specs.Score.{first_true, reciprocal}
use Rattle.desk_model.proofs.Counts.{nat_eq-true}
use Rattle.desk_model.proofs.Completions.{with_picked-Completes, allowed_least}
use Rattle.desk_model.proofs.PrecisionEnds.{weaker, over-pos}
use Rattle.desk_model.proofs.Topics.{reciprocal-den}
use Rattle.measure_laws.specs.Differences.{ArePositive, IsNoGreater, Scores, IsLeastCase}
use Rattle.measure_laws.specs.ReciprocalCase.{is_choice, with_choice, reciprocal_scores, unjudged_of, reciprocal_choice}
use Rattle.measure_laws.proofs.Picks.{NoGreater, NoGreater-trans, first_least-least}
use Rattle.desk_model.specs.declared.types.Mark.{Mark}
use Rattle.desk_model.specs.declared.types.Mark.TheVariants.{Unjudged, Relevant, Other}
use Rattle.desk_model.specs.declared.types.MeasureName.TheVariants.{Reciprocal}

-- x is at most y
abbrev pub IsAtMostOther : Fraction → Fraction → Type 0
IsAtMostOther x y = x.num * y.den ≤ y.num * x.den

-- a smaller first score and a greater second one have the smaller difference
pub from_parts : (x y v w : Fraction) → IsAtMostOther x v → IsAtMostOther w y → IsNoGreater x y v w
from_parts x y v w h k = omega (arith, mul-le-mul_left (y.den * w.den) h, mul-le-mul_left (v.den * x.den) k)

-- a later rank has the smaller reciprocal
pub rank_order : (r q : ℕ) → 0 < r → r ≤ q → IsAtMostOther (reciprocal (Some q)) (reciprocal (Some r))
rank_order r q h k = rw (over-pos 1 q (omega arith), over-pos 1 r h) (omega arith)

pub same_order : (x : Fraction) → IsAtMostOther x x
same_order x = omega arith

pub zero_least : (x : Option ℕ) → IsAtMostOther (reciprocal None) (reciprocal x)
zero_least x = omega arith

later_step : (b : Bool) (r q : ℕ) (p : Option ℕ) → 0 < r → r ≤ q → IsAtMostOther (reciprocal p) (reciprocal (Some r)) → IsAtMostOther (reciprocal (cond b (Some q) p)) (reciprocal (Some r))
later_step true r q p h k l = rank_order r q h k
later_step false r q p h k l = l

later_less : (t : ℕ → Bool) (r q : ℕ) (xs : List ℕ) → 0 < r → r ≤ q → IsAtMostOther (reciprocal (position_from t q xs)) (reciprocal (Some r))
later_less t r q [] h k = zero_least (Some r)
later_less t r q (x ∷ xs) h k = later_step (t x) r q (position_from t (q + 1) xs) h k (later_less t r (q + 1) xs h (omega arith))

-- where more documents are true, the first true one comes no later
more_step : (s t : Bool) (r : ℕ) (p q : Option ℕ) → (s ≡ true → t ≡ true) → IsAtMostOther (reciprocal p) (reciprocal (Some r)) → IsAtMostOther (reciprocal p) (reciprocal q) →
    IsAtMostOther (reciprocal (cond s (Some r) p)) (reciprocal (cond t (Some r) q))
more_step true true r p q h k l = same_order (reciprocal (Some r))
more_step true false r p q h k l = let no : false ≡ true = h refl in absurd (cc)
more_step false true r p q h k l = k
more_step false false r p q h k l = l

pub more_true : (s t : ℕ → Bool) (r : ℕ) (xs : List ℕ) → 0 < r → AllByRecursion (λ d. s d ≡ true → t d ≡ true) xs → IsAtMostOther (reciprocal (position_from s r xs)) (reciprocal (position_from t r xs))
more_true s t r [] h k = zero_least None
more_true s t r (x ∷ xs) h k = more_step (s x) (t x) r (position_from s (r + 1) xs) (position_from t (r + 1) xs) k.0 (later_less s r (r + 1) xs h (omega arith)) (more_true s t (r + 1) xs (omega arith) k.1)

-- ---- the candidate that a completion has
-- at one document: what the chosen one shows there
-- a candidate that shows the same first true rank in a list, and no other true documents
pub record Matches (marks : List Mark) (truth : ℕ → Bool) (P : Option ℕ → Type 0) (r : ℕ) (ys : List ℕ) : Type 0 where
  pub choice : Option ℕ
  pub known : P choice
  pub fewer : (d : ℕ) → d < length marks → with_choice marks choice d ≡ true → truth d ≡ true
  pub same : position_from (with_choice marks choice) r ys ≡ position_from truth r ys

one_fewer : (marks : List Mark) (truth : ℕ → Bool) (y : ℕ) → Completes marks truth → truth y ≡ true → (d : ℕ) → d < length marks → with_choice marks (Some y) d ≡ true → truth d ≡ true
one_fewer marks truth y c yes' d h e = at (nat_eq y d) refl
  where
    at : (b : Bool) → nat_eq y d ≡ b → truth d ≡ true
    at true f = subst (λ (z : ℕ). truth z ≡ true) (nat_eq-true y d f) yes'
    at false f = allowed_least (mark_at marks d) (truth d) (c d h) (sym (ap (λ v. picked_value v (mark_at marks d)) f) ∙ e)

none_fewer : (marks : List Mark) (truth : ℕ → Bool) → Completes marks truth → (d : ℕ) → d < length marks → with_choice marks None d ≡ true → truth d ≡ true
none_fewer marks truth c d h e = allowed_least (mark_at marks d) (truth d) (c d h) e

not_true : (b c : Bool) → c ≡ false → (b ≡ true → c ≡ true) → b ≡ false
not_true true c h k = let yes' : c ≡ true = k refl in absurd (cc)
not_true false c h k = refl

-- the first document is true: it is the chosen one, or judged
first_matches : (marks : List Mark) (truth : ℕ → Bool) (P : Option ℕ → Type 0) (r y : ℕ) (ys : List ℕ) → Completes marks truth → P None → (m : Mark) → m ≡ mark_at marks y → (is_unjudged m ≡ true → P (Some y)) →
    y < length marks → truth y ≡ true → Matches marks truth P r (y ∷ ys)
first_matches marks truth P r y ys c none Unjudged e one h yes' = record {
  choice = Some y;
  known = one refl;
  fewer = one_fewer marks truth y c yes';
  same = ap (λ b. cond b (Some r) (position_from (with_choice marks (Some y)) (r + 1) ys)) (ap (λ v. picked_value v (mark_at marks y)) (eq-eqb y y refl) ∙ ap (picked_value true) (sym e))
      ∙ sym (ap (λ b. cond b (Some r) (position_from truth (r + 1) ys)) yes');
}
first_matches marks truth P r y ys c none Relevant e one h yes' = record {
  choice = None;
  known = none;
  fewer = none_fewer marks truth c;
  same = ap (λ b. cond b (Some r) (position_from (with_choice marks None) (r + 1) ys)) (ap (picked_value false) (sym e))
      ∙ sym (ap (λ b. cond b (Some r) (position_from truth (r + 1) ys)) yes');
}
first_matches marks truth P r y ys c none Other e one h yes' =
    let no : truth y ≡ false = subst (λ (m : Mark). Allows m (truth y)) (sym e) (c y h) in absurd (cc)

later_matches : (marks : List Mark) (truth : ℕ → Bool) (P : Option ℕ → Type 0) (r y : ℕ) (ys : List ℕ) → y < length marks → truth y ≡ false → Matches marks truth P (r + 1) ys → Matches marks truth P r (y ∷ ys)
later_matches marks truth P r y ys h off m = record {
  choice = m.choice;
  known = m.known;
  fewer = m.fewer;
  same = ap (λ b. cond b (Some r) (position_from (with_choice marks m.choice) (r + 1) ys)) (not_true (with_choice marks m.choice y) (truth y) off (m.fewer y h))
      ∙ m.same ∙ sym (ap (λ b. cond b (Some r) (position_from truth (r + 1) ys)) off);
}

-- each candidate is known
candidates_cons : (P : Option ℕ → Type 0) (b : Bool) (y : ℕ) (rest : List ℕ) → AllByRecursion P (map Some (cond b (y ∷ rest) rest)) → (b ≡ true → P (Some y)) × AllByRecursion P (map Some rest)
candidates_cons P true y rest h = ((λ _. h.0), h.1)
candidates_cons P false y rest h = ((λ e. absurd (cc)), h)

match_step : (marks : List Mark) (truth : ℕ → Bool) (P : Option ℕ → Type 0) (r y : ℕ) (ys : List ℕ) → Completes marks truth → P None → (is_unjudged (mark_at marks y) ≡ true → P (Some y)) → y < length marks →
    Matches marks truth P (r + 1) ys → (b : Bool) → truth y ≡ b → Matches marks truth P r (y ∷ ys)
match_step marks truth P r y ys c none one h rest true e = first_matches marks truth P r y ys c none (mark_at marks y) refl one h e
match_step marks truth P r y ys c none one h rest false e = later_matches marks truth P r y ys h e rest

find_match : (marks : List Mark) (truth : ℕ → Bool) (P : Option ℕ → Type 0) (r : ℕ) (ys : List ℕ) → Completes marks truth → P None → AllByRecursion (λ d. d < length marks) ys → AllByRecursion P (unjudged_of marks ys) → Matches marks truth P r ys
find_match marks truth P r [] c none within known = record { choice = None; known = none; fewer = none_fewer marks truth c; same = refl }
find_match marks truth P r (y ∷ ys) c none within known =
    let parts = candidates_cons P (is_unjudged (mark_at marks y)) y (filter (λ doc. is_unjudged (mark_at marks doc)) ys) known in
    match_step marks truth P r y ys c none parts.0 within.0 (find_match marks truth P (r + 1) ys c none within.1 parts.1) (truth y) refl

-- the chosen case has the least difference
pub reciprocal_least_case : (marks : List Mark) (a b : List ℕ) → IsRanking (length marks) a → IsRanking (length marks) b → IsLeastCase Reciprocal marks a b (with_choice marks (reciprocal_choice marks a b))
reciprocal_least_case marks a b ra rb =
    let n = length marks in
    let wa = recursion_from_All (λ d. d < n) a ra.within in
    let wb = recursion_from_All (λ d. d < n) b rb.within in
    let value = reciprocal_scores marks a b in
    let positive = λ (x : Option ℕ). let p : ArePositive (value x) = record { first = reciprocal-den (first_true (with_choice marks x) a); second = reciprocal-den (first_true (with_choice marks x) b) } in p in
    let best = first_least-least value positive None (unjudged_of marks b) in
    record {
      completes = with_picked-Completes marks (is_choice (reciprocal_choice marks a b));
      least = λ truth _ _ c.
          let m = find_match marks truth (λ x. NoGreater (value (reciprocal_choice marks a b)) (value x)) 1 b c best.0 wb best.1 in
          let target : Scores = record { first = reciprocal (first_true truth a); second = reciprocal (first_true truth b) } in
          let no_greater : NoGreater (value m.choice) target =
          from_parts (value m.choice).first (value m.choice).second target.first target.second
          (more_true (with_choice marks m.choice) truth 1 a (omega arith) (weaker (λ d. d < n) (λ d. with_choice marks m.choice d ≡ true → truth d ≡ true) (λ d h. m.fewer d h) a wa))
          (subst (λ (x : Option ℕ). IsAtMostOther (reciprocal (first_true truth b)) (reciprocal x)) (sym m.same) (same_order (reciprocal (first_true truth b)))) in
          NoGreater-trans (value (reciprocal_choice marks a b)) (value m.choice) target (positive m.choice) m.known no_greater;
    }
