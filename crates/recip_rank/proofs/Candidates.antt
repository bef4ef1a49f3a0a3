-- What one chosen document does to the first true rank of a run, and why the walk may stop at the first relevant document.
use Rattle.std.proofs.Common.{◌≡◌, ℕ, zero, suc, ◌+◌, ◌<◌, ◌≤◌, Bool, true, false, cond, nat_eq, ◌||◌, List, [], ◌∷◌, ◌++◌, map, filter, length, take, drop, get_or, Option, Some, None, arith, refl, ap, ◌∙◌, sym, subst}
use Rattle.std.specs.Prelude.{if◌then◌else◌}
use Rattle.std.specs.List.{IsDistinct, AllByRecursion, position_from}
use Rattle.desk_model.specs.Mark.{is_unjudged, mark_at}
use Rattle.desk_model.specs.Completion.{picked_value}
use Rattle.desk_model.specs.Ranking.{IsRanking, rank}
use Rattle.measure_laws.specs.Ranks.{IsRankWithin, earlier}
use Rattle.measure_laws.specs.Differences.{Scores, is_smaller, first_least, ArePositive}
use Rattle.measure_laws.specs.ReciprocalCase.{with_choice, reciprocal_scores, unjudged_of, reciprocal_choice}
use Rattle.measure_laws.proofs.Picks.{NoGreater, NoGreater-trans, first_least-append, first_least-least}
use Rattle.measure_laws.proofs.RecallEnds.{every}
use Rattle.measure_laws.proofs.FirstRanks.{choice_first}
use Rattle.measure_laws.proofs.ReciprocalEnds.{IsAtMostOther, from_parts, more_true, same_order}
use Rattle.std.proofs.lemmas.List.{append_assoc, take-append-drop, take_more}
use Rattle.std.proofs.lemmas.Grind.{common_steps}
use Rattle.std.proofs.lemmas.Bool.{eq-eqb, le-ltb}
use Rattle.desk_model.specs.Score.{first_true, reciprocal}
use Rattle.desk_model.specs.declared.types.Mark.{Mark}
use Rattle.desk_model.specs.declared.types.Mark.TheVariants.{Unjudged, Relevant, Other}
use Rattle.desk_model.proofs.Counts.{nat_eq-sym}
use Rattle.desk_model.proofs.PrecisionEnds.{weaker}
use Rattle.desk_model.proofs.Topics.{reciprocal-den}
use Rattle.recip_rank.specs.declared.firsts.Candidate.{Candidate}
use Rattle.recip_rank.specs.Firsts.{scores_at, AreFirsts}

-- what holds of each element holds of that at an index
at_index : (P : ℕ → Type 0) (xs : List ℕ) (p d : ℕ) → AllByRecursion P xs → p < length xs → d ≡ get_or xs p 0 → P d
at_index P [] p d h lt e = absurd (omega arith)
at_index P (x ∷ xs) zero d h lt e = subst P (sym e) h.0
at_index P (x ∷ xs) (suc p) d h lt e = at_index P xs p d h.1 (omega arith) e

not_chosen : (marks : List Mark) (d x : ℕ) (b : Bool) → nat_eq d x ≡ false → with_choice marks None x ≡ b → with_choice marks (Some d) x ≡ b
not_chosen marks d x b apart e = ap (λ v. picked_value v (mark_at marks x)) apart ∙ e

-- in a list whose documents before it are not judged relevant it is the place of the chosen document
pub chosen_first : (marks : List Mark) (d : ℕ) → mark_at marks d ≡ Unjudged → (r p : ℕ) (xs : List ℕ) → IsDistinct nat_eq xs → AllByRecursion (λ x. with_choice marks None x ≡ false) (take p xs) →
    p < length xs → d ≡ get_or xs p 0 → position_from (with_choice marks (Some d)) r xs ≡ Some (r + p)
unfolding IsDistinct
chosen_first marks d open' r p [] dx unseen lt e = absurd (omega arith)
chosen_first marks d open' r zero (x ∷ xs) dx unseen lt e =
    let here : with_choice marks (Some d) x ≡ true = subst (λ (y : ℕ). with_choice marks (Some d) y ≡ true) e (ap (λ b. picked_value b (mark_at marks d)) (eq-eqb d d refl) ∙ ap (picked_value true) open') in
    let none : r ≡ r + 0 = omega arith in
    ap (λ b. cond b (Some r) (position_from (with_choice marks (Some d)) (r + 1) xs)) here ∙ ap (λ n. Some n) none
chosen_first marks d open' r (suc p) (x ∷ xs) dx unseen lt e =
    let apart : nat_eq x d ≡ false = at_index (λ y. nat_eq x y ≡ false) xs p d dx.0 (omega arith) e in
    let off : with_choice marks (Some d) x ≡ false = not_chosen marks d x false (nat_eq-sym d x ∙ apart) unseen.0 in
    let more : r + 1 + p ≡ r + suc p = omega arith in
    ap (λ b. cond b (Some r) (position_from (with_choice marks (Some d)) (r + 1) xs)) off ∙ chosen_first marks d open' (r + 1) p xs dx.1 unseen.1 (omega arith) e ∙ ap (λ n. Some n) more

first_least-stays : {X : Type 0} (scores : X → Scores) (best : X) (ys : List X) → AllByRecursion (λ c. is_smaller (scores c) (scores best) ≡ false) ys → first_least scores best ys ≡ best
first_least-stays scores best [] h = refl
first_least-stays scores best (y ∷ ys) h = ap (λ b. first_least scores (if b then y else best) ys) h.0 ∙ first_least-stays scores best ys h.1

unjudged_step : (b : Bool) (x : ℕ) (us vs ws : List ℕ) → map Some ws ≡ map Some us ++ map Some vs → map Some (cond b (x ∷ ws) ws) ≡ map Some (cond b (x ∷ us) us) ++ map Some vs
unjudged_step true x us vs ws h = ap (λ (t : List (Option ℕ)). Some x ∷ t) h
unjudged_step false x us vs ws h = h

pub unjudged-append : (marks : List Mark) (xs ys : List ℕ) → unjudged_of marks (xs ++ ys) ≡ unjudged_of marks xs ++ unjudged_of marks ys
unjudged-append marks [] ys = refl
unjudged-append marks (x ∷ xs) ys =
    let open' = λ (doc : ℕ). is_unjudged (mark_at marks doc) in
    unjudged_step (open' x) x (filter open' xs) (filter open' ys) (filter open' (xs ++ ys)) (unjudged-append marks xs ys)

-- one more document of the second ranking, by its mark
pub choice_open : (marks : List Mark) (scores : Option ℕ → Scores) (xs : List ℕ) (d : ℕ) → mark_at marks d ≡ Unjudged → (best : Option ℕ) → best ≡ first_least scores None (unjudged_of marks xs) →
    first_least scores None (unjudged_of marks (xs ++ d ∷ [])) ≡ (if is_smaller (scores (Some d)) (scores best) then Some d else best)
choice_open marks scores xs d open' best e =
    ap (first_least scores None) (unjudged-append marks xs (d ∷ [])) ∙ first_least-append scores None (unjudged_of marks xs) (unjudged_of marks (d ∷ []))
    ∙ ap (λ m. first_least scores (first_least scores None (unjudged_of marks xs)) (map Some (cond (is_unjudged m) (d ∷ []) []))) open'
    ∙ ap (λ (o : Option ℕ). if is_smaller (scores (Some d)) (scores o) then Some d else o) (sym e)

pub choice_shut : (marks : List Mark) (scores : Option ℕ → Scores) (xs : List ℕ) (d : ℕ) → mark_at marks d ≡ Other → first_least scores None (unjudged_of marks (xs ++ d ∷ [])) ≡ first_least scores None (unjudged_of marks xs)
choice_shut marks scores xs d shut =
    ap (first_least scores None) (unjudged-append marks xs (d ∷ [])) ∙ first_least-append scores None (unjudged_of marks xs) (unjudged_of marks (d ∷ []))
    ∙ ap (λ m. first_least scores (first_least scores None (unjudged_of marks xs)) (map Some (cond (is_unjudged m) (d ∷ []) []))) shut

pub all_more : (P : ℕ → Type 0) (xs : List ℕ) (d : ℕ) → AllByRecursion P xs → P d → AllByRecursion P (xs ++ d ∷ [])
all_more P [] d h p = (p, tt)
all_more P (x ∷ xs) d h p = (h.0, all_more P xs d h.1 p)

-- ---- after the first document that is judged relevant no candidate is better
all_right : (P : ℕ → Type 0) (xs ys : List ℕ) → AllByRecursion P (xs ++ ys) → AllByRecursion P ys
all_right P [] ys h = h
all_right P (x ∷ xs) ys h = all_right P xs ys h.1

all_left : (P : ℕ → Type 0) (xs ys : List ℕ) → AllByRecursion P (xs ++ ys) → AllByRecursion P xs
all_left P [] ys h = tt
all_left P (x ∷ xs) ys h = (h.0, all_left P xs ys h.1)

all_both : (P Q R : ℕ → Type 0) → ((d : ℕ) → P d → Q d → R d) → (xs : List ℕ) → AllByRecursion P xs → AllByRecursion Q xs → AllByRecursion R xs
all_both P Q R join [] h k = tt
all_both P Q R join (x ∷ xs) h k = (join x h.0 k.0, all_both P Q R join xs h.1 k.1)

distinct_parts : (xs ys : List ℕ) → IsDistinct nat_eq (xs ++ ys) → AllByRecursion (λ e. AllByRecursion (λ x. nat_eq e x ≡ false) xs) ys
unfolding IsDistinct
distinct_parts [] ys h = every (λ e. Unit {0}) (λ e. tt) ys
distinct_parts (x ∷ xs) ys h =
    all_both (λ e. nat_eq x e ≡ false) (λ e. AllByRecursion (λ z. nat_eq e z ≡ false) xs) (λ e. AllByRecursion (λ z. nat_eq e z ≡ false) (x ∷ xs)) (λ e p q. (nat_eq-sym e x ∙ p, q)) ys
    (all_right (λ y. nat_eq x y ≡ false) xs ys h.0) (distinct_parts xs ys h.1)

same_until : (t s : ℕ → Bool) (r y : ℕ) (xs ys : List ℕ) → AllByRecursion (λ x. t x ≡ s x) xs → t y ≡ true → s y ≡ true → position_from t r (xs ++ y ∷ ys) ≡ position_from s r (xs ++ y ∷ ys)
same_until t s r y [] ys h p q = ap (λ b. cond b (Some r) (position_from t (r + 1) ys)) p ∙ sym (ap (λ b. cond b (Some r) (position_from s (r + 1) ys)) q)
same_until t s r y (x ∷ xs) ys h p q = ap (λ b. cond b (Some r) (position_from t (r + 1) (xs ++ y ∷ ys))) h.0 ∙ ap (λ o. cond (s x) (Some r) o) (same_until t s (r + 1) y xs ys h.1 p q)

stays_true : (m : Mark) (b : Bool) → picked_value false m ≡ true → picked_value b m ≡ true
stays_true Relevant b h = refl
stays_true Unjudged b h = absurd (cc)
stays_true Other b h = absurd (cc)

not_smaller : (s t : Scores) → NoGreater t s → is_smaller s t ≡ false
not_smaller s t h = le-ltb _ _ (omega (arith, h))

candidates_all : (marks : List Mark) (P : Option ℕ → Type 0) (ys : List ℕ) → AllByRecursion (λ e. P (Some e)) ys → AllByRecursion P (unjudged_of marks ys)
candidates_all marks P [] h = tt
candidates_all marks P (y ∷ ys) h = keep (is_unjudged (mark_at marks y)) (filter (λ doc. is_unjudged (mark_at marks doc)) ys) h.0 (candidates_all marks P ys h.1)
  where
    keep : (b : Bool) (rest : List ℕ) → P (Some y) → AllByRecursion P (map Some rest) → AllByRecursion P (map Some (cond b (y ∷ rest) rest))
    keep true rest p k = (p, k)
    keep false rest p k = k

pub choice_stops : (marks : List Mark) (a xs ys : List ℕ) (y : ℕ) → let b = xs ++ y ∷ ys in IsDistinct nat_eq b → with_choice marks None y ≡ true →
    first_least (reciprocal_scores marks a b) None (unjudged_of marks xs) ≡ reciprocal_choice marks a b
choice_stops marks a xs ys y distinct judged =
    let b = xs ++ y ∷ ys in
    let value = reciprocal_scores marks a b in
    let positive = λ (x : Option ℕ). let p : ArePositive (value x) = record { first = reciprocal-den (first_true (with_choice marks x) a); second = reciprocal-den (first_true (with_choice marks x) b) } in p in
    let best = first_least value None (unjudged_of marks xs) in
    let below : NoGreater (value best) (value None) = (first_least-least value positive None (unjudged_of marks xs)).0 in
    let worse : (e : ℕ) → AllByRecursion (λ x. nat_eq e x ≡ false) xs → is_smaller (value (Some e)) (value best) ≡ false = λ e apart.
    let before : IsAtMostOther (value None).first (value (Some e)).first = more_true (with_choice marks None) (with_choice marks (Some e)) 1 a (omega arith) (every (λ d. with_choice marks None d ≡ true → with_choice marks (Some e) d ≡ true) (λ d. stays_true (mark_at marks d) (nat_eq e d)) a) in
    let even : first_true (with_choice marks (Some e)) b ≡ first_true (with_choice marks None) b =
    same_until (with_choice marks (Some e)) (with_choice marks None) 1 y xs ys (weaker (λ x. nat_eq e x ≡ false) (λ x. with_choice marks (Some e) x ≡ with_choice marks None x) (λ x f. ap (λ v. picked_value v (mark_at marks x)) f) xs apart) (stays_true (mark_at marks y) (nat_eq e y) judged) judged in
    let after : IsAtMostOther (value (Some e)).second (value None).second = subst (λ (o : Option ℕ). IsAtMostOther (reciprocal o) (value None).second) (sym even) (same_order (value None).second) in
    not_smaller (value (Some e)) (value best)
    (NoGreater-trans (value best) (value None) (value (Some e)) (positive None) below (from_parts (value None).first (value None).second (value (Some e)).first (value (Some e)).second before after)) in
    let rest = weaker (λ e. AllByRecursion (λ x. nat_eq e x ≡ false) xs) (λ e. is_smaller (value (Some e)) (value best) ≡ false) worse (y ∷ ys) (distinct_parts xs (y ∷ ys) distinct) in
    sym (ap (first_least value None) (unjudged-append marks xs (y ∷ ys)) ∙ first_least-append value None (unjudged_of marks xs) (unjudged_of marks (y ∷ ys))
    ∙ first_least-stays value best (unjudged_of marks (y ∷ ys)) (candidates_all marks (λ c. is_smaller (value c) (value best) ≡ false) (y ∷ ys) rest))

-- nor after the first one that leaves the first run's rank as it is
all_right_of : {X : Type 0} (P : X → Type 0) (xs ys : List X) → AllByRecursion P (xs ++ ys) → AllByRecursion P ys
all_right_of P [] ys h = h
all_right_of P (x ∷ xs) ys h = all_right_of P xs ys h.1

either_true : (marks : List Mark) (d e x : ℕ) → nat_eq e x ≡ false → with_choice marks None x ≡ false → (with_choice marks (Some d) x || with_choice marks (Some e) x) ≡ with_choice marks (Some d) x
either_true marks d e x apart unseen = ap (λ b. with_choice marks (Some d) x || b) (ap (λ v. picked_value v (mark_at marks x)) apart ∙ unseen) ∙ none (with_choice marks (Some d) x)
  where
    none : (b : Bool) → (b || false) ≡ b
    none true = refl
    none false = refl

right_true : (b c : Bool) → c ≡ true → (b || c) ≡ true
right_true true c h = refl
right_true false c h = h

pub choice_settled : (marks : List Mark) (a xs ys : List ℕ) (d : ℕ) → let b = (xs ++ d ∷ []) ++ ys in IsDistinct nat_eq b → mark_at marks d ≡ Unjudged → AllByRecursion (λ x. with_choice marks None x ≡ false) xs →
    first_true (with_choice marks (Some d)) a ≡ first_true (with_choice marks None) a → first_least (reciprocal_scores marks a b) None (unjudged_of marks (xs ++ d ∷ [])) ≡ reciprocal_choice marks a b
choice_settled marks a xs ys d distinct open' unseen same =
    let b = (xs ++ d ∷ []) ++ ys in
    let whole : b ≡ xs ++ d ∷ ys = append_assoc xs (d ∷ []) ys in
    let value = reciprocal_scores marks a b in
    let positive = λ (x : Option ℕ). let p : ArePositive (value x) = record { first = reciprocal-den (first_true (with_choice marks x) a); second = reciprocal-den (first_true (with_choice marks x) b) } in p in
    let cs = unjudged_of marks (xs ++ d ∷ []) in
    let best = first_least value None cs in
    let listed : cs ≡ unjudged_of marks xs ++ Some d ∷ [] = unjudged-append marks xs (d ∷ []) ∙ ap (λ m. unjudged_of marks xs ++ map Some (cond (is_unjudged m) (d ∷ []) [])) open' in
    let below : NoGreater (value best) (value (Some d)) = (all_right_of (λ c. NoGreater (value best) (value c)) (unjudged_of marks xs) (Some d ∷ []) (subst (AllByRecursion (λ c. NoGreater (value best) (value c))) listed (first_least-least value positive None cs).1)).0 in
    let here : with_choice marks (Some d) d ≡ true = ap (λ b. picked_value b (mark_at marks d)) (eq-eqb d d refl) ∙ ap (picked_value true) open' in
    let worse : (e : ℕ) → AllByRecursion (λ x. nat_eq e x ≡ false) (xs ++ d ∷ []) → is_smaller (value (Some e)) (value best) ≡ false = λ e apart.
    let before : IsAtMostOther (value (Some d)).first (value (Some e)).first = subst (λ (o : Option ℕ). IsAtMostOther (reciprocal o) (value (Some e)).first) (sym same)
    (more_true (with_choice marks None) (with_choice marks (Some e)) 1 a (omega arith) (every (λ x. with_choice marks None x ≡ true → with_choice marks (Some e) x ≡ true) (λ x. stays_true (mark_at marks x) (nat_eq e x)) a)) in
    let one : ℕ → Bool = λ x. with_choice marks (Some d) x || with_choice marks (Some e) x in
    let until : AllByRecursion (λ x. one x ≡ with_choice marks (Some d) x) xs = all_both (λ x. nat_eq e x ≡ false) (λ x. with_choice marks None x ≡ false) (λ x. one x ≡ with_choice marks (Some d) x) (λ x f g. either_true marks d e x f g) xs (all_left (λ x. nat_eq e x ≡ false) xs (d ∷ []) apart) unseen in
    let even : first_true one b ≡ first_true (with_choice marks (Some d)) b =
    ap (first_true one) whole ∙ same_until one (with_choice marks (Some d)) 1 d xs ys until (ap (λ t. t || with_choice marks (Some e) d) here) here ∙ ap (first_true (with_choice marks (Some d))) (sym whole) in
    let after : IsAtMostOther (value (Some e)).second (value (Some d)).second = subst (λ (o : Option ℕ). IsAtMostOther (value (Some e)).second (reciprocal o)) even
    (more_true (with_choice marks (Some e)) one 1 b (omega arith) (every (λ x. with_choice marks (Some e) x ≡ true → one x ≡ true) (λ x. right_true (with_choice marks (Some d) x) (with_choice marks (Some e) x)) b)) in
    not_smaller (value (Some e)) (value best)
    (NoGreater-trans (value best) (value (Some d)) (value (Some e)) (positive (Some d)) below (from_parts (value (Some d)).first (value (Some d)).second (value (Some e)).first (value (Some e)).second before after)) in
    let rest = weaker (λ e. AllByRecursion (λ x. nat_eq e x ≡ false) (xs ++ d ∷ [])) (λ e. is_smaller (value (Some e)) (value best) ≡ false) worse ys (distinct_parts (xs ++ d ∷ []) ys distinct) in
    sym (ap (first_least value None) (unjudged-append marks (xs ++ d ∷ []) ys) ∙ first_least-append value None cs (unjudged_of marks ys)
    ∙ first_least-stays value best (unjudged_of marks ys) (candidates_all marks (λ c. is_smaller (value c) (value best) ≡ false) ys rest))

-- ---- the walk over the second ranking
-- the best candidate after p documents, none of which is judged relevant
pub record Walked (marks : List Mark) (a b : List ℕ) (p : ℕ) (best : Candidate) : Type 0 where
  pub choice : best.choice ≡ first_least (reciprocal_scores marks a b) None (unjudged_of marks (take p b))
  pub firsts : AreFirsts marks a b best
  pub unseen : AllByRecursion (λ x. with_choice marks None x ≡ false) (take p b)

pub walk_starts : (marks : List Mark) (a b : List ℕ) (best : Candidate) → best.choice ≡ None → AreFirsts marks a b best → Walked marks a b 0 best
walk_starts marks a b best e firsts = record { choice = e; firsts = firsts; unseen = tt }

not_yet : (marks : List Mark) (d : ℕ) (m : Mark) → mark_at marks d ≡ m → picked_value false m ≡ false → with_choice marks None d ≡ false
not_yet marks d m e off = ap (picked_value false) e ∙ off

pub walk_shut : (marks : List Mark) (a b : List ℕ) (p d : ℕ) (best : Candidate) → p < length b → d ≡ get_or b p 0 → mark_at marks d ≡ Other → Walked marks a b p best → Walked marks a b (p + 1) best
walk_shut marks a b p d best lt e shut w =
    let scores = reciprocal_scores marks a b in
    let longer : take (p + 1) b ≡ take p b ++ d ∷ [] = take_more b p 0 lt ∙ ap (λ x. take p b ++ x ∷ []) (sym e) in
    record {
      choice = w.choice ∙ sym (ap (λ xs. first_least scores None (unjudged_of marks xs)) longer ∙ choice_shut marks scores (take p b) d shut);
      firsts = w.firsts;
      unseen = subst (AllByRecursion (λ x. with_choice marks None x ≡ false)) (sym longer) (all_more (λ x. with_choice marks None x ≡ false) (take p b) d w.unseen (not_yet marks d Other shut refl));
    }

earlier-within : (n : ℕ) (x y : Option ℕ) → IsRankWithin n x → IsRankWithin n y → IsRankWithin n (earlier x y)
earlier-within n None y h k = k
earlier-within n (Some x) None h k = h
earlier-within n (Some x) (Some y) h k = (omega (arith, h, k), omega (arith, h, k))

-- the candidate at an unjudged document
pub open_firsts : (marks : List Mark) (a b : List ℕ) (p d : ℕ) (judged place first : Option ℕ) → IsRanking (length marks) a → IsRanking (length marks) b → p < length b → d ≡ get_or b p 0 → mark_at marks d ≡ Unjudged →
    AllByRecursion (λ x. with_choice marks None x ≡ false) (take p b) → judged ≡ first_true (with_choice marks None) a → place ≡ rank a d → first ≡ earlier judged place → IsRankWithin 10000 judged → IsRankWithin 10000 place →
    AreFirsts marks a b (record { choice = Some d; firsts = record { first = first; second = Some (p + 1) } })
open_firsts marks a b p d judged place first ra rb lt e open' unseen ej ep ef wj wp =
    let swap : 1 + p ≡ p + 1 = omega arith in
    record {
      first = ef ∙ ap (λ o. earlier o place) ej ∙ ap (earlier (first_true (with_choice marks None) a)) ep ∙ sym (choice_first marks d open' 1 a);
      second = sym (chosen_first marks d open' 1 p b rb.distinct unseen lt e ∙ ap (λ n. Some n) swap);
      first_within = subst (IsRankWithin 10000) (sym ef) (earlier-within 10000 judged place wj wp);
      second_within = (omega arith, omega (arith, rb.short));
    }

same_scores : (marks : List Mark) (a b : List ℕ) (c : Candidate) → AreFirsts marks a b c → scores_at c.firsts.first c.firsts.second ≡ reciprocal_scores marks a b c.choice
same_scores marks a b c h =
    ap (λ o. scores_at o c.firsts.second) h.first ∙ ap (λ o. scores_at (first_true (with_choice marks c.choice) a) o) h.second

-- the better of the best one so far and of an unjudged document
pub walk_open : (marks : List Mark) (a b : List ℕ) (p d : ℕ) (best next after : Candidate) (less : Bool) → p < length b → d ≡ get_or b p 0 → mark_at marks d ≡ Unjudged → next.choice ≡ Some d → AreFirsts marks a b next →
    less ≡ is_smaller (scores_at next.firsts.first next.firsts.second) (scores_at best.firsts.first best.firsts.second) → after ≡ (if less then next else best) → Walked marks a b p best → Walked marks a b (p + 1) after
walk_open marks a b p d best next after less lt e open' chosen firsts test ea w =
    let scores = reciprocal_scores marks a b in
    let longer : take (p + 1) b ≡ take p b ++ d ∷ [] = take_more b p 0 lt ∙ ap (λ x. take p b ++ x ∷ []) (sym e) in
    let tested : less ≡ is_smaller (scores (Some d)) (scores best.choice) =
    test ∙ ap (λ s. is_smaller s (scores_at best.firsts.first best.firsts.second)) (same_scores marks a b next firsts ∙ ap scores chosen) ∙ ap (is_smaller (scores (Some d))) (same_scores marks a b best w.firsts) in
    record {
      choice = ap (λ (c : Candidate). c.choice) ea ∙ picked less ∙ ap (λ (o : Option ℕ). if less then o else best.choice) chosen ∙ ap (λ (v : Bool). if v then Some d else best.choice) tested
          ∙ sym (ap (λ xs. first_least scores None (unjudged_of marks xs)) longer ∙ choice_open marks scores (take p b) d open' best.choice w.choice);
      firsts = subst (AreFirsts marks a b) (sym ea) (either less firsts w.firsts);
      unseen = subst (AllByRecursion (λ x. with_choice marks None x ≡ false)) (sym longer) (all_more (λ x. with_choice marks None x ≡ false) (take p b) d w.unseen (not_yet marks d Unjudged open' refl));
    }
  where
    picked : (v : Bool) → (if v then next else best).choice ≡ (if v then next.choice else best.choice)
    picked true = refl
    picked false = refl

    either : (v : Bool) → AreFirsts marks a b next → AreFirsts marks a b best → AreFirsts marks a b (if v then next else best)
    either true h k = h
    either false h k = k

-- the walk stops at a document that is judged relevant
pub walk_stops : (marks : List Mark) (a b : List ℕ) (p d : ℕ) (best : Candidate) → IsRanking (length marks) b → p < length b → d ≡ get_or b p 0 → mark_at marks d ≡ Relevant → Walked marks a b p best → best.choice ≡ reciprocal_choice marks a b
walk_stops marks a b p d best rb lt e judged w =
    let whole : take p b ++ d ∷ drop (p + 1) b ≡ b = ap (λ x. take p b ++ x ∷ drop (p + 1) b) e ∙ parts b p lt in
    w.choice ∙ ap (λ (ys : List ℕ). first_least (reciprocal_scores marks a ys) None (unjudged_of marks (take p b))) (sym whole)
    ∙ choice_stops marks a (take p b) (drop (p + 1) b) d (subst (IsDistinct nat_eq) (sym whole) rb.distinct) (ap (picked_value false) judged)
    ∙ ap (reciprocal_choice marks a) whole
  where
    parts : (xs : List ℕ) (i : ℕ) → i < length xs → take i xs ++ get_or xs i 0 ∷ drop (i + 1) xs ≡ xs
    parts xs i h = grind (arith, common_steps)

-- or after an unjudged one that leaves the first run's rank as it is
pub walk_settles : (marks : List Mark) (a b : List ℕ) (p d : ℕ) (judged : Option ℕ) (next best earlier_best : Candidate) → IsRanking (length marks) b → p < length b → d ≡ get_or b p 0 → mark_at marks d ≡ Unjudged →
    judged ≡ first_true (with_choice marks None) a → next.firsts.first ≡ judged → AreFirsts marks a b next → next.choice ≡ Some d → Walked marks a b p earlier_best → Walked marks a b (p + 1) best → best.choice ≡ reciprocal_choice marks a b
walk_settles marks a b p d judged next best earlier_best rb lt e open' ej same firsts chosen before w =
    let longer : take (p + 1) b ≡ take p b ++ d ∷ [] = take_more b p 0 lt ∙ ap (λ x. take p b ++ x ∷ []) (sym e) in
    let whole : (take p b ++ d ∷ []) ++ drop (p + 1) b ≡ b = ap (λ xs. xs ++ drop (p + 1) b) (sym longer) ∙ take-append-drop (p + 1) b in
    let stays : first_true (with_choice marks (Some d)) a ≡ first_true (with_choice marks None) a = ap (λ c. first_true (with_choice marks c) a) (sym chosen) ∙ sym firsts.first ∙ same ∙ ej in
    w.choice ∙ ap (λ xs. first_least (reciprocal_scores marks a b) None (unjudged_of marks xs)) longer ∙ ap (λ ys. first_least (reciprocal_scores marks a ys) None (unjudged_of marks (take p b ++ d ∷ []))) (sym whole)
    ∙ choice_settled marks a (take p b) (drop (p + 1) b) d (subst (IsDistinct nat_eq) (sym whole) rb.distinct) open' before.unseen stays ∙ ap (reciprocal_choice marks a) whole

-- or at the end
pub walk_ends : (marks : List Mark) (a b : List ℕ) (p : ℕ) (best : Candidate) → length b ≤ p → Walked marks a b p best → best.choice ≡ reciprocal_choice marks a b
walk_ends marks a b p best h w = w.choice ∙ ap (λ xs. first_least (reciprocal_scores marks a b) None (unjudged_of marks xs)) (whole b p h)
  where
    whole : (xs : List ℕ) (i : ℕ) → length xs ≤ i → take i xs ≡ xs
    whole xs i h = grind (arith, common_steps)
