-- Completions of refined marks.
use Rattle.std.proofs.Common.{◌≡◌, ℕ, zero, suc, ◌<◌, List, [], ◌∷◌, length, Bool, refl, ap, ap₂, sym, subst, arith}
use Rattle.desk_model.specs.Mark.{mark_at}
use Rattle.desk_model.specs.Completion.{Completion, Completes, Allows}
use Rattle.desk_model.specs.Fraction.{Fraction, mean, IsBelow, IsSame}
use Rattle.desk_model.specs.Score.{score}
use Rattle.desk_model.specs.Order.{Topic, IsCompletion, run_scores, run_mean, IsAlwaysAbove, AreAlwaysEqual}
use Rattle.desk_model.specs.Extremes.{InEvery, InEveryScore}
use Rattle.desk_model.specs.declared.types.Mark.{Mark}
use Rattle.desk_model.specs.declared.types.Mark.TheVariants.{Unjudged, Relevant, Other}
use Rattle.desk_model.specs.declared.types.MeasureName.{MeasureName}
use Rattle.measure_laws.specs.Refinement.{MayBecome, AreRefinedBy, AreTopicsRefinedBy}

pub length-refined : (ms ns : List Mark) → AreRefinedBy ms ns → length ns ≡ length ms
length-refined [] [] h = refl
length-refined [] (n ∷ ns) h = absurd h
length-refined (m ∷ ms) [] h = absurd h
length-refined (m ∷ ms) (n ∷ ns) h = ap suc (length-refined ms ns h.1)

pub becomes_at : (ms ns : List Mark) (doc : ℕ) → AreRefinedBy ms ns → MayBecome (mark_at ms doc) (mark_at ns doc)
becomes_at [] [] doc h = tt
becomes_at [] (n ∷ ns) doc h = absurd h
becomes_at (m ∷ ms) [] doc h = absurd h
becomes_at (m ∷ ms) (n ∷ ns) zero h = h.0
becomes_at (m ∷ ms) (n ∷ ns) (suc doc) h = becomes_at ms ns doc h.1

allows_before : (m n : Mark) (b : Bool) → MayBecome m n → Allows n b → Allows m b
allows_before Unjudged n b s h = tt
allows_before Relevant n b s h = subst (λ k. Allows k b) s h
allows_before Other n b s h = subst (λ k. Allows k b) s h

-- truth values that complete the refined marks complete the others
pub completes_before : (ms ns : List Mark) (truth : ℕ → Bool) → AreRefinedBy ms ns → Completes ns truth → Completes ms truth
completes_before ms ns truth h c doc lt =
    let within : doc < length ns = omega (arith, length-refined ms ns h) in
    allows_before (mark_at ms doc) (mark_at ns doc) (truth doc) (becomes_at ms ns doc h) (c doc within)

pub completion_before : (ts us : List Topic) (cs : List Completion) → AreTopicsRefinedBy ts us → IsCompletion us cs → IsCompletion ts cs
completion_before [] [] cs h c = c
completion_before [] (u ∷ us) cs h c = absurd h
completion_before (t ∷ ts) [] cs h c = absurd h
completion_before (t ∷ ts) (u ∷ us) [] h c = absurd c
completion_before (t ∷ ts) (u ∷ us) (x ∷ xs) h c = (completes_before t.marks u.marks x.truth h.0.marks c.0, completion_before ts us xs h.1 c.1)

same_scores : (measure : MeasureName) (run : ℕ) (ts us : List Topic) (cs : List Completion) → AreTopicsRefinedBy ts us → run_scores measure run us cs ≡ run_scores measure run ts cs
same_scores measure run [] [] cs h = refl
same_scores measure run [] (u ∷ us) cs h = absurd h
same_scores measure run (t ∷ ts) [] cs h = absurd h
same_scores measure run (t ∷ ts) (u ∷ us) [] h = refl
same_scores measure run (t ∷ ts) (u ∷ us) (x ∷ xs) h =
    ap₂ (λ y ys. y ∷ ys) (ap₂ (λ n docs. score measure n x.truth docs (x.tail run)) (length-refined t.marks u.marks h.0.marks) (h.0.rankings run)) (same_scores measure run ts us xs h.1)

pub same_means : (measure : MeasureName) (run : ℕ) (ts us : List Topic) (cs : List Completion) → AreTopicsRefinedBy ts us → run_mean measure run us cs ≡ run_mean measure run ts cs
same_means measure run ts us cs h = ap mean (same_scores measure run ts us cs h)

-- what always holds of two means still always holds
pub always_above_stays : (measure : MeasureName) (ts us : List Topic) (a b : ℕ) → AreTopicsRefinedBy ts us → IsAlwaysAbove measure ts a b → IsAlwaysAbove measure us a b
always_above_stays measure ts us a b h always = record {
  in_every = λ cs k.
      subst (λ x. IsBelow x (run_mean measure a us cs)) (sym (same_means measure b ts us cs h))
      (subst (λ x. IsBelow (run_mean measure b ts cs) x) (sym (same_means measure a ts us cs h)) (always.in_every cs (completion_before ts us cs h k)));
}

pub always_equal_stays : (measure : MeasureName) (ts us : List Topic) (a b : ℕ) → AreTopicsRefinedBy ts us → AreAlwaysEqual measure ts a b → AreAlwaysEqual measure us a b
always_equal_stays measure ts us a b h always = record {
  in_every = λ cs k.
      subst (λ x. IsSame x (run_mean measure b us cs)) (sym (same_means measure a ts us cs h))
      (subst (λ x. IsSame (run_mean measure a ts cs) x) (sym (same_means measure b ts us cs h)) (always.in_every cs (completion_before ts us cs h k)));
}

-- what holds in every completion of a topic holds in those of the refined marks
pub in_every_refined : (measure : MeasureName) (ms ns : List Mark) (a b : List ℕ) (fact : Fraction → Fraction → Type 0) → AreRefinedBy ms ns → InEvery measure ms a b fact → InEvery measure ns a b fact
in_every_refined measure ms ns a b fact h all truth tail_a tail_b c =
    subst (λ n. fact (score measure n truth a tail_a) (score measure n truth b tail_b)) (sym (length-refined ms ns h)) (all truth tail_a tail_b (completes_before ms ns truth h c))

pub in_every_score_refined : (measure : MeasureName) (ms ns : List Mark) (a : List ℕ) (fact : Fraction → Type 0) → AreRefinedBy ms ns → InEveryScore measure ms a fact → InEveryScore measure ns a fact
in_every_score_refined measure ms ns a fact h all truth tail c =
    subst (λ n. fact (score measure n truth a tail)) (sym (length-refined ms ns h)) (all truth tail (completes_before ms ns truth h c))
