-- The best of many choices.
use Rattle.std.proofs.Common.{◌≡◌, ℕ, ◌+◌, ◌<◌, ◌≤◌, max, Bool, true, false, not, ◌&&◌, ◌||◌, nat_lt, arith, refl, ap, ◌∙◌, sym, subst, inl, inr, ◌⊎◌}
use Rattle.std.specs.Prelude.{if◌then◌else◌}
use Rattle.std.proofs.lemmas.Bool.{cases_lt, ltb-false, le-ltb}
use Rattle.std.proofs.lemmas.Bool.Decides.{nat_tests}
use Rattle.measure_laws.specs.Differences.{ArePositive, Scores, is_smaller}
use Rattle.measure_laws.proofs.Picks.{NoGreater, NoGreater-trans, no_smaller, not_smaller, smaller_no_greater}
use Rattle.measure_laws.proofs.Stretches.{test_step}
use Rattle.rprec.specs.declared.greedy.DepthCandidate.{DepthCandidate}
use Rattle.rprec.specs.Greedy.{beats}
use Rattle.rprec.specs.Search.{IsBestBetween, IsBestOf, precedes, preferred}

-- ---- candidates as scores
abbrev scores_of : DepthCandidate → Scores
scores_of c = record { first = record { num = c.first; den = max 1 c.count }; second = record { num = c.second; den = max 1 c.count } }

positive_of : (c : DepthCandidate) → ArePositive (scores_of c)
positive_of c = record { first = omega arith; second = omega arith }

beats_is : (c d : DepthCandidate) → is_smaller (scores_of c) (scores_of d) ≡ beats c d
beats_is c d = test_step c.first c.second d.first d.second (max 1 c.count) (max 1 d.count) c.first c.second d.first d.second (omega arith) (omega arith) (omega arith) (omega arith)

-- ---- which precedes
-- what it says where a candidate does not precede another
record IsNoEarlier (c best : DepthCandidate) : Type 0 where
  pub least : NoGreater (scores_of best) (scores_of c)
  pub fewer : (beats best c ≡ true) ⊎ (best.count ≤ c.count)

no_earlier : (c best : DepthCandidate) → precedes c best ≡ false → IsNoEarlier c best
no_earlier c best e = record { least = not_smaller (scores_of best) (scores_of c) (beats_is c best ∙ first (beats c best) refl e); fewer = second (beats c best) (beats best c) (nat_lt c.count best.count) refl refl e }
  where
    first : (b : Bool) → beats c best ≡ b → (b || (not (beats best c) && nat_lt c.count best.count)) ≡ false → beats c best ≡ false
    first false eb h = eb
    first true eb h = absurd (cc)

    second : (b d v : Bool) → beats best c ≡ d → nat_lt c.count best.count ≡ v → (b || (not d && v)) ≡ false → (beats best c ≡ true) ⊎ (best.count ≤ c.count)
    second b true v ed ev h = inl ed
    second b false false ed ev h = inr (ltb-false c.count best.count ev)
    second true false true ed ev h = absurd (cc)
    second false false true ed ev h = absurd (cc)

is_no_earlier : (c best : DepthCandidate) → IsNoEarlier c best → precedes c best ≡ false
is_no_earlier c best h = by_case (beats c best) (beats best c) (nat_lt c.count best.count) refl refl refl
  where
    none : beats c best ≡ false
    none = sym (beats_is c best) ∙ no_smaller (scores_of best) (scores_of c) h.least

    fewer : beats best c ≡ false → nat_lt c.count best.count ≡ false
    fewer e = elim h.fewer [ inl less ↦ absurd (cc) | inr few ↦ le-ltb c.count best.count few ]

    by_case : (b d v : Bool) → beats c best ≡ b → beats best c ≡ d → nat_lt c.count best.count ≡ v → (b || (not d && v)) ≡ false
    by_case true d v eb ed ev = absurd (let h' = none in cc)
    by_case false true v eb ed ev = refl
    by_case false false false eb ed ev = refl
    by_case false false true eb ed ev = absurd (let h' = fewer ed in cc)

-- what does not precede a second, which does not precede a third, does not precede the third
pub later_trans : (c d e : DepthCandidate) → precedes c d ≡ false → precedes d e ≡ false → precedes c e ≡ false
later_trans c d e h k =
    let x = no_earlier c d h in
    let y = no_earlier d e k in
    is_no_earlier c e (record { least = NoGreater-trans (scores_of e) (scores_of d) (scores_of c) (positive_of d) y.least x.least; fewer = by_test x y (beats e c) refl })
  where
    fewer : (beats d c ≡ true) ⊎ (d.count ≤ c.count) → (beats e d ≡ true) ⊎ (e.count ≤ d.count) → beats d c ≡ false → beats e d ≡ false → e.count ≤ c.count
    fewer (inl a) y f g = absurd (cc)
    fewer (inr a) (inl b) f g = absurd (cc)
    fewer (inr a) (inr b) f g = omega (arith, a, b)

    by_test : IsNoEarlier c d → IsNoEarlier d e → (b : Bool) → beats e c ≡ b → (beats e c ≡ true) ⊎ (e.count ≤ c.count)
    by_test x y true eb = inl eb
    by_test x y false eb =
        let back : NoGreater (scores_of c) (scores_of e) = not_smaller (scores_of c) (scores_of e) (beats_is e c ∙ eb) in
        let first : beats d c ≡ false = sym (beats_is d c) ∙ no_smaller (scores_of c) (scores_of d) (NoGreater-trans (scores_of c) (scores_of e) (scores_of d) (positive_of e) back y.least) in
        let second : beats e d ≡ false = sym (beats_is e d) ∙ no_smaller (scores_of d) (scores_of e) (NoGreater-trans (scores_of d) (scores_of c) (scores_of e) (positive_of c) x.least back) in
        inr (fewer x.fewer y.fewer first second)

-- one that is beaten
not_both : (c best : DepthCandidate) → beats c best ≡ true → beats best c ≡ false
not_both c best h = sym (beats_is best c) ∙ no_smaller (scores_of c) (scores_of best) (smaller_no_greater (scores_of c) (scores_of best) (beats_is c best ∙ h))

pub beaten_not_before : (c best : DepthCandidate) → beats best c ≡ true → precedes c best ≡ false
beaten_not_before c best h = let none = not_both best c h in rw (none, h) refl

-- none precedes itself
pub itself : (c : DepthCandidate) → precedes c c ≡ false
itself c = is_no_earlier c c (record { least = omega arith; fewer = inr (omega arith) })

-- the preferred of two
preferred_none : (c best : DepthCandidate) → (precedes c (preferred c best) ≡ false) × (precedes best (preferred c best) ≡ false)
preferred_none c best = by_test (precedes c best) refl
  where
    back : precedes c best ≡ true → precedes best c ≡ false
    back e = back_by (beats c best) (beats best c) (nat_lt c.count best.count) refl refl refl e
      where
        no_fewer : nat_lt c.count best.count ≡ true → nat_lt best.count c.count ≡ false
        no_fewer h = grind (arith, nat_tests)

        back_by : (b d v : Bool) → beats c best ≡ b → beats best c ≡ d → nat_lt c.count best.count ≡ v → (b || (not d && v)) ≡ true → precedes best c ≡ false
        back_by true d v eb ed ev h = let none = not_both c best eb in rw (none, eb) refl
        back_by false true v eb ed ev h = absurd (cc)
        back_by false false true eb ed ev h = rw (ed, eb, no_fewer ev) refl
        back_by false false false eb ed ev h = absurd (cc)

    by_test : (b : Bool) → precedes c best ≡ b → (precedes c (if b then c else best) ≡ false) × (precedes best (if b then c else best) ≡ false)
    by_test true e = (itself c, back e)
    by_test false e = (e, itself best)

preferred_one : (c best : DepthCandidate) → (preferred c best ≡ best) ⊎ (preferred c best ≡ c)
preferred_one c best = by_test (precedes c best)
  where
    by_test : (b : Bool) → ((if b then c else best) ≡ best) ⊎ ((if b then c else best) ≡ c)
    by_test true = inr refl
    by_test false = inl refl

-- ---- one of some choices
pub choice_none : (choices : ℕ → DepthCandidate) (start end : ℕ) (c : DepthCandidate) → IsBestBetween choices start end c c
choice_none choices start end c = record { one = inl refl; not_before = itself c }

pub choice_join : (choices : ℕ → DepthCandidate) (s m n e : ℕ) (c d f : DepthCandidate) → s ≤ n → m ≤ e → IsBestBetween choices s m c d → IsBestBetween choices n e d f → IsBestBetween choices s e c f
choice_join choices s m n e c d f lo hi h k = record { one = joined h.one k.one; not_before = later_trans c d f h.not_before k.not_before }
  where
    joined : (d ≡ c) ⊎ ((place : ℕ) × ((s ≤ place) × ((place < m) × (d ≡ choices place)))) → (f ≡ d) ⊎ ((place : ℕ) × ((n ≤ place) × ((place < e) × (f ≡ choices place)))) → (f ≡ c) ⊎ ((place : ℕ) × ((s ≤ place) × ((place < e) × (f ≡ choices place))))
    joined (inl x) (inl y) = inl (y ∙ x)
    joined (inr x) (inl y) = inr (x.0, (x.1.0, (omega (arith, x.1.1.0), y ∙ x.1.1.1)))
    joined x (inr y) = inr (y.0, (omega (arith, y.1.0), (y.1.1.0, y.1.1.1)))

pub choice_one : (choices : ℕ → DepthCandidate) (start end place : ℕ) (c : DepthCandidate) → start ≤ place → place < end → IsBestBetween choices start end c (preferred (choices place) c)
choice_one choices start end place c lo hi = record { one = either (preferred_one (choices place) c); not_before = (preferred_none (choices place) c).1 }
  where
    either : (preferred (choices place) c ≡ c) ⊎ (preferred (choices place) c ≡ choices place) → (preferred (choices place) c ≡ c) ⊎ ((p : ℕ) × ((start ≤ p) × ((p < end) × (preferred (choices place) c ≡ choices p))))
    either (inl e) = inl e
    either (inr e) = inr (place, (lo, (hi, e)))

-- ---- the best of some choices
pub best_none : (choices : ℕ → DepthCandidate) (start : ℕ) (c : DepthCandidate) → IsBestOf choices start start c c
best_none choices start c = record { choice = choice_none choices start start c; none = λ place lo hi. absurd (omega arith) }

-- where none precedes the earlier one
pub best_skip : (choices : ℕ → DepthCandidate) (start end : ℕ) (c : DepthCandidate) → ((place : ℕ) → start ≤ place → place < end → precedes (choices place) c ≡ false) → IsBestOf choices start end c c
best_skip choices start end c f = record { choice = choice_none choices start end c; none = f }

pub best_one : (choices : ℕ → DepthCandidate) (place : ℕ) (c : DepthCandidate) → IsBestOf choices place (place + 1) c (preferred (choices place) c)
best_one choices place c = record {
  choice = choice_one choices place (place + 1) place c (omega arith) (omega arith);
  none = λ p lo hi. let same : place ≡ p = omega (arith, lo, hi) in subst (λ (k : ℕ). precedes (choices k) (preferred (choices place) c) ≡ false) same (preferred_none (choices place) c).0;
}

pub best_join : (choices : ℕ → DepthCandidate) (s m e : ℕ) (c d f : DepthCandidate) → s ≤ m → m ≤ e → IsBestOf choices s m c d → IsBestOf choices m e d f → IsBestOf choices s e c f
best_join choices s m e c d f lo hi h k = record {
  choice = choice_join choices s m m e c d f lo hi h.choice k.choice;
  none = λ p l u. elim (cases_lt p m) [
    | inl less ↦ later_trans (choices p) d f (h.none p l less) k.choice.not_before
    | inr more ↦ k.none p more u
  ];
}

-- the best of a guess and all is the best of all, where the guess is one of them
pub best_guess : (choices : ℕ → DepthCandidate) (s e : ℕ) (c d f : DepthCandidate) → IsBestBetween choices s e c d → IsBestOf choices s e d f → IsBestOf choices s e c f
best_guess choices s e c d f h k = record { choice = choice_join choices s e s e c d f (omega arith) (omega arith) h k.choice; none = k.none }

-- with the choice at one more place
pub best_next : (choices : ℕ → DepthCandidate) (start place : ℕ) (earlier best c next : DepthCandidate) → start ≤ place → c ≡ choices place → next ≡ preferred c best → IsBestOf choices start place earlier best → IsBestOf choices start (place + 1) earlier next
best_next choices start place earlier best c next le ec en h =
    subst (IsBestOf choices start (place + 1) earlier) (sym (en ∙ ap (λ (x : DepthCandidate). preferred x best) ec)) (best_join choices start place (place + 1) earlier best (preferred (choices place) best) le (omega arith) h (best_one choices place best))
