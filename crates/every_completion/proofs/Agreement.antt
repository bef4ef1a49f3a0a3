-- A score looks at the truth values of the universe alone, and where every document is judged there is one difference.
use Rattle.std.proofs.Common.{◌≡◌, ℕ, zero, suc, ◌+◌, ◌<◌, Bool, true, false, List, [], length, count_by, ℤ, arith, ap, sym, subst, ◌∙◌}
use Rattle.std.specs.List.{range_with_len}
use Rattle.desk_model.specs.Mark.{is_unjudged, mark_at}
use Rattle.desk_model.specs.Completion.{Allows, Completes, picked_value, with_picked}
use Rattle.desk_model.specs.Ranking.{IsRanking}
use Rattle.desk_model.specs.Fraction.{Fraction, IsAtMost, IsAtLeast}
use Rattle.desk_model.specs.Score.{score}
use Rattle.desk_model.specs.Extremes.{IsGreatest, IsSmallest, InEvery, InSome, AreExtremes}
use Rattle.desk_model.specs.declared.types.Mark.{Mark}
use Rattle.desk_model.specs.declared.types.Mark.TheVariants.{Unjudged, Relevant, Other}
use Rattle.desk_model.specs.declared.types.MeasureName.{MeasureName}
use Rattle.desk_model.specs.declared.types.MeasureName.TheVariants.{Precision, Recall, RPrecision, Reciprocal, Biased, AveragePrecision}
use Rattle.desk_model.proofs.Completions.{with_picked-Completes}
use Rattle.desk_model.proofs.Counts.{one_if, count_by-cons}
use Rattle.desk_model.proofs.Agreement.{Agree, score_agree}
use Rattle.every_completion.specs.Walk.{LooksAtNoTail}

-- one more document of a universe
count_next : (p : ℕ → Bool) (a n : ℕ) → count_by p (range_with_len a (suc n)) ≡ count_by p (range_with_len a n) + one_if (p (a + n))
count_next p a zero = let here : p (a + 0) ≡ p a = ap p (omega arith) in omega (arith, count_by-cons p a [], ap one_if here)
count_next p a (suc n) =
    let here : p ((a + 1) + n) ≡ p (a + suc n) = ap p (omega arith) in
    omega (arith, count_by-cons p a (range_with_len (a + 1) (suc n)), count_by-cons p a (range_with_len (a + 1) n), count_next p (a + 1) n, ap one_if here)

count_more : (p : ℕ → Bool) (n : ℕ) → count_by p (range_with_len 0 (n + 1)) ≡ count_by p (range_with_len 0 n) + one_if (p n)
count_more p n =
    let more : n + 1 ≡ suc n = omega arith in
    let none : 0 + n ≡ n = omega arith in
    let next : count_by p (range_with_len 0 (n + 1)) ≡ count_by p (range_with_len 0 (suc n)) = ap (λ k. count_by p (range_with_len 0 k)) more in
    let here : p (0 + n) ≡ p n = ap p none in
    omega (arith, next, count_next p 0 n, ap one_if here)

pub count_taken : (p : ℕ → Bool) (i n m : ℕ) (b : Bool) → n ≡ count_by p (range_with_len 0 i) → b ≡ p i → b ≡ true → m ≡ n + 1 → m ≡ count_by p (range_with_len 0 (i + 1))
count_taken p i n m b h e f g = omega (arith, count_more p i, ap one_if (sym e ∙ f))

pub count_left : (p : ℕ → Bool) (i n m : ℕ) (b : Bool) → n ≡ count_by p (range_with_len 0 i) → b ≡ p i → b ≡ false → m ≡ n → m ≡ count_by p (range_with_len 0 (i + 1))
count_left p i n m b h e f g = omega (arith, count_more p i, ap one_if (sym e ∙ f))

-- a score that looks at no tail looks at the truth values of the universe alone
pub score_alone : (m : MeasureName) (n : ℕ) (s t : ℕ → Bool) (docs : List ℕ) (tail : List Bool) → LooksAtNoTail m → IsRanking n docs → Agree n s t → score m n s docs tail ≡ score m n t docs []
score_alone (Precision k) n s t docs tail v r h = score_agree (Precision k) n s t docs [] r h
score_alone (Recall k) n s t docs tail v r h = score_agree (Recall k) n s t docs [] r h
score_alone RPrecision n s t docs tail v r h = score_agree RPrecision n s t docs [] r h
score_alone Reciprocal n s t docs tail v r h = score_agree Reciprocal n s t docs [] r h
score_alone (Biased top bottom) n s t docs tail v r h = absurd v
score_alone AveragePrecision n s t docs tail v r h = absurd v

judged_value : (mark : Mark) (b : Bool) → is_unjudged mark ≡ false → Allows mark b → b ≡ picked_value false mark
judged_value Unjudged b h a = absurd (cc)
judged_value Relevant b h a = a
judged_value Other b h a = a

-- where every document is judged, its mark gives its truth value
one_completion : (marks : List Mark) (truth : ℕ → Bool) → ((doc : ℕ) → doc < length marks → is_unjudged (mark_at marks doc) ≡ false) → Completes marks truth → Agree (length marks) truth (with_picked marks (λ _. false))
one_completion marks truth judged c doc h = judged_value (mark_at marks doc) (truth doc) (judged doc h) (c doc h)

-- the extremes where every document is judged: the floor and the ceiling of the one difference
pub judged_extremes : (m : MeasureName) (u : ℕ) (marks : List Mark) (a b : List ℕ) (x y : Fraction) (lo hi : ℤ) → LooksAtNoTail m → IsRanking (length marks) a → IsRanking (length marks) b →
    ((doc : ℕ) → doc < length marks → is_unjudged (mark_at marks doc) ≡ false) →
    x ≡ score m (length marks) (with_picked marks (λ _. false)) a [] → y ≡ score m (length marks) (with_picked marks (λ _. false)) b [] →
    IsGreatest (λ z. IsAtMost z u x y) lo → IsSmallest (λ z. IsAtLeast z u x y) hi →
    AreExtremes m u marks a b (record { least_lo = lo; least_hi = hi; most_lo = lo; most_hi = hi })
judged_extremes m u marks a b x y lo hi v ra rb judged ex ey floor ceiling =
    let n = length marks in
    let none = with_picked marks (λ _. false) in
    let same : (docs : List ℕ) (truth : ℕ → Bool) (tail : List Bool) (s : Fraction) → IsRanking n docs → s ≡ score m n none docs [] → Completes marks truth → s ≡ score m n truth docs tail =
    λ docs truth tail s r e c. e ∙ sym (score_alone m n truth none docs tail v r (one_completion marks truth judged c)) in
    let to_each : (fact : Fraction → Fraction → Type 0) → fact x y → InEvery m marks a b fact =
    λ fact h truth ta tb c. subst (λ s. fact s (score m n truth b tb)) (same a truth ta x ra ex c) (subst (fact x) (same b truth tb y rb ey c) h) in
    let from_one : (fact : Fraction → Fraction → Type 0) (truth : ℕ → Bool) (ta tb : List Bool) → Completes marks truth → fact (score m n truth a ta) (score m n truth b tb) → fact x y =
    λ fact truth ta tb c h. subst (λ s. fact s y) (sym (same a truth ta x ra ex c)) (subst (fact (score m n truth a ta)) (sym (same b truth tb y rb ey c)) h) in
    let ok = with_picked-Completes marks (λ _. false) in
    let one : (fact : Fraction → Fraction → Type 0) → fact x y → InSome m marks a b fact = λ fact h. (none, [], [], ok, to_each fact h none [] [] ok) in
    record {
      least_lo = record { so = to_each (IsAtMost lo u) floor.so; others = λ w h. floor.others w (from_one (IsAtMost w u) none [] [] ok (h none [] [] ok)) };
      least_hi = record { so = one (IsAtLeast hi u) ceiling.so; others = λ w h. ceiling.others w (from_one (IsAtLeast w u) h.0 h.1 h.2 h.3 h.4) };
      most_hi = record { so = to_each (IsAtLeast hi u) ceiling.so; others = λ w h. ceiling.others w (from_one (IsAtLeast w u) none [] [] ok (h none [] [] ok)) };
      most_lo = record { so = one (IsAtMost lo u) floor.so; others = λ w h. floor.others w (from_one (IsAtMost w u) h.0 h.1 h.2 h.3 h.4) };
    }
