-- Where the prefixes stay as they are, three numbers of relevant documents hold the least difference.
use Rattle.std.proofs.Common.{◌≡◌, ℕ, zero, suc, ◌+◌, ◌-◌, ◌<◌, ◌≤◌, min, max, Bool, true, false, not, ◌&&◌, ◌||◌, ◌⊎◌, nat_lt, List, [], ◌∷◌, ◌++◌, length, take, arith, refl, ap, ◌∙◌, sym, subst, inl, inr}
use Rattle.std.specs.Prelude.{if◌then◌else◌}
use Rattle.std.specs.List.{AllByRecursion, range_with_len}
use Rattle.std.proofs.lemmas.Bool.{cases_lt}
use Rattle.std.proofs.lemmas.Bool.Decides.{nat_tests}
use Rattle.desk_model.specs.Ranking.{IsRanking}
use Rattle.desk_model.specs.declared.types.Mark.{Mark}
use Rattle.measure_laws.specs.Differences.{ArePositive, Scores, is_smaller, first_least}
use Rattle.measure_laws.specs.RprecCase.{greedy_scores, rprec_count}
use Rattle.measure_laws.specs.Classes.{judged_count}
use Rattle.measure_laws.specs.LeastDifference.{unjudged_count}
use Rattle.measure_laws.specs.RprecStretches.{IsBeyond, IsEven, others_used, second_used}
use Rattle.measure_laws.proofs.Picks.{NoGreater, NoGreater-trans, NoGreater-refl, first_least-all, first_least-least, no_smaller, not_smaller, smaller_no_greater, first_least-append}
use Rattle.measure_laws.proofs.RprecEnds.{greedy_positive, range_push}
use Rattle.measure_laws.proofs.Stretches.{same_take, stretches_are}
use Rattle.topic_counts.specs.declared.counts.Counts.{Counts}
use Rattle.rprec.specs.declared.prefixes.Prefixes.{Prefixes}
use Rattle.rprec.specs.declared.greedy.DepthCandidate.{DepthCandidate}
use Rattle.rprec.specs.Greedy.{AreTopic, AreGains, IsLeast, beats, better_of, candidate, best_beyond}
use Rattle.rprec.specs.Search.{IsBestOf, precedes}
use Rattle.rprec.proofs.Choices.{smaller_is, gains_are}
use Rattle.rprec.proofs.Steps.{ArePrefixes}

-- ---- ranges
range_all : (P : ℕ → Type 0) (start n : ℕ) → ((d : ℕ) → start ≤ d → d < start + n → P d) → AllByRecursion P (range_with_len start n)
range_all P start zero f = tt
range_all P start (suc n) f = (f start (omega arith) (omega arith), range_all P (start + 1) n (λ d h k. f d (omega arith) (omega arith)))

range_append : (s m n : ℕ) → range_with_len s (m + n) ≡ range_with_len s m ++ range_with_len (s + m) n
range_append s zero n = let e : s ≡ s + 0 = omega arith in let h : 0 + n ≡ n = omega arith in ap (range_with_len s) h ∙ ap (λ (k : ℕ). range_with_len k n) e
range_append s (suc m) n = let h : suc m + n ≡ suc (m + n) = omega arith in ap (range_with_len s) h ∙ ap (λ ks. s ∷ ks) (range_append (s + 1) m n ∙ ap (λ k. range_with_len (s + 1) m ++ range_with_len k n) (omega arith))

-- ---- the first of the least over a stretch
none_better : (scores : ℕ → Scores) (best s n : ℕ) → ((d : ℕ) → s ≤ d → d < s + n → is_smaller (scores d) (scores best) ≡ false) → first_least scores best (range_with_len s n) ≡ best
none_better scores best s zero f = refl
none_better scores best s (suc n) f =
    ap (λ (b : Bool). first_least scores (if b then s else best) (range_with_len (s + 1) n)) (f s (omega arith) (omega arith)) ∙ none_better scores best (s + 1) n (λ d h k. f d (omega arith) (omega arith))

-- the last of a stretch is smaller than each before it
last_better : (scores : ℕ → Scores) → ((x : ℕ) → ArePositive (scores x)) → (best s n : ℕ) → ((d : ℕ) → s ≤ d → d < s + n → is_smaller (scores (s + n)) (scores d) ≡ true) →
    first_least scores best (range_with_len s (suc n)) ≡ (if is_smaller (scores (s + n)) (scores best) then s + n else best)
last_better scores positive best s n f = by_test (is_smaller (scores (s + n)) (scores best)) refl
  where
    by_test : (b : Bool) → is_smaller (scores (s + n)) (scores best) ≡ b → first_least scores best (range_with_len s (suc n)) ≡ (if b then s + n else best)
    by_test true e =
        let before = first_least scores best (range_with_len s n) in
        let beaten : is_smaller (scores (s + n)) (scores before) ≡ true = first_least-all (λ d. is_smaller (scores (s + n)) (scores d) ≡ true) scores best (range_with_len s n) e (range_all _ s n f) in
        ap (first_least scores best) (range_push s n) ∙ first_least-append scores best (range_with_len s n) ((s + n) ∷ []) ∙ ap (λ (b : Bool). if b then s + n else before) beaten
    by_test false e =
        let last : NoGreater (scores best) (scores (s + n)) = not_smaller (scores best) (scores (s + n)) e in
        let before = none_better scores best s n (λ d h k.
        no_smaller (scores best) (scores d) (NoGreater-trans (scores best) (scores (s + n)) (scores d) (positive (s + n)) last (smaller_no_greater (scores (s + n)) (scores d) (f d h k)))) in
        ap (first_least scores best) (range_push s n) ∙ first_least-append scores best (range_with_len s n) ((s + n) ∷ []) ∙ ap (λ (x : ℕ). first_least scores x ((s + n) ∷ [])) before ∙ ap (λ (b : Bool). if b then s + n else best) e

-- a stretch along which the difference falls at each step, or at none
stretch_least : (scores : ℕ → Scores) → ((x : ℕ) → ArePositive (scores x)) → (best s n : ℕ) (falls : Bool) → NoGreater (scores best) (scores s) →
    ((i j : ℕ) → i < j → j ≤ n → is_smaller (scores (s + j)) (scores (s + i)) ≡ falls) →
    first_least scores best (range_with_len (s + 1) n) ≡ (if is_smaller (scores (s + n)) (scores best) then s + n else best)
stretch_least scores positive best s n false h f =
    let none : (j : ℕ) → j ≤ n → is_smaller (scores (s + j)) (scores best) ≡ false = from_start in
    none_better scores best (s + 1) n (λ d k l. subst (λ (x : ℕ). is_smaller (scores x) (scores best) ≡ false) (omega (arith, k)) (none (d - s) (omega arith)))
    ∙ sym (ap (λ (b : Bool). if b then s + n else best) (none n (omega arith)))
  where
    from_start : (j : ℕ) → j ≤ n → is_smaller (scores (s + j)) (scores best) ≡ false
    from_start zero k = no_smaller (scores best) (scores (s + 0)) (subst (λ (x : ℕ). NoGreater (scores best) (scores x)) (omega arith) h)
    from_start (suc j) k =
        let first : NoGreater (scores (s + 0)) (scores (s + suc j)) = not_smaller (scores (s + 0)) (scores (s + suc j)) (f 0 (suc j) (omega arith) k) in
        no_smaller (scores best) (scores (s + suc j)) (NoGreater-trans (scores best) (scores (s + 0)) (scores (s + suc j)) (positive (s + 0)) (subst (λ (x : ℕ). NoGreater (scores best) (scores x)) (omega arith) h) first)
stretch_least scores positive best s zero true h f =
    sym (ap (λ (b : Bool). if b then s + 0 else best) (no_smaller (scores best) (scores (s + 0)) (subst (λ (x : ℕ). NoGreater (scores best) (scores x)) (omega arith) h)))
stretch_least scores positive best s (suc n) true h f =
    let last : s + 1 + n ≡ s + suc n = omega arith in
    last_better scores positive best (s + 1) n (λ d k l.
    subst (λ (x : ℕ). is_smaller (scores x) (scores d) ≡ true) (omega arith)
    (subst (λ (x : ℕ). is_smaller (scores (s + suc n)) (scores x) ≡ true) (omega (arith, k)) (f (d - s) (suc n) (omega arith) (omega arith))))
    ∙ ap (λ (x : ℕ). if is_smaller (scores x) (scores best) then x else best) last

-- ---- the best of the numbers so far
-- a number of later ones is tried: the best is the first of the least, and no greater than the last
pub record IsBest (marks : List Mark) (a b : List ℕ) (j tried : ℕ) (best : DepthCandidate) : Type 0 where
  pub gains : AreGains marks a b best
  pub count : best.count ≡ first_least (greedy_scores marks a b) j (range_with_len (j + 1) tried)
  pub last : NoGreater (greedy_scores marks a b best.count) (greedy_scores marks a b (j + tried))

pub best_alone : (marks : List Mark) (a b : List ℕ) (j : ℕ) (c : DepthCandidate) → AreGains marks a b c → c.count ≡ j → IsBest marks a b j 0 c
best_alone marks a b j c h e = record {
  gains = h;
  count = e;
  last = subst (λ (x : ℕ). NoGreater (greedy_scores marks a b c.count) (greedy_scores marks a b x)) (omega (arith, e)) (NoGreater-refl (greedy_scores marks a b c.count));
}

-- the last of a stretch beside the best before it
pub best_over : (marks : List Mark) (a b : List ℕ) (j tried n : ℕ) (falls : Bool) (c best : DepthCandidate) → IsBest marks a b j tried best → AreGains marks a b c → c.count ≡ j + tried + n →
    ((m k : ℕ) → m < k → k ≤ n → is_smaller (greedy_scores marks a b (j + tried + k)) (greedy_scores marks a b (j + tried + m)) ≡ falls) → IsBest marks a b j (tried + n) (better_of c best)
best_over marks a b j tried n falls c best h k e f =
    let scores = greedy_scores marks a b in
    let test : is_smaller (scores (j + tried + n)) (scores best.count) ≡ beats c best =
    ap (λ (x : ℕ). is_smaller (scores x) (scores best.count)) (sym e) ∙ smaller_is marks a b c best k h.gains in
    let later : first_least scores j (range_with_len (j + 1) (tried + n)) ≡ (if is_smaller (scores (j + tried + n)) (scores best.count) then j + tried + n else best.count) =
    ap (first_least scores j) (range_append (j + 1) tried n) ∙ first_least-append scores j (range_with_len (j + 1) tried) (range_with_len (j + 1 + tried) n)
    ∙ ap (λ (x : ℕ). first_least scores x (range_with_len (j + 1 + tried) n)) (sym h.count) ∙ ap (λ (x : ℕ). first_least scores best.count (range_with_len x n)) (omega arith)
    ∙ stretch_least scores (greedy_positive marks a b) best.count (j + tried) n falls h.last f in
    either (beats c best) refl (later ∙ ap (λ (v : Bool). if v then j + tried + n else best.count) test) test
  where
    either : (v : Bool) → beats c best ≡ v → first_least (greedy_scores marks a b) j (range_with_len (j + 1) (tried + n)) ≡ (if v then j + tried + n else best.count) →
        is_smaller (greedy_scores marks a b (j + tried + n)) (greedy_scores marks a b best.count) ≡ v → IsBest marks a b j (tried + n) (if v then c else best)
    either true ev el et = record {
      gains = k;
      count = e ∙ sym el;
      last = subst (λ (x : ℕ). NoGreater (greedy_scores marks a b c.count) (greedy_scores marks a b x)) (omega (arith, e)) (NoGreater-refl (greedy_scores marks a b c.count));
    }
    either false ev el et = record {
      gains = h.gains;
      count = sym el;
      last = subst (λ (x : ℕ). NoGreater (greedy_scores marks a b best.count) (greedy_scores marks a b x)) (omega arith) (not_smaller (greedy_scores marks a b best.count) (greedy_scores marks a b (j + tried + n)) et);
    }

-- it is one of the numbers so far
pub best_within : (marks : List Mark) (a b : List ℕ) (j tried : ℕ) (count : ℕ) → count ≡ first_least (greedy_scores marks a b) j (range_with_len (j + 1) tried) → (j ≤ count) × (count ≤ j + tried)
best_within marks a b j tried count e =
    subst (λ (x : ℕ). (j ≤ x) × (x ≤ j + tried)) (sym e)
    (first_least-all (λ d. (j ≤ d) × (d ≤ j + tried)) (greedy_scores marks a b) j (range_with_len (j + 1) tried) (omega arith, omega arith) (range_all _ (j + 1) tried (λ d h k. (omega (arith, h), omega (arith, k)))))

-- a stretch along which the difference never falls
pub best_still : (marks : List Mark) (a b : List ℕ) (j tried n : ℕ) (best : DepthCandidate) → IsBest marks a b j tried best →
    ((m k : ℕ) → m < k → k ≤ n → is_smaller (greedy_scores marks a b (j + tried + k)) (greedy_scores marks a b (j + tried + m)) ≡ false) → best.count ≡ first_least (greedy_scores marks a b) j (range_with_len (j + 1) (tried + n))
best_still marks a b j tried n best h f =
    let scores = greedy_scores marks a b in
    h.count
    ∙ sym (ap (first_least scores j) (range_append (j + 1) tried n) ∙ first_least-append scores j (range_with_len (j + 1) tried) (range_with_len (j + 1 + tried) n)
    ∙ ap (λ (x : ℕ). first_least scores x (range_with_len (j + 1 + tried) n)) (sym h.count) ∙ ap (λ (x : ℕ). first_least scores best.count (range_with_len x n)) (omega arith)
    ∙ none_better scores best.count (j + tried + 1) n (λ d k l. later d k l) ∙ h.count)
  where
    start : NoGreater (greedy_scores marks a b best.count) (greedy_scores marks a b (j + tried + 0))
    start = subst (λ (x : ℕ). NoGreater (greedy_scores marks a b best.count) (greedy_scores marks a b x)) (omega arith) h.last

    from_last : (k : ℕ) → k ≤ n → NoGreater (greedy_scores marks a b best.count) (greedy_scores marks a b (j + tried + k))
    from_last zero l = start
    from_last (suc k) l =
        let first : NoGreater (greedy_scores marks a b (j + tried + 0)) (greedy_scores marks a b (j + tried + suc k)) = not_smaller _ _ (f 0 (suc k) (omega arith) l) in
        NoGreater-trans (greedy_scores marks a b best.count) (greedy_scores marks a b (j + tried + 0)) (greedy_scores marks a b (j + tried + suc k)) (greedy_positive marks a b (j + tried + 0)) start first

    later : (d : ℕ) → j + tried + 1 ≤ d → d < j + tried + 1 + n → is_smaller (greedy_scores marks a b d) (greedy_scores marks a b best.count) ≡ false
    later d k l = no_smaller _ _ (subst (λ (x : ℕ). NoGreater (greedy_scores marks a b best.count) (greedy_scores marks a b x)) (omega (arith, k)) (from_last (d - (j + tried)) (omega arith)))

-- ---- the choices from where the prefixes stay as they are
pub same_prefixes : (marks : List Mark) (a b : List ℕ) (f : Prefixes) (r s longest : ℕ) → length a ≤ longest → length b ≤ longest → r ≤ s → (r < s → longest ≤ r) → ArePrefixes marks (take r a) (take r b) f → ArePrefixes marks (take s a) (take s b) f
same_prefixes marks a b f r s longest ha hb le g h =
    let ea : take s a ≡ take r a = same_take a r s le (λ l. omega (arith, ha, g l)) in
    let eb : take s b ≡ take r b = same_take b r s le (λ l. omega (arith, hb, g l)) in
    subst (λ (ys : List ℕ). ArePrefixes marks (take s a) ys f) (sym eb) (subst (λ (xs : List ℕ). ArePrefixes marks xs (take r b) f) (sym ea) h)

pub choice_gains : (marks : List Mark) (a b : List ℕ) (r chosen : ℕ) (f : Prefixes) (all : Counts) (c : DepthCandidate) → IsRanking (length marks) a → IsRanking (length marks) b →
    ArePrefixes marks (take r a) (take r b) f → AreTopic marks all → r ≡ all.relevant + chosen → chosen ≤ all.unjudged → c ≡ candidate f all chosen → AreGains marks a b c
choice_gains marks a b r chosen f all c ra rb h topic er small e =
    subst (AreGains marks a b) (sym e) (gains_are marks a b r chosen f all (candidate f all chosen) ra rb h topic er small (sym er) refl refl)

pub record IsSettled (marks : List Mark) (a b : List ℕ) (all : Counts) (f : Prefixes) (start : ℕ) : Type 0 where
  pub prefixes : (c : ℕ) → start ≤ c → c ≤ all.unjudged → ArePrefixes marks (take (all.relevant + c) a) (take (all.relevant + c) b) f
  pub beyond : IsBeyond marks a b (all.relevant + start)

pub settled : (marks : List Mark) (a b : List ℕ) (all : Counts) (f : Prefixes) (start longest : ℕ) → AreTopic marks all → length a ≤ longest → length b ≤ longest → 0 < longest →
    start ≡ min (longest - all.relevant) all.unjudged → ArePrefixes marks (take (all.relevant + start) a) (take (all.relevant + start) b) f → IsSettled marks a b all f start
settled marks a b all f start longest topic ha hb positive e h = record {
  prefixes = λ c lo hi. same_prefixes marks a b f (all.relevant + start) (all.relevant + c) longest ha hb (omega arith) (λ l. omega arith) h;
  beyond = record {
    possible = (omega (arith, topic.relevant), omega (arith, topic.relevant, topic.unjudged, e));
    positive = λ l. omega (arith, topic.relevant, topic.unjudged, e, positive, l);
    first = λ l. omega (arith, topic.relevant, topic.unjudged, e, ha, l);
    second = λ l. omega (arith, topic.relevant, topic.unjudged, e, hb, l);
  };
}

settled_gains : (marks : List Mark) (a b : List ℕ) (all : Counts) (f : Prefixes) (start c : ℕ) → IsRanking (length marks) a → IsRanking (length marks) b → AreTopic marks all → IsSettled marks a b all f start →
    start ≤ c → c ≤ all.unjudged → AreGains marks a b (candidate f all c)
settled_gains marks a b all f start c ra rb topic h lo hi = gains_are marks a b (all.relevant + c) c f all (candidate f all c) ra rb (h.prefixes c lo hi) topic refl hi refl refl refl

-- from one place to another, along an even stretch
advanced : (marks : List Mark) (a b : List ℕ) (all : Counts) (f : Prefixes) (start c d : ℕ) (falls : Bool) (best : DepthCandidate) → IsRanking (length marks) a → IsRanking (length marks) b → AreTopic marks all → IsSettled marks a b all f start →
    start ≤ c → c ≤ d → d ≤ all.unjudged → IsEven marks a b (all.relevant + c) (all.relevant + d) falls → IsBest marks a b all.relevant c best → IsBest marks a b all.relevant d (better_of (candidate f all d) best)
advanced marks a b all f start c d falls best ra rb topic h lo le hi even k =
    subst (λ (x : ℕ). IsBest marks a b all.relevant x (better_of (candidate f all d) best)) (omega arith)
    (best_over marks a b all.relevant c (d - c) falls (candidate f all d) best k (settled_gains marks a b all f start d ra rb topic h (omega arith) hi) (omega arith)
    (λ m n lt l. even (all.relevant + c + m) (all.relevant + c + n) (omega arith) (omega arith) (omega arith)))

-- beyond the places where the second run's own documents, and then all but the first run's own, are used up, the difference never falls
pub beyond_least : (marks : List Mark) (a b : List ℕ) (all : Counts) (f : Prefixes) (start : ℕ) (best : DepthCandidate) → IsRanking (length marks) a → IsRanking (length marks) b → AreTopic marks all → start ≤ all.unjudged → IsSettled marks a b all f start → IsBest marks a b all.relevant start best →
    ((best_beyond f all start best).count ≡ first_least (greedy_scores marks a b) all.relevant (range_with_len (all.relevant + 1) all.unjudged)) × AreGains marks a b (best_beyond f all start best)
beyond_least marks a b all f start best ra rb topic small h k =
    let r = all.relevant + start in
    let one = max start f.second.unjudged in
    let two = max start (all.unjudged - f.first.unjudged) in
    let stretches = stretches_are marks a b r ra rb h.beyond in
    let counts = h.prefixes start (omega arith) small in
    let used : all.relevant + one ≡ second_used marks a b r = omega (arith, topic.relevant, counts.second) in
    let left : all.relevant + two ≡ others_used marks a b r = omega (arith, topic.relevant, topic.unjudged, counts.first) in
    let end : judged_count marks + unjudged_count marks ≡ all.relevant + all.unjudged = omega (arith, topic.relevant, topic.unjudged) in
    let order : one ≤ two = omega (arith, stretches.order, used, left) in
    let last : two ≤ all.unjudged = omega (arith, stretches.last, left, end) in
    let to_used : IsEven marks a b r (all.relevant + one) stretches.first.0 = subst (λ (x : ℕ). IsEven marks a b r x stretches.first.0) (sym used) stretches.first.1 in
    let to_left : IsEven marks a b (all.relevant + one) (all.relevant + two) stretches.second.0 =
    subst (λ (x : ℕ). IsEven marks a b x (all.relevant + two) stretches.second.0) (sym used) (subst (λ (x : ℕ). IsEven marks a b (second_used marks a b r) x stretches.second.0) (sym left) stretches.second.1) in
    let first = advanced marks a b all f start start one stretches.first.0 best ra rb topic h (omega arith) (omega arith) (omega (arith, order, last)) to_used k in
    let second = advanced marks a b all f start one two stretches.second.0 (better_of (candidate f all one) best) ra rb topic h (omega arith) order last to_left first in
    let whole : two + (all.unjudged - two) ≡ all.unjudged = omega (arith, last) in
    let rises : (m n : ℕ) → m < n → n ≤ all.unjudged - two → is_smaller (greedy_scores marks a b (all.relevant + two + n)) (greedy_scores marks a b (all.relevant + two + m)) ≡ false =
    λ m n lt le. stretches.third (all.relevant + two + m) (all.relevant + two + n) (omega (arith, left)) (omega arith) (omega (arith, end, last, le)) in (
      best_still marks a b all.relevant two (all.unjudged - two) (best_beyond f all start best) second rises ∙ ap (λ (x : ℕ). first_least (greedy_scores marks a b) all.relevant (range_with_len (all.relevant + 1) x)) whole,
      second.gains,
    )

-- it is the least of all
pub beyond_is_least : (marks : List Mark) (a b : List ℕ) (all : Counts) (f : Prefixes) (start : ℕ) (best after : DepthCandidate) → IsRanking (length marks) a → IsRanking (length marks) b → AreTopic marks all → start ≤ all.unjudged → IsSettled marks a b all f start → IsBest marks a b all.relevant start best →
    after ≡ best_beyond f all start best → IsLeast marks a b after
beyond_is_least marks a b all f start best after ra rb topic small h k e =
    let found = beyond_least marks a b all f start best ra rb topic small h k in
    let within = best_within marks a b all.relevant all.unjudged (best_beyond f all start best).count found.0 in
    let chosen : (best_beyond f all start best).count ≡ rprec_count marks a b =
    found.0 ∙ ap (λ (j : ℕ). first_least (greedy_scores marks a b) j (range_with_len (j + 1) all.unjudged)) topic.relevant ∙ ap (λ (u : ℕ). first_least (greedy_scores marks a b) (judged_count marks) (range_with_len (judged_count marks + 1) u)) topic.unjudged in
    subst (IsLeast marks a b) (sym e) (record { gains = found.1; chosen = chosen; low = omega (arith, topic.relevant, within.0); high = omega (arith, topic.relevant, topic.unjudged, within.1) })

-- ---- the best of the choices at later numbers
pub at_range : (P : ℕ → Type 0) (start n d : ℕ) → AllByRecursion P (range_with_len start n) → start ≤ d → d < start + n → P d
at_range P start zero d h lo hi = absurd (omega arith)
at_range P start (suc n) d h lo hi = elim (cases_lt start d) [
  | inl less ↦ at_range P (start + 1) n d h.1 (omega arith) (omega arith)
  | inr more ↦ let same : start ≡ d = omega arith in subst P same h.0
]

-- the best so far is no greater than each number tried
best_no_greater : (marks : List Mark) (a b : List ℕ) (j tried : ℕ) (best : DepthCandidate) → IsBest marks a b j tried best → (d : ℕ) → j ≤ d → d ≤ j + tried → NoGreater (greedy_scores marks a b best.count) (greedy_scores marks a b d)
best_no_greater marks a b j tried best h d lo hi =
    let scores = greedy_scores marks a b in
    let all = first_least-least scores (greedy_positive marks a b) j (range_with_len (j + 1) tried) in
    subst (λ (x : ℕ). NoGreater (scores x) (scores d)) (sym h.count) (elim (cases_lt j d) [
      | inl less ↦ at_range (λ c. NoGreater (scores (first_least scores j (range_with_len (j + 1) tried))) (scores c)) (j + 1) tried d all.1 (omega arith) (omega arith)
      | inr more ↦ let same : j ≡ d = omega arith in subst (λ (x : ℕ). NoGreater (scores (first_least scores j (range_with_len (j + 1) tried))) (scores x)) same all.0
    ])

-- what it says that a candidate does not precede another
no_beats : (c best : DepthCandidate) → precedes c best ≡ false → beats c best ≡ false
no_beats c best e = by_test (beats c best) refl e
  where
    by_test : (b : Bool) → beats c best ≡ b → (b || (not (beats best c) && nat_lt c.count best.count)) ≡ false → beats c best ≡ false
    by_test false eb h = eb
    by_test true eb h = absurd (cc)

beaten : (c best : DepthCandidate) → precedes c best ≡ false → c.count < best.count → beats best c ≡ true
beaten c best e lt = by_test (beats c best) (beats best c) (nat_lt c.count best.count) refl (fewer lt) e
  where
    fewer : c.count < best.count → nat_lt c.count best.count ≡ true
    fewer h = grind (arith, nat_tests)

    by_test : (b d v : Bool) → beats best c ≡ d → v ≡ true → (b || (not d && v)) ≡ false → beats best c ≡ true
    by_test b true v ed ev h = ed
    by_test true false v ed ev h = absurd (cc)
    by_test false false true ed ev h = absurd (cc)
    by_test false false false ed ev h = absurd (cc)

-- some choices at the numbers after those tried
pub record AreNext (marks : List Mark) (a b : List ℕ) (j tried n : ℕ) (choices : ℕ → DepthCandidate) : Type 0 where
  pub gains : (place : ℕ) → place < n → AreGains marks a b (choices place)
  pub count : (place : ℕ) → place < n → (choices place).count ≡ j + tried + 1 + place

-- the best of an earlier best and of some next choices
pub best_found : (marks : List Mark) (a b : List ℕ) (j tried n : ℕ) (choices : ℕ → DepthCandidate) (old best : DepthCandidate) → IsBest marks a b j tried old → AreNext marks a b j tried n choices → IsBestOf choices 0 n old best → IsBest marks a b j (tried + n) best
best_found marks a b j tried n choices old best h next found = by_case found.choice.one
  where
    scores : ℕ → Scores
    scores = greedy_scores marks a b

    gains : (best ≡ old) ⊎ ((place : ℕ) × ((0 ≤ place) × ((place < n) × (best ≡ choices place)))) → AreGains marks a b best
    gains (inl e) = subst (AreGains marks a b) (sym e) h.gains
    gains (inr e) = subst (AreGains marks a b) (sym e.1.1.1) (next.gains e.0 e.1.1.0)

    -- no later number is smaller
    later : (d : ℕ) → j + tried < d → d ≤ j + tried + n → is_smaller (scores d) (scores best.count) ≡ false
    later d lo hi =
        let place = d - (j + tried + 1) in
        let count : (choices place).count ≡ d = omega (arith, next.count place (omega arith)) in
        ap (λ (x : ℕ). is_smaller (scores x) (scores best.count)) (sym count) ∙ smaller_is marks a b (choices place) best (next.gains place (omega arith)) (gains found.choice.one) ∙ no_beats (choices place) best (found.none place (omega arith) (omega arith))

    last : NoGreater (scores best.count) (scores (j + (tried + n)))
    last = elim (cases_lt 0 n) [
      | inl some ↦ not_smaller (scores best.count) (scores (j + (tried + n))) (later (j + (tried + n)) (omega arith) (omega arith))
      | inr none ↦ none_tried found.choice.one (omega arith)
    ]
      where
        none_tried : (best ≡ old) ⊎ ((place : ℕ) × ((0 ≤ place) × ((place < n) × (best ≡ choices place)))) → n ≡ 0 → NoGreater (scores best.count) (scores (j + (tried + n)))
        none_tried (inl e) z = subst (λ (x : ℕ). NoGreater (scores best.count) (scores x)) (omega (arith, z)) (subst (λ (c : DepthCandidate). NoGreater (scores c.count) (scores (j + tried))) (sym e) h.last)
        none_tried (inr e) z = absurd (omega (arith, e.1.1.0, z))

    -- it is smaller than each number before it, where it is one of the choices
    before : (place d : ℕ) → place < n → best ≡ choices place → j ≤ d → d < best.count → is_smaller (scores best.count) (scores d) ≡ true
    before place d lt e lo hi = elim (cases_lt (j + tried) d) [
      | inl more ↦
          let p = d - (j + tried + 1) in
          let count : best.count ≡ j + tried + 1 + place = ap (λ (c : DepthCandidate). c.count) e ∙ next.count place lt in
          let there : (choices p).count ≡ d = omega (arith, next.count p (omega (arith, count, hi))) in
          ap (λ (x : ℕ). is_smaller (scores best.count) (scores x)) (sym there) ∙ smaller_is marks a b best (choices p) (gains found.choice.one) (next.gains p (omega (arith, count, hi)))
          ∙ beaten (choices p) best (found.none p (omega arith) (omega (arith, count, hi))) (omega (arith, there, hi))
      | inr less ↦ against_old (omega (arith, less)) (is_smaller (scores best.count) (scores d)) refl
    ]
      where
        old_within : old.count ≤ j + tried
        old_within = let w = best_within marks a b j tried old.count h.count in w.1

        against : is_smaller (scores best.count) (scores old.count) ≡ true
        against =
            let count : best.count ≡ j + tried + 1 + place = ap (λ (c : DepthCandidate). c.count) e ∙ next.count place lt in
            smaller_is marks a b best old (gains found.choice.one) h.gains ∙ beaten old best found.choice.not_before (omega (arith, count, old_within))

        against_old : d ≤ j + tried → (v : Bool) → is_smaller (scores best.count) (scores d) ≡ v → is_smaller (scores best.count) (scores d) ≡ true
        against_old within true ev = ev
        against_old within false ev =
            let back : NoGreater (scores d) (scores best.count) = not_smaller (scores d) (scores best.count) ev in
            let still : NoGreater (scores old.count) (scores best.count) = NoGreater-trans (scores old.count) (scores d) (scores best.count) (greedy_positive marks a b d) (best_no_greater marks a b j tried old h d lo within) back in
            let none : is_smaller (scores best.count) (scores old.count) ≡ false = no_smaller (scores old.count) (scores best.count) still in
            absurd (let h' : true ≡ false = sym against ∙ none in cc)

    -- the rest of the numbers after a part of them
    whole : (m k best_before : ℕ) → first_least scores j (range_with_len (j + 1) m) ≡ best_before → first_least scores j (range_with_len (j + 1) (m + k)) ≡ first_least scores best_before (range_with_len (j + 1 + m) k)
    whole m k best_before e = ap (first_least scores j) (range_append (j + 1) m k) ∙ first_least-append scores j (range_with_len (j + 1) m) (range_with_len (j + 1 + m) k) ∙ ap (λ (x : ℕ). first_least scores x (range_with_len (j + 1 + m) k)) e

    old_count : best ≡ old → best.count ≡ first_least scores j (range_with_len (j + 1) (tried + n))
    old_count e =
        let same : best.count ≡ first_least scores j (range_with_len (j + 1) tried) = ap (λ (c : DepthCandidate). c.count) e ∙ h.count in
        sym (whole tried n best.count (sym same) ∙ none_better scores best.count (j + 1 + tried) n (λ d lo hi. later d (omega (arith, lo)) (omega (arith, hi))))

    new_count : (place : ℕ) → place < n → best ≡ choices place → best.count ≡ first_least scores j (range_with_len (j + 1) (tried + n))
    new_count place lt e =
        let count : best.count ≡ j + tried + 1 + place = ap (λ (c : DepthCandidate). c.count) e ∙ next.count place lt in
        let m = tried + place in
        let first = first_least scores j (range_with_len (j + 1) m) in
        let smaller : is_smaller (scores best.count) (scores first) ≡ true =
        first_least-all (λ d. is_smaller (scores best.count) (scores d) ≡ true) scores j (range_with_len (j + 1) m) (before place j lt e (omega arith) (omega (arith, count))) (range_all _ (j + 1) m (λ d lo hi. before place d lt e (omega (arith, lo)) (omega (arith, count, hi)))) in
        let here : j + 1 + m ≡ best.count = omega (arith, count) in
        let step : first_least scores first (range_with_len (j + 1 + m) (suc (n - (place + 1)))) ≡ best.count =
        ap (λ (x : ℕ). first_least scores first (range_with_len x (suc (n - (place + 1))))) here
        ∙ ap (λ (v : Bool). first_least scores (if v then best.count else first) (range_with_len (best.count + 1) (n - (place + 1)))) smaller
        ∙ none_better scores best.count (best.count + 1) (n - (place + 1)) (λ d lo hi. later d (omega (arith, lo, count)) (omega (arith, hi, count))) in
        let parts : m + suc (n - (place + 1)) ≡ tried + n = omega (arith, lt) in
        sym (ap (λ (x : ℕ). first_least scores j (range_with_len (j + 1) x)) (sym parts) ∙ whole m (suc (n - (place + 1))) first refl ∙ step)

    by_case : (best ≡ old) ⊎ ((place : ℕ) × ((0 ≤ place) × ((place < n) × (best ≡ choices place)))) → IsBest marks a b j (tried + n) best
    by_case (inl e) = record { gains = gains found.choice.one; count = old_count e; last = last }
    by_case (inr e) = record { gains = gains found.choice.one; count = new_count e.0 e.1.1.0 e.1.1.1; last = last }
