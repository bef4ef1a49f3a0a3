-- A score by grades is the mean of the scores at each level.
use Rattle.std.proofs.Common.{◌≡◌, ℕ, zero, suc, ◌+◌, ◌-◌, ◌*◌, ◌^◌, ◌<◌, ◌≤◌, Bool, cond, List, [], ◌∷◌, ◌++◌, map, length, count_by, get_or, Option, Some, None, ℤ, pos, negsuc, arith, ap, refl, sym, subst, ◌∙◌, inl, inr}
use Rattle.std.specs.Prelude.{if◌then◌else◌, nat_le}
use Rattle.std.specs.List.{range_with_len, AllByRecursion}
use Rattle.std.proofs.Math.Nat.{one-le-pow}
use Rattle.std.proofs.lemmas.Bool.{cases_lt, le-leb, lt-leb}
use Rattle.std.proofs.lemmas.List.{map-append, length-map}
use Rattle.std.proofs.lemmas.List.Elements.{All-map, All-append, recursion_from_All}
use Rattle.std.proofs.lemmas.List.FromFn.{length-map-range_with_len}
use Rattle.std.proofs.lemmas.List.Sums.{sum_by-cons}
use Rattle.std.proofs.lemmas.Simd.{map-map}
use Rattle.desk_model.specs.Fraction.{Fraction, over, plus, total, mean, IsSame}
use Rattle.desk_model.specs.Order.{run_score, run_scores}
use Rattle.desk_model.specs.Ranking.{IsRanking}
use Rattle.desk_model.specs.Score.{gained, biased}
use Rattle.graded_rbp.specs.Grades.{GradedTopic, GradedCompletion, AllowsNumber, CompletesGrades, IsGradedCompletion, grade_at}
use Rattle.graded_rbp.specs.Levels.{levels, level_topic, level_topics, level_completion, level_completions}
use Rattle.graded_rbp.specs.Score.{GradedMeasure, IsGradedMeasure, binary, gained_by_grades, graded_biased, graded_score, graded_scores}
use Rattle.graded_rbp.proofs.Fractions.{ratio, IsTimes, times_plus, times_zeros, total_plus, total_common, added, added_plus, added_times, added_nothing, one_each}

-- a run ranks documents of the topic
abbrev pub IsRankedIn : ℕ → GradedTopic → Type 0
IsRankedIn run topic = IsRanking (length topic.grades) (topic.ranking run)

-- ---- a number is how many levels it reaches
reached : (v n s k : ℕ) → n + 1 ≤ s + k → added (λ (l : ℕ). if nat_le l n then v else 0) (range_with_len s k) ≡ (n + 1 - s) * v
reached v n s zero h =
    let none : n + 1 - s ≡ 0 = omega arith in
    omega (arith, ap (λ m. m * v) none)
reached v n s (suc k) h =
    let rest = reached v n (s + 1) k (omega arith) in
    elim (cases_lt n s) [
      | inl less ↦
          let off : (if nat_le s n then v else 0) ≡ 0 = ap (λ (t : Bool). if t then v else 0) (lt-leb s n less) in
          let here : n + 1 - s ≡ 0 = omega arith in
          let later : n + 1 - (s + 1) ≡ 0 = omega arith in
          omega (arith, off, rest, ap (λ m. m * v) here, ap (λ m. m * v) later)
      | inr more ↦
          let on : (if nat_le s n then v else 0) ≡ v = ap (λ (t : Bool). if t then v else 0) (le-leb s n more) in
          let one : n + 1 - s ≡ n + 1 - (s + 1) + 1 = omega arith in
          omega (arith, on, rest, ap (λ m. m * v) one)
    ]

counted : (p : ℕ → Bool) (xs : List ℕ) → count_by p xs ≡ added (λ (x : ℕ). if p x then 1 else 0) xs
counted p [] = refl
counted p (x ∷ xs) = sum_by-cons (λ y. cond (p y) 1 0) x xs ∙ ap (λ n. cond (p x) 1 0 + n) (counted p xs)

pub levels_reached : (greatest n : ℕ) → n ≤ greatest → count_by (λ level. nat_le level n) (levels greatest) ≡ n
levels_reached greatest n h =
    let reach = reached 1 n 1 greatest (omega arith) in
    omega (arith, counted (λ level. nat_le level n) (levels greatest), reach)

gained_levels : (worth : ℕ → ℕ) (greatest rank : ℕ) (ns : List ℕ) → AllByRecursion (λ n. n ≤ greatest) ns → added (λ (l : ℕ). gained worth rank (map (nat_le l) ns)) (levels greatest) ≡ gained_by_grades worth rank ns
gained_levels worth greatest rank [] h = added_nothing (levels greatest)
gained_levels worth greatest rank (n ∷ ns) h =
    let both = added_plus (λ (l : ℕ). if nat_le l n then worth rank else 0) (λ (l : ℕ). gained worth (rank + 1) (map (nat_le l) ns)) (levels greatest) in
    let here = reached (worth rank) n 1 greatest (omega (arith, h.0)) in
    let size : n + 1 - 1 ≡ n = omega arith in
    omega (arith, both, here, ap (λ m. m * worth rank) size, gained_levels worth greatest (rank + 1) ns h.1)

-- ---- one list of numbers
positive_over : (n d : ℕ) → 0 < d → over n d ≡ ratio n d
positive_over n zero h = absurd (omega arith)
positive_over n (suc d) h = refl

pub map_each : {X Y : Type 0} (f g : X → Y) → ((x : X) → f x ≡ g x) → (xs : List X) → map f xs ≡ map g xs
map_each f g h [] = refl
map_each f g h (x ∷ xs) = ap (λ y. y ∷ map f xs) (h x) ∙ ap (λ ys. g x ∷ ys) (map_each f g h xs)

times_of : (k n d s ynum yden : ℕ) → ynum * d ≡ s * yden → s ≡ n → n * yden * k ≡ ynum * (k * d)
times_of k n d s ynum yden common e = omega (arith, ap (λ v. k * v) common, ap (λ v. v * yden * k) e)

-- what a run scores at a level on a topic, and the sum over all topics
abbrev pub score_at : GradedMeasure → ℕ → GradedTopic → GradedCompletion → ℕ → Fraction
score_at m run topic c level = run_score (binary m) run (level_topic level topic) (level_completion level c)

abbrev pub total_at : GradedMeasure → ℕ → List GradedTopic → List GradedCompletion → ℕ → Fraction
total_at m run topics cs level = total (run_scores (binary m) run (level_topics level topics) (level_completions level cs))

module _ (m : GradedMeasure) (valid : IsGradedMeasure m) where
  bottom_positive : 0 < m.bottom
  bottom_positive = omega (arith, valid.persistence.below_one)

  module _ (ns : List ℕ) where
    abbrev worth : ℕ → ℕ
    worth rank = m.top ^ (rank - 1) * m.bottom ^ (length ns - rank)

    abbrev part : ℕ → ℕ
    part l = (m.bottom - m.top) * gained worth 1 (map (nat_le l) ns)

    some : 0 < m.bottom ^ length ns
    some = one-le-pow (length ns) m.bottom bottom_positive

    level_biased : (l : ℕ) → biased m.top m.bottom (map (nat_le l) ns) ≡ ratio (part l) (m.bottom ^ length ns)
    level_biased l =
        ap (λ k. over ((m.bottom - m.top) * gained (λ rank. m.top ^ (rank - 1) * m.bottom ^ (k - rank)) 1 (map (nat_le l) ns)) (m.bottom ^ k)) (length-map ns (nat_le l))
        ∙ positive_over (part l) (m.bottom ^ length ns) some

    biased_times : AllByRecursion (λ n. n ≤ m.greatest) ns → IsTimes m.greatest (graded_biased m ns) (total (map (λ l. biased m.top m.bottom (map (nat_le l) ns)) (levels m.greatest)))
    biased_times small =
        let fs : ℕ → Fraction = λ l. ratio (part l) (m.bottom ^ length ns) in
        let whole = (m.bottom - m.top) * gained_by_grades worth 1 ns in
        let y = total (map fs (levels m.greatest)) in
        let sums : added part (levels m.greatest) ≡ whole =
        added_times (m.bottom - m.top) (λ l. gained worth 1 (map (nat_le l) ns)) (levels m.greatest) ∙ ap (λ s. (m.bottom - m.top) * s) (gained_levels worth m.greatest 1 ns small) in
        let graded : graded_biased m ns ≡ ratio whole (m.greatest * m.bottom ^ length ns) = positive_over whole (m.greatest * m.bottom ^ length ns) (one_each m.greatest (m.bottom ^ length ns) valid.some some) in
        let same : total (map (λ l. biased m.top m.bottom (map (nat_le l) ns)) (levels m.greatest)) ≡ y = ap total (map_each (λ l. biased m.top m.bottom (map (nat_le l) ns)) fs level_biased (levels m.greatest)) in
        let times : IsTimes m.greatest (ratio whole (m.greatest * m.bottom ^ length ns)) y =
        times_of m.greatest whole (m.bottom ^ length ns) (added part (levels m.greatest)) y.num y.den (total_common part (m.bottom ^ length ns) (levels m.greatest)) sums in
        subst (λ (x : Fraction). IsTimes m.greatest x (total (map (λ l. biased m.top m.bottom (map (nat_le l) ns)) (levels m.greatest)))) (sym graded)
        (subst (λ (z : Fraction). IsTimes m.greatest (ratio whole (m.greatest * m.bottom ^ length ns)) z) (sym same) times)

  -- ---- one topic
  module _ (run : ℕ) where
    allowed_small : (n : ℕ) (grade : Option ℤ) → AllowsNumber m.greatest grade n → n ≤ m.greatest
    allowed_small n None h = h
    allowed_small n (Some (negsuc _)) h = h
    allowed_small n (Some (pos grade)) h = omega (arith, h)

    numbers_small : (topic : GradedTopic) (c : GradedCompletion) → CompletesGrades m.greatest topic c → IsRankedIn run topic → AllByRecursion (λ n. n ≤ m.greatest) (map c.number (topic.ranking run) ++ c.tail run)
    numbers_small topic c h ranked =
        let docs = topic.ranking run in
        recursion_from_All (λ n. n ≤ m.greatest) (map c.number docs ++ c.tail run)
        (All-append (λ n. n ≤ m.greatest) (map c.number docs) (c.tail run)
        (All-map (λ n. n ≤ m.greatest) c.number docs (λ k d lt. allowed_small (c.number (get_or docs k d)) (grade_at topic.grades (get_or docs k d)) (h.allowed (get_or docs k d) (ranked.within k d lt))))
        (h.tails run))

    level_gains : (l : ℕ) (number : ℕ → ℕ) (docs tail : List ℕ) → map (nat_le l) (map number docs ++ tail) ≡ map (λ doc. nat_le l (number doc)) docs ++ map (nat_le l) tail
    level_gains l number docs tail = map-append (nat_le l) (map number docs) tail ∙ ap (λ zs. zs ++ map (nat_le l) tail) (map-map (nat_le l) number docs)

    topic_times : (topic : GradedTopic) (c : GradedCompletion) → CompletesGrades m.greatest topic c → IsRankedIn run topic → IsTimes m.greatest (graded_score m run topic c) (total (map (score_at m run topic c) (levels m.greatest)))
    topic_times topic c h ranked =
        let ns = map c.number (topic.ranking run) ++ c.tail run in
        subst (λ (zs : List Fraction). IsTimes m.greatest (graded_score m run topic c) (total zs))
        (map_each (λ l. biased m.top m.bottom (map (nat_le l) ns)) (score_at m run topic c) (λ l. ap (biased m.top m.bottom) (level_gains l c.number (topic.ranking run) (c.tail run))) (levels m.greatest))
        (biased_times ns (numbers_small topic c h ranked))

    same_mean : (k : ℕ) (x : Fraction) (xs : List Fraction) → length xs ≡ k → IsTimes k x (total xs) → IsSame x (mean xs)
    same_mean k x xs e h = omega (arith, ap (λ s. x.num * ((total xs).den * s)) e, h)

    pub score_is_mean : (topic : GradedTopic) (c : GradedCompletion) → CompletesGrades m.greatest topic c → IsRankedIn run topic → IsSame (graded_score m run topic c) (mean (map (score_at m run topic c) (levels m.greatest)))
    score_is_mean topic c h ranked =
        same_mean m.greatest (graded_score m run topic c) (map (score_at m run topic c) (levels m.greatest)) (length-map-range_with_len (score_at m run topic c) 1 m.greatest) (topic_times topic c h ranked)

    -- ---- all topics
    pub totals_times : (topics : List GradedTopic) (cs : List GradedCompletion) → IsGradedCompletion m.greatest topics cs → AllByRecursion (IsRankedIn run) topics →
        IsTimes m.greatest (total (graded_scores m run topics cs)) (total (map (total_at m run topics cs) (levels m.greatest)))
    totals_times [] [] h ranked = times_zeros m.greatest (levels m.greatest)
    totals_times [] (c ∷ cs) h ranked = absurd h
    totals_times (t ∷ ts) [] h ranked = absurd h
    totals_times (t ∷ ts) (c ∷ cs) h ranked =
        subst (λ (z : Fraction). IsTimes m.greatest (plus (graded_score m run t c) (total (graded_scores m run ts cs))) z)
        (sym (total_plus (score_at m run t c) (total_at m run ts cs) (levels m.greatest)))
        (times_plus m.greatest (graded_score m run t c) (total (map (score_at m run t c) (levels m.greatest))) (total (graded_scores m run ts cs)) (total (map (total_at m run ts cs) (levels m.greatest)))
        (topic_times t c h.0 ranked.0) (totals_times ts cs h.1 ranked.1))

    pub length-graded_scores : (topics : List GradedTopic) (cs : List GradedCompletion) → IsGradedCompletion m.greatest topics cs → length (graded_scores m run topics cs) ≡ length topics
    length-graded_scores [] cs h = refl
    length-graded_scores (t ∷ ts) [] h = absurd h
    length-graded_scores (t ∷ ts) (c ∷ cs) h = ap suc (length-graded_scores ts cs h.1)
