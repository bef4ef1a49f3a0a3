-- A score looks at the truth values of the universe alone.
use Rattle.std.proofs.Common.{◌≡◌, ℕ, zero, suc, ◌+◌, ◌<◌, Bool, cond, List, [], ◌∷◌, ◌++◌, map, take, count_by, Some, arith, refl, ap, ◌∙◌}
use Rattle.std.specs.List.{AllByRecursion, range_with_len, position_from}
use Rattle.std.proofs.lemmas.List.Elements.{recursion_from_All}
use Rattle.desk_model.specs.Ranking.{IsRanking}
use Rattle.desk_model.specs.Fraction.{over}
use Rattle.desk_model.specs.Precisions.{true_ranks, mean_precision}
use Rattle.desk_model.specs.Score.{true_among, true_count, reciprocal, biased, score}
use Rattle.desk_model.specs.declared.types.MeasureName.{MeasureName}
use Rattle.desk_model.specs.declared.types.MeasureName.TheVariants.{Precision, Recall, RPrecision, Reciprocal, Biased, AveragePrecision}
use Rattle.desk_model.proofs.Counts.{one_if, count_by-cons, count_by-agree}
use Rattle.desk_model.proofs.PrecisionEnds.{weaker, prefix_within}

-- truth values that agree on a universe
abbrev pub Agree : ℕ → (ℕ → Bool) → (ℕ → Bool) → Type 0
Agree n s t = (doc : ℕ) → doc < n → s doc ≡ t doc

among_agree : (k n : ℕ) (s t : ℕ → Bool) (docs : List ℕ) → IsRanking n docs → Agree n s t → true_among s k docs ≡ true_among t k docs
among_agree k n s t docs r h = count_by-agree s t (take k docs) (weaker (λ d. d < n) (λ d. s d ≡ t d) h (take k docs) (prefix_within k n docs r))

range_agree : (s t : ℕ → Bool) (a n : ℕ) → ((doc : ℕ) → doc < a + n → s doc ≡ t doc) → count_by s (range_with_len a n) ≡ count_by t (range_with_len a n)
range_agree s t a zero h = refl
range_agree s t a (suc n) h =
    omega (arith, count_by-cons s a (range_with_len (a + 1) n), count_by-cons t a (range_with_len (a + 1) n), ap one_if (h a (omega arith)), range_agree s t (a + 1) n (λ doc k. h doc (omega arith)))

pub count_agree : (n : ℕ) (s t : ℕ → Bool) → Agree n s t → true_count s n ≡ true_count t n
count_agree n s t h = range_agree s t 0 n (λ doc k. h doc (omega arith))

first_agree : (n rank : ℕ) (s t : ℕ → Bool) (docs : List ℕ) → AllByRecursion (λ d. d < n) docs → Agree n s t → position_from s rank docs ≡ position_from t rank docs
first_agree n rank s t [] w h = refl
first_agree n rank s t (x ∷ xs) w h =
    ap (λ v. cond v (Some rank) (position_from s (rank + 1) xs)) (h x w.0) ∙ ap (λ p. cond (t x) (Some rank) p) (first_agree n (rank + 1) s t xs w.1 h)

pub values_agree : (n : ℕ) (s t : ℕ → Bool) (docs : List ℕ) → AllByRecursion (λ d. d < n) docs → Agree n s t → map s docs ≡ map t docs
values_agree n s t [] w h = refl
values_agree n s t (x ∷ xs) w h = ap (λ v. v ∷ map s xs) (h x w.0) ∙ ap (λ vs. t x ∷ vs) (values_agree n s t xs w.1 h)

pub score_agree : (m : MeasureName) (n : ℕ) (s t : ℕ → Bool) (docs : List ℕ) (tail : List Bool) → IsRanking n docs → Agree n s t → score m n s docs tail ≡ score m n t docs tail
score_agree (Precision k) n s t docs tail r h = ap (λ x. over x k) (among_agree k n s t docs r h)
score_agree (Recall k) n s t docs tail r h =
    ap (λ x. over x (true_count s n)) (among_agree k n s t docs r h) ∙ ap (over (true_among t k docs)) (count_agree n s t h)
score_agree RPrecision n s t docs tail r h =
    ap (λ k. over (true_among s k docs) k) (count_agree n s t h) ∙ ap (λ x. over x (true_count t n)) (among_agree (true_count t n) n s t docs r h)
score_agree Reciprocal n s t docs tail r h = ap reciprocal (first_agree n 1 s t docs (recursion_from_All (λ d. d < n) docs r.within) h)
score_agree (Biased top bottom) n s t docs tail r h = ap (λ gains. biased top bottom (gains ++ tail)) (values_agree n s t docs (recursion_from_All (λ d. d < n) docs r.within) h)
score_agree AveragePrecision n s t docs tail r h =
    ap (λ gains. mean_precision (true_ranks 1 gains) (true_count s n)) (values_agree n s t docs (recursion_from_All (λ d. d < n) docs r.within) h) ∙ ap (mean_precision (true_ranks 1 (map t docs))) (count_agree n s t h)
