-- The ends of a name are those of the least and of the most case, and of the swapped runs.
use Rattle.std.proofs.Common.{◌≡◌, ℕ, zero, suc, ◌+◌, ◌-◌, ◌<◌, ◌^◌, Bool, List, [], ◌∷◌, map, length, ℤ, ◌-ℤ◌, pos, ap, sym, ◌∙◌, refl, subst, arith}
use Rattle.std.specs.Prelude.{if◌then◌else◌}
use Rattle.std.specs.List.{range_with_len}
use Rattle.desk_model.specs.Ranking.{IsRanking, rank}
use Rattle.desk_model.specs.Fraction.{Fraction, IsAtLeast}
use Rattle.desk_model.specs.Score.{score}
use Rattle.desk_model.specs.Extremes.{Ends, IsSmallest, AreExtremes}
use Rattle.desk_model.specs.MeasureText.{IsMeasure}
use Rattle.desk_model.specs.Verdict.{whole_sum}
use Rattle.desk_model.specs.declared.types.Mark.{Mark}
use Rattle.desk_model.specs.declared.types.MeasureName.{MeasureName}
use Rattle.desk_model.specs.declared.types.MeasureName.TheVariants.{Precision, Recall, RPrecision, Reciprocal, Biased, AveragePrecision}
use Rattle.std.proofs.lemmas.List.Elements.{recursion_from_All}
use Rattle.desk_model.specs.Precisions.{true_ranks}
use Rattle.desk_model.specs.Score.{true_count}
use Rattle.measure_laws.specs.Parts.{ranked_sum, low_part, high_part, low_out_of, high_out_of, low_average, high_average}
use Rattle.measure_laws.specs.AverageEnds.{is_same_list}
use Rattle.measure_laws.proofs.AverageLeast.{ends_swapped as average_swapped}
use Rattle.desk_model.proofs.Agreement.{Agree, score_agree, values_agree, count_agree}
use Rattle.desk_model.proofs.Topics.{score-den}
use Rattle.measure_laws.specs.Cases.{least_truth}
use Rattle.measure_laws.specs.Ends.{HasEnds, IsUpperEnd, IsLowerEnd}
use Rattle.measure_laws.specs.Measures.{IsExactMeasure, unit_of}
use Rattle.measure_laws.specs.Powers.{low_power}
use Rattle.measure_laws.specs.Shares.{high_share}
use Rattle.measure_laws.proofs.LeastCases.{least_case_is_least}
use Rattle.measure_laws.proofs.LeastEnds.{at_least_no_greater}
use Rattle.measure_laws.proofs.Persistence.{ends_swapped}
use Rattle.measure_laws.proofs.Swapping.{swapped_ends, extremes_swapped}

-- the upper end of the least difference is the ceiling of that of the least case
exact_case : (m : MeasureName) (marks : List Mark) (a b : List ℕ) (e : Ends) → IsMeasure m → IsExactMeasure m → IsRanking (length marks) a → IsRanking (length marks) b → AreExtremes m (unit_of m) marks a b e →
    IsSmallest (λ w. IsAtLeast w (unit_of m) (score m (length marks) (least_truth m marks a b) a []) (score m (length marks) (least_truth m marks a b) b [])) e.least_hi
exact_case m marks a b e valid exact ra rb h =
    let case = least_case_is_least m marks a b valid exact ra rb in
    let some = h.least_hi.so in
    record {
      so = at_least_no_greater e.least_hi (unit_of m) _ _ _ _ (score-den m _ _ _ _) (score-den m _ _ _ _) some.4 (case.least some.0 some.1 some.2 some.3);
      others = λ w k. h.least_hi.others w (least_truth m marks a b, [], [], case.completes, k);
    }

pub least_case_upper : (m : MeasureName) (marks : List Mark) (a b : List ℕ) (e : Ends) → IsMeasure m → IsRanking (length marks) a → IsRanking (length marks) b → HasEnds m marks a b e → IsUpperEnd m (length marks) (least_truth m marks a b) a b e.least_hi
least_case_upper (Precision k) marks a b e valid ra rb h = exact_case (Precision k) marks a b e valid tt ra rb h
least_case_upper (Recall k) marks a b e valid ra rb h = exact_case (Recall k) marks a b e valid tt ra rb h
least_case_upper RPrecision marks a b e valid ra rb h = exact_case RPrecision marks a b e valid tt ra rb h
least_case_upper Reciprocal marks a b e valid ra rb h = exact_case Reciprocal marks a b e valid tt ra rb h
least_case_upper (Biased top bottom) marks a b e valid ra rb h = ap (λ (x : Ends). x.least_hi) h
least_case_upper AveragePrecision marks a b e valid ra rb h = ap (λ (x : Ends). x.least_hi) h

pub named_swapped : (m : MeasureName) (marks : List Mark) (a b : List ℕ) (e : Ends) → IsMeasure m → IsRanking (length marks) a → IsRanking (length marks) b → HasEnds m marks a b e → HasEnds m marks b a (swapped_ends e)
named_swapped (Precision k) marks a b e valid ra rb h = extremes_swapped (Precision k) k marks a b e h
named_swapped (Recall k) marks a b e valid ra rb h = extremes_swapped (Recall k) (10 ^ 18) marks a b e h
named_swapped RPrecision marks a b e valid ra rb h = extremes_swapped RPrecision (10 ^ 18) marks a b e h
named_swapped Reciprocal marks a b e valid ra rb h = extremes_swapped Reciprocal (10 ^ 18) marks a b e h
named_swapped (Biased top bottom) marks a b e valid ra rb h = ap swapped_ends h ∙ sym (ends_swapped top bottom marks a b valid ra rb)
named_swapped AveragePrecision marks a b e valid ra rb h = ap swapped_ends h ∙ sym (average_swapped marks a b)

pub most_case_lower : (m : MeasureName) (marks : List Mark) (a b : List ℕ) (e : Ends) → IsMeasure m → IsRanking (length marks) a → IsRanking (length marks) b → HasEnds m marks a b e → IsLowerEnd m (length marks) (least_truth m marks b a) a b e.most_lo
most_case_lower m marks a b e valid ra rb h = least_case_upper m marks b a (swapped_ends e) valid rb ra (named_swapped m marks a b e valid ra rb h)

-- ---- an upper end looks at the universe alone
taken_agree : (f : ℕ → ℤ) (s t : ℕ → Bool) (start n : ℕ) → ((doc : ℕ) → doc < start + n → s doc ≡ t doc) →
    map (λ doc. if s doc then f doc else pos 0) (range_with_len start n) ≡ map (λ doc. if t doc then f doc else pos 0) (range_with_len start n)
taken_agree f s t start zero h = refl
taken_agree f s t start (suc n) h =
    let later = map (λ doc. if s doc then f doc else pos 0) (range_with_len (start + 1) n) in
    let here : ℤ = if t start then f start else pos 0 in
    ap (λ (v : Bool). (if v then f start else pos 0) ∷ later) (h start (omega arith)) ∙ ap (λ vs. here ∷ vs) (taken_agree f s t (start + 1) n (λ doc k. h doc (omega arith)))

exact_agree : (m : MeasureName) (n : ℕ) (s t : ℕ → Bool) (a b : List ℕ) (z : ℤ) → IsRanking n a → IsRanking n b → Agree n s t →
    IsSmallest (λ w. IsAtLeast w (unit_of m) (score m n s a []) (score m n s b [])) z → IsSmallest (λ w. IsAtLeast w (unit_of m) (score m n t a []) (score m n t b [])) z
exact_agree m n s t a b z ra rb same h =
    subst (λ (x : Fraction). IsSmallest (λ w. IsAtLeast w (unit_of m) x (score m n t b [])) z) (score_agree m n s t a [] ra same)
    (subst (λ (y : Fraction). IsSmallest (λ w. IsAtLeast w (unit_of m) (score m n s a []) y) z) (score_agree m n s t b [] rb same) h)

average_agree : (out_of : ℕ → ℕ → ℕ) (part : ℕ → ℕ → ℕ) (n : ℕ) (s t : ℕ → Bool) (docs : List ℕ) → IsRanking n docs → Agree n s t →
    out_of (ranked_sum part 1 (true_ranks 1 (map s docs))) (true_count s n) ≡ out_of (ranked_sum part 1 (true_ranks 1 (map t docs))) (true_count t n)
average_agree out_of part n s t docs r h =
    ap (λ gains. out_of (ranked_sum part 1 (true_ranks 1 gains)) (true_count s n)) (values_agree n s t docs (recursion_from_All (λ d. d < n) docs r.within) h)
    ∙ ap (out_of (ranked_sum part 1 (true_ranks 1 (map t docs)))) (count_agree n s t h)

pub upper_agree : (m : MeasureName) (n : ℕ) (s t : ℕ → Bool) (a b : List ℕ) (z : ℤ) → IsRanking n a → IsRanking n b → Agree n s t → IsUpperEnd m n s a b z → IsUpperEnd m n t a b z
upper_agree (Precision k) n s t a b z ra rb same h = exact_agree (Precision k) n s t a b z ra rb same h
upper_agree (Recall k) n s t a b z ra rb same h = exact_agree (Recall k) n s t a b z ra rb same h
upper_agree RPrecision n s t a b z ra rb same h = exact_agree RPrecision n s t a b z ra rb same h
upper_agree Reciprocal n s t a b z ra rb same h = exact_agree Reciprocal n s t a b z ra rb same h
upper_agree (Biased top bottom) n s t a b z ra rb same h =
    h ∙ ap (λ (zs : List ℤ). whole_sum zs -ℤ pos (low_power top bottom (length b) - 1)) (taken_agree (λ doc. high_share top bottom (rank a doc) (rank b doc)) s t 0 n (λ doc k. same doc (omega arith)))
upper_agree AveragePrecision n s t a b z ra rb same h =
    let one : low_average n s b ≡ low_average n t b = average_agree low_out_of low_part n s t b rb same in
    let other : high_average n s a ≡ high_average n t a = average_agree high_out_of high_part n s t a ra same in
    h ∙ ap (λ (w : ℕ). if is_same_list a b then pos 0 else pos w -ℤ pos (low_average n s b)) other ∙ ap (λ (w : ℕ). if is_same_list a b then pos 0 else pos (high_average n t a) -ℤ pos w) one
