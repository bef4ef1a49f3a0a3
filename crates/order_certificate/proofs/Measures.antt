-- Measures as they are printed.
use Rattle.std.proofs.Common.{◌≡◌, ◌≢◌, ℕ, ◌+◌, ◌^◌, ◌%◌, ◌<◌, ◌≤◌, List, [], ◌∷◌, ◌++◌, length, drop, refl, ap, sym, subst, ◌∙◌, arith, rules, inl, inr, append-nil, length-append, length-drop}
use Rattle.std.specs.Prelude.{codes, decimal}
use Rattle.std.proofs.lemmas.Bool.{cases_eq}
use Rattle.std.proofs.lemmas.Fmt.{length-decimal-le}
use Rattle.std.proofs.Math.Nat.{pow-le-pow_right}
use Rattle.desk_model.specs.MeasureText.{measure_text, persistence_digits, IsDepth, IsMeasure, IsTextOf}
use Rattle.desk_model.specs.declared.types.MeasureName.{MeasureName}
use Rattle.desk_model.specs.declared.types.MeasureName.TheVariants.{Precision, Recall, RPrecision, Reciprocal, Biased, AveragePrecision}
use Rattle.line_forms.proofs.Cuts.{AreAbove, above-append, above_less}
use Rattle.line_forms.proofs.Lengths.{decimal_most}
use Rattle.line_forms.proofs.Shown.{decimal_above}
use Rattle.line_forms.proofs.Tested.{Known, Found, both, same_known, other, at_most, below, same_list, try_all, numbers_found, range_known, word_found}

rest_above : (n : ℕ) (w : List ℕ) → AreAbove n w → AreAbove n (drop 1 w)
rest_above n [] h = tt
rest_above n (b ∷ bs) h = h.1

digits_in_line : (w : List ℕ) → AreAbove 47 w → AreAbove 10 w
digits_in_line w h = above_less 10 47 w (omega arith) h

pub measure_above : (name : MeasureName) → AreAbove 10 (measure_text name)
measure_above (Precision k) = above-append 10 (codes "P_") (decimal k) (search rules) (digits_in_line (decimal k) (decimal_above k))
measure_above (Recall k) = above-append 10 (codes "recall_") (decimal k) (search rules) (digits_in_line (decimal k) (decimal_above k))
measure_above RPrecision = search rules
measure_above Reciprocal = search rules
measure_above AveragePrecision = search rules
measure_above (Biased top bottom) = above-append 10 (codes "rbp_0.") (drop 1 (decimal (bottom + top))) (search rules) (rest_above 10 (decimal (bottom + top)) (digits_in_line (decimal (bottom + top)) (decimal_above (bottom + top))))

-- a measure that is printed has that text
pub measure_is_text : (m : MeasureName) → IsMeasure m → IsTextOf m (measure_text m)
measure_is_text (Precision k) h = refl
measure_is_text (Recall k) h = refl
measure_is_text RPrecision h = refl
measure_is_text Reciprocal h = refl
measure_is_text AveragePrecision h = refl
measure_is_text (Biased top bottom) h =
    let ds = persistence_digits top bottom in
    let most : 10 ^ h.decimals ≤ 10 ^ 6 = pow-le-pow_right {n = 10} (omega arith) h.few in
    let power : bottom ≡ 10 ^ h.decimals = h.power in
    let below : top < bottom = h.below_one in
    let short : length (decimal (bottom + top)) ≤ 7 = length-decimal-le 7 (bottom + top) (omega arith) (omega arith) (omega arith) in
    (0, ap (λ rest. codes "rbp_0." ++ rest) (sym (append-nil ds)), omega (arith, length-drop 1 (decimal (bottom + top))))

-- ---- how long they are
pub measure_most : (m : MeasureName) → IsMeasure m → length (measure_text m) ≤ 30
measure_most (Precision k) h = let most = decimal_most k (omega (arith, h)) in omega (arith, length-append (codes "P_") (decimal k))
measure_most (Recall k) h = let most = decimal_most k (omega (arith, h)) in omega (arith, length-append (codes "recall_") (decimal k))
measure_most RPrecision h = omega arith
measure_most Reciprocal h = omega arith
measure_most AveragePrecision h = omega arith
measure_most (Biased top bottom) h =
    let most : 10 ^ h.decimals ≤ 10 ^ 6 = pow-le-pow_right {n = 10} (omega arith) h.few in
    let power : bottom ≡ 10 ^ h.decimals = h.power in
    let below : top < bottom = h.below_one in
    let short = decimal_most (bottom + top) (omega arith) in
    omega (arith, length-append (codes "rbp_0.") (persistence_digits top bottom), length-drop 1 (decimal (bottom + top)))

-- ---- which texts are printed measures can be tested
-- so many decimals, and the number that they make
abbrev IsShortest : ℕ → ℕ → Type 0
IsShortest decimals top = (1 ≤ decimals) × (decimals ≤ 6) × (0 < top) × (top < 10 ^ decimals) × (top % 10 ≢ 0)

abbrev biased_text : ℕ → ℕ → List ℕ
biased_text decimals top = measure_text (Biased top (10 ^ decimals))

shortest_known : (decimals top : ℕ) → Known (IsShortest decimals top)
shortest_known decimals top =
    same_known (λ p. (p.0.0, p.0.1, p.1.0.0, p.1.0.1, p.1.1)) (λ s. ((s.0, s.1), ((s.2, s.3), s.4)))
    (both (both (at_most 1 decimals) (at_most decimals 6)) (both (both (below 0 top) (below top (10 ^ decimals))) (other (cases_eq (top % 10) 0))))

-- the persistences of so many decimals
tops_known : (text : List ℕ) (decimals : ℕ) → Known ((top : ℕ) × IsShortest decimals top × (text ≡ biased_text decimals top))
tops_known text decimals = elim (numbers_found (biased_text decimals) (IsShortest decimals) (10 ^ decimals) (shortest_known decimals) (λ top fits. fits.3) text) [
  | inl h ↦ inl (h.0, h.1, h.2)
  | inr none ↦ inr (λ h. none h.0 h.1 h.2)
]

depth_found : (show : ℕ → List ℕ) (text : List ℕ) → Found show IsDepth text
depth_found show text = numbers_found show IsDepth 10001 (range_known 10000) (λ n fits. omega (arith, fits)) text

measures_found : (text : List ℕ) → Found measure_text IsMeasure text
measures_found text = elim (depth_found (λ k. measure_text (Precision k)) text) [
  | inl h ↦ inl (Precision h.0, h.1, h.2)
  | inr p ↦ elim (depth_found (λ k. measure_text (Recall k)) text) [
    | inl h ↦ inl (Recall h.0, h.1, h.2)
    | inr r ↦ elim (same_list text (measure_text RPrecision)) [
      | inl e ↦ inl (RPrecision, tt, e)
      | inr s ↦ elim (same_list text (measure_text Reciprocal)) [
        | inl e ↦ inl (Reciprocal, tt, e)
        | inr t ↦ elim (same_list text (measure_text AveragePrecision)) [
          | inl e ↦ inl (AveragePrecision, tt, e)
          | inr v ↦ elim (try_all (λ decimals. (top : ℕ) × IsShortest decimals top × (text ≡ biased_text decimals top)) (tops_known text) 7) [
            | inl h ↦
                let fits = h.1.1 in
                inl (Biased h.1.0 (10 ^ h.0), record { decimals = h.0; some = fits.0; few = fits.1; power = refl; positive = fits.2; below_one = fits.3; shortest = fits.4 }, h.1.2)
            | inr none ↦ inr (by p r s t v none)
          ]
        ]
      ]
    ]
  ]
]
  where
    by : ((k : ℕ) → IsDepth k → text ≢ measure_text (Precision k)) → ((k : ℕ) → IsDepth k → text ≢ measure_text (Recall k)) → text ≢ measure_text RPrecision → text ≢ measure_text Reciprocal → text ≢ measure_text AveragePrecision →
        ((d : ℕ) → d < 7 → (top : ℕ) × IsShortest d top × (text ≡ biased_text d top) → ⊥) → (m : MeasureName) → IsMeasure m → text ≢ measure_text m
    by p r s t v none (Precision k) fits e = p k fits e
    by p r s t v none (Recall k) fits e = r k fits e
    by p r s t v none RPrecision fits e = s e
    by p r s t v none Reciprocal fits e = t e
    by p r s t v none AveragePrecision fits e = v e
    by p r s t v none (Biased top bottom) fits e =
        none fits.decimals (omega (arith, fits.few)) (top, (fits.some, fits.few, fits.positive, subst (λ (b : ℕ). top < b) fits.power fits.below_one, fits.shortest), e ∙ ap (λ (b : ℕ). measure_text (Biased top b)) fits.power)

pub measure_found : (line : List ℕ) → Found (λ measure. codes "measure " ++ measure_text measure) IsMeasure line
measure_found line = word_found (codes "measure ") measure_text IsMeasure measures_found line
