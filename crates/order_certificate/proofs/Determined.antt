-- The two sums of an open claim are determined.
use Rattle.std.proofs.Common.{◌≡◌, ℕ, Bool, List, [], ◌∷◌, refl, ap, sym, ◌∙◌, ℤ}
use Rattle.std.specs.Prelude.{neg_ℤ}
use Rattle.std.specs.List.{AllZip, zip}
use Rattle.small_lemmas.proofs.Numbers.{neg_twice}
use Rattle.desk_model.specs.Verdict.{whole_sum}
use Rattle.desk_model.specs.declared.types.MeasureName.{MeasureName}
use Rattle.desk_model.specs.declared.types.MeasureName.TheVariants.{Precision, Recall, RPrecision, Reciprocal, Biased, AveragePrecision}
use Rattle.measure_laws.specs.Ends.{IsUpperEnd, IsLowerEnd}
use Rattle.measure_laws.proofs.Unique.{smallest_unique}
use Rattle.order_certificate.specs.Claim.{NamedTopic}
use Rattle.order_certificate.specs.Evidence.{IsLowSum, IsHighSum}
use Rattle.order_certificate.specs.declared.certificate.TopicWitness.{TopicWitness}

one_upper : (m : MeasureName) (n : ℕ) (truth : ℕ → Bool) (a b : List ℕ) (z w : ℤ) → IsUpperEnd m n truth a b z → IsUpperEnd m n truth a b w → z ≡ w
one_upper (Precision k) n truth a b z w h g = smallest_unique _ z w h g
one_upper (Recall k) n truth a b z w h g = smallest_unique _ z w h g
one_upper RPrecision n truth a b z w h g = smallest_unique _ z w h g
one_upper Reciprocal n truth a b z w h g = smallest_unique _ z w h g
one_upper (Biased top bottom) n truth a b z w h g = h ∙ sym g
one_upper AveragePrecision n truth a b z w h g = h ∙ sym g

one_lower : (m : MeasureName) (n : ℕ) (truth : ℕ → Bool) (a b : List ℕ) (z w : ℤ) → IsLowerEnd m n truth a b z → IsLowerEnd m n truth a b w → z ≡ w
one_lower m n truth a b z w h k = sym (neg_twice z) ∙ ap neg_ℤ (one_upper m n truth b a (neg_ℤ z) (neg_ℤ w) h k) ∙ neg_twice w

-- where each number is determined, so is their list
one_list : {X : Type 0} (End : ℤ → X → Type 0) → ((z w : ℤ) (x : X) → End z x → End w x → z ≡ w) → (zs ws : List ℤ) (xs : List X) → AllZip End zs xs → AllZip End ws xs → zs ≡ ws
one_list End one [] [] [] h k = refl
one_list End one [] (w ∷ ws) [] h k = absurd k
one_list End one (z ∷ zs) ws [] h k = absurd h
one_list End one [] ws (x ∷ xs) h k = absurd h
one_list End one (z ∷ zs) [] (x ∷ xs) h k = absurd k
one_list End one (z ∷ zs) (w ∷ ws) (x ∷ xs) h k = ap (λ v. v ∷ zs) (one z w x h.0 k.0) ∙ ap (λ vs. w ∷ vs) (one_list End one zs ws xs h.1 k.1)

module _ (m : MeasureName) (a b : ℕ) (ws : List TopicWitness) (ts : List NamedTopic) (x y : ℤ) where
  pub one_low_sum : IsLowSum m a b ws ts x → IsLowSum m a b ws ts y → x ≡ y
  one_low_sum (xs, h, is_x) (ys, k, is_y) = is_x ∙ ap whole_sum (one_list _ (λ z w p. one_upper m _ _ _ _ z w) xs ys (zip ws ts) h k) ∙ sym is_y

  pub one_high_sum : IsHighSum m a b ws ts x → IsHighSum m a b ws ts y → x ≡ y
  one_high_sum (xs, h, is_x) (ys, k, is_y) = is_x ∙ ap whole_sum (one_list _ (λ z w p. one_lower m _ _ _ _ z w) xs ys (zip ws ts) h k) ∙ sym is_y
