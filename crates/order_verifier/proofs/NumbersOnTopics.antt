-- The numbers of topics, topic by topic.
use Rattle.std.proofs.Common.{◌≡◌, ℕ, zero, suc, ◌+◌, List, [], ◌∷◌, map, take, Some, ap, ◌∙◌, arith, ℤ, ◌+ℤ◌}
use Rattle.std.specs.Prelude.{slice_get}
use Rattle.std.specs.List.{AllByRecursion, zip}
use Rattle.std.proofs.lemmas.Int.{ints}
use Rattle.desk_model.specs.Extremes.{Ends}
use Rattle.desk_model.specs.Verdict.{whole_sum}
use Rattle.order_certificate.specs.Claim.{NamedTopic}
use Rattle.order_certificate.specs.declared.certificate.TopicBound.{TopicBound}
use Rattle.order_verifier.specs.Checks.{OfTopic}
use Rattle.order_verifier.specs.Refusal.{Bounded, Compared, IsFirstFailing, OfEnds, topics_in}
use Rattle.order_verifier.proofs.FirstFailing.{all_more}
use Rattle.small_lemmas.proofs.Lists.{slice_get-zip}

module _ (c : Compared) (bounds : List TopicBound) (i : ℕ) (bound : TopicBound) (fact : Ends → Type 0) (at : slice_get bounds i ≡ Some bound) (of : OfTopic (topics_in c) i (λ t. OfEnds c t fact)) where
  pub bound_more : (P : Bounded → Type 0) → ((t : NamedTopic) → OfEnds c t fact → P (bound, t)) → AllByRecursion P (take i (zip bounds (topics_in c))) → AllByRecursion P (take (i + 1) (zip bounds (topics_in c)))
  bound_more P then h = all_more P (zip bounds (topics_in c)) i (bound, of.0) h (slice_get-zip bounds (topics_in c) i bound of.0 at of.1) (then of.0 of.2)

  pub bound_fails : (P F : Bounded → Type 0) → ((t : NamedTopic) → OfEnds c t fact → F (bound, t)) → AllByRecursion P (take i (zip bounds (topics_in c))) → IsFirstFailing P F (zip bounds (topics_in c)) i
  bound_fails P F then h = record { before = h; item = (bound, of.0); there = slice_get-zip bounds (topics_in c) i bound of.0 at of.1; fails = then of.0 of.2 }

-- one more in a sum
sum_next : {X : Type 0} (f : X → ℤ) (xs : List X) (i : ℕ) (x : X) → slice_get xs i ≡ Some x → whole_sum (map f (take (suc i) xs)) ≡ whole_sum (map f (take i xs)) +ℤ f x
sum_next f [] i x e = absurd (cc)
sum_next f (y ∷ xs) zero x e =
    let same : y ≡ x = cc in
    let value : f y ≡ f x = ap f same in omega (arith, ints, value)
sum_next f (y ∷ xs) (suc i) x e = let rest = sum_next f xs i x e in omega (arith, ints, rest)

pub sum_more : {X : Type 0} (f : X → ℤ) (xs : List X) (i : ℕ) (x : X) → slice_get xs i ≡ Some x → whole_sum (map f (take (i + 1) xs)) ≡ whole_sum (map f (take i xs)) +ℤ f x
sum_more f xs i x e = let next : i + 1 ≡ suc i = omega arith in ap (λ k. whole_sum (map f (take k xs))) next ∙ sum_next f xs i x e
