-- One more place.
use Rattle.std.proofs.Common.{◌≡◌, ℕ, ◌+◌, ◌-◌, ◌*◌, ◌/◌, ◌^◌, ◌<◌, List, [], ◌∷◌, ◌++◌, length, slice_index_or, arith, ap, ◌∙◌, sym, refl, add-one}
use Rattle.std.proofs.lemmas.Grind.{common_steps}
use Rattle.measure_laws.specs.Powers.{ceil_div, low_power, high_power}
use Rattle.topic_counts.specs.Places.{place_of}

pub low_first : (a b : ℕ) → 10 ^ 18 ≡ low_power a b 0
unfolding low_power
low_first a b = refl

pub high_first : (a b : ℕ) → 10 ^ 18 ≡ high_power a b 0
unfolding high_power
high_first a b = refl

pub low_next : (a b i n : ℕ) → n ≡ low_power a b i → n * a / b ≡ low_power a b (i + 1)
unfolding low_power
low_next a b i n e = ap (λ s. s * a / b) e ∙ sym (ap (low_power a b) (add-one i))

pub high_next : (a b i n : ℕ) → n ≡ high_power a b i → ceil_div (n * a) b ≡ high_power a b (i + 1)
unfolding high_power
high_next a b i n e = ap (λ s. ceil_div (s * a) b) e ∙ sym (ap (high_power a b) (add-one i))

pub place_here : (a b i l h wl wh : ℕ) → l ≡ low_power a b i → h ≡ high_power a b i → wl ≡ l * (b - a) / b → wh ≡ ceil_div (h * (b - a)) b →
    record { low = l; high = h; weight_low = wl; weight_high = wh } ≡ place_of a b i
place_here a b i l h wl wh el eh fl fh = rw (fl, fh, el, eh) refl

pub each_more : {T : Type 0} (f : ℕ → T) (xs ys : List T) (x : T) (n : ℕ) → length xs ≡ n → ys ≡ xs ++ x ∷ [] → x ≡ f n →
    ((i : ℕ) (p : T) → i < n → slice_index_or xs i p ≡ f i) → (i : ℕ) (p : T) → i < n + 1 → slice_index_or ys i p ≡ f i
each_more f xs ys x n len e here before i p h = grind (arith, common_steps, before i p)
