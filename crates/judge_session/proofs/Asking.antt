-- What fields ask, by how many they are.
use Rattle.std.proofs.Common.{◌≡◌, ℕ, List, [], ◌∷◌, length, slice_index_or, ap, ◌∙◌, arith}
use Rattle.judge_session.specs.Request.{request_of, alone, with_caller, with_two, judging}

abbrev IsField : List (List ℕ) → ℕ → List ℕ → Type 0
IsField fields i text = text ≡ slice_index_or fields i []

pub one_asks : (fields : List (List ℕ)) (a : List ℕ) → length fields ≡ 1 → IsField fields 0 a → alone a ≡ request_of fields
one_asks [] a n e = absurd (omega (arith, n))
one_asks (x ∷ []) a n e = ap alone e
one_asks (x ∷ y ∷ rest) a n e = absurd (omega (arith, n))

pub two_ask : (fields : List (List ℕ)) (a b : List ℕ) → length fields ≡ 2 → IsField fields 0 a → IsField fields 1 b → with_caller a b ≡ request_of fields
two_ask [] a b n e f = absurd (omega (arith, n))
two_ask (x ∷ []) a b n e f = absurd (omega (arith, n))
two_ask (x ∷ y ∷ []) a b n e f = ap (λ w. with_caller w b) e ∙ ap (λ w. with_caller x w) f
two_ask (x ∷ y ∷ z ∷ rest) a b n e f = absurd (omega (arith, n))

pub three_ask : (fields : List (List ℕ)) (a b c : List ℕ) → length fields ≡ 3 → IsField fields 0 a → IsField fields 1 b → IsField fields 2 c → with_two a b c ≡ request_of fields
three_ask [] a b c n e f g = absurd (omega (arith, n))
three_ask (x ∷ []) a b c n e f g = absurd (omega (arith, n))
three_ask (x ∷ y ∷ []) a b c n e f g = absurd (omega (arith, n))
three_ask (x ∷ y ∷ z ∷ []) a b c n e f g = ap (λ w. with_two w b c) e ∙ ap (λ w. with_two x w c) f ∙ ap (λ w. with_two x y w) g
three_ask (x ∷ y ∷ z ∷ v ∷ rest) a b c n e f g = absurd (omega (arith, n))

pub five_ask : (fields : List (List ℕ)) (a b c d e : List ℕ) → length fields ≡ 5 → IsField fields 0 a → IsField fields 1 b → IsField fields 2 c → IsField fields 3 d → IsField fields 4 e → judging a b c d e ≡ request_of fields
five_ask [] a b c d e n f g h i j = absurd (omega (arith, n))
five_ask (x ∷ []) a b c d e n f g h i j = absurd (omega (arith, n))
five_ask (x ∷ y ∷ []) a b c d e n f g h i j = absurd (omega (arith, n))
five_ask (x ∷ y ∷ z ∷ []) a b c d e n f g h i j = absurd (omega (arith, n))
five_ask (x ∷ y ∷ z ∷ v ∷ []) a b c d e n f g h i j = absurd (omega (arith, n))
five_ask (x ∷ y ∷ z ∷ v ∷ w ∷ []) a b c d e n f g h i j =
    ap (λ t. judging t b c d e) f ∙ ap (λ t. judging x t c d e) g ∙ ap (λ t. judging x y t d e) h ∙ ap (λ t. judging x y z t e) i ∙ ap (λ t. judging x y z v t) j
five_ask (x ∷ y ∷ z ∷ v ∷ w ∷ u ∷ rest) a b c d e n f g h i j = absurd (omega (arith, n))
