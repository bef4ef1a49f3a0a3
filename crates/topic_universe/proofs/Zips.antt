-- Lists side by side.
use Rattle.std.proofs.Common.{◌≡◌, ℕ, ◌+◌, ◌<◌, List, [], ◌∷◌, ◌++◌, length, get_or, take, ap, sym, ◌∙◌, subst}
use Rattle.std.specs.List.{AllZip}
use Rattle.std.proofs.lemmas.List.{take_more}

pub zip-weaker : {A B : Type 0} (R S : A → B → Type 0) (xs : List A) (ys : List B) → ((x : A) (y : B) → R x y → S x y) → AllZip R xs ys → AllZip S xs ys
zip-weaker R S [] [] says h = tt
zip-weaker R S [] (y ∷ ys) says h = absurd h
zip-weaker R S (x ∷ xs) [] says h = absurd h
zip-weaker R S (x ∷ xs) (y ∷ ys) says h = (says x y h.0, zip-weaker R S xs ys says h.1)

-- ---- steps of loops
pub AllZip-end : {A B : Type 0} (R : A → B → Type 0) (xs : List A) (ys : List B) (x : A) (y : B) → AllZip R xs ys → R x y → AllZip R (xs ++ x ∷ []) (ys ++ y ∷ [])
AllZip-end R [] [] x y h r = (r, tt)
AllZip-end R [] (b ∷ ys) x y h r = absurd h
AllZip-end R (a ∷ xs) [] x y h r = absurd h
AllZip-end R (a ∷ xs) (b ∷ ys) x y h r = (h.0, AllZip-end R xs ys x y h.1 r)

pub zip_step : {A B : Type 0} (R : A → B → Type 0) (xs : List A) (ys ys' : List B) (i : ℕ) (x : A) (y : B) → i < length xs → x ≡ get_or xs i x → AllZip R (take i xs) ys → R x y → ys' ≡ ys ++ y ∷ [] → AllZip R (take (i + 1) xs) ys'
zip_step R xs ys ys' i x y lt is h r pushed =
    let taken : take (i + 1) xs ≡ take i xs ++ x ∷ [] = take_more xs i x lt ∙ ap (λ z. take i xs ++ z ∷ []) (sym is) in
    subst (λ zs. AllZip R zs ys') (sym taken) (subst (AllZip R (take i xs ++ x ∷ [])) (sym pushed) (AllZip-end R (take i xs) ys x y h r))
