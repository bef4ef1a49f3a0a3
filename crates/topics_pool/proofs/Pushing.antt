-- A list that grows by what is made of the next element.
use Rattle.std.proofs.Common.{◌≡◌, ℕ, ◌+◌, ◌<◌, ◌≤◌, List, [], ◌∷◌, ◌++◌, length, map, take, get_or, ap, sym, ◌∙◌}
use Rattle.std.proofs.lemmas.List.{take_more, take_all, map-append}

-- one more was made and pushed
pub pushed_next : {X Y : Type 0} (make : X → Y) (xs : List X) (i : ℕ) (d : X) (old new : List Y) (y : Y) → i < length xs → old ≡ map make (take i xs) → new ≡ old ++ y ∷ [] → y ≡ make (get_or xs i d) → new ≡ map make (take (i + 1) xs)
pushed_next make xs i d old new y lt made pushed is =
    pushed ∙ ap (λ ys. ys ++ y ∷ []) made ∙ ap (λ z. map make (take i xs) ++ z ∷ []) is ∙ sym (map-append make (take i xs) (get_or xs i d ∷ [])) ∙ ap (map make) (sym (take_more xs i d lt))

-- all were made
pub pushed_all : {X Y : Type 0} (make : X → Y) (xs : List X) (i : ℕ) (ys : List Y) → length xs ≤ i → ys ≡ map make (take i xs) → ys ≡ map make xs
pushed_all make xs i ys le made = made ∙ ap (map make) (take_all i xs le)
