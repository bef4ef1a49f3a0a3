-- Lists that are filled place by place.
use Rattle.std.proofs.Common.{◌≡◌, ℕ, ◌+◌, ◌<◌, ◌≤◌, List, [], ◌∷◌, ◌++◌, length, take, drop, map, get_or, Some, refl, ap, sym, ◌∙◌, subst, arith}
use Rattle.std.specs.Prelude.{slice_get, slice_set, All}
use Rattle.std.proofs.lemmas.List.{drop-drop, drop-set-lt, get_or-drop, map-append, take_all, take_more_set}
use Rattle.std.proofs.lemmas.List.Elements.{All-nil, All-push, All-same}
use Rattle.desk_model.proofs.Nested.{take-there}

-- the places before one hold what is made from another list
pub record IsFilled {A B : Type 0} (f : A → B) (P : B → Type 0) (xs : List A) (ys : List B) (i : ℕ) : Type 0 where
  pub made : take i ys ≡ map f (take i xs)
  pub all : All P (take i ys)

pub filled_none : {A B : Type 0} (f : A → B) (P : B → Type 0) (xs : List A) (ys : List B) → IsFilled f P xs ys 0
filled_none f P xs ys = record { made = refl; all = All-nil P }

pub filled_more : {A B : Type 0} (f : A → B) (P : B → Type 0) (xs : List A) (ys : List B) (i : ℕ) (x : A) (y : B) → i < length ys → IsFilled f P xs ys i → slice_get xs i ≡ Some x → y ≡ f x → P y → IsFilled f P xs (slice_set ys i y) (i + 1)
filled_more {A = A} {B = B} f P xs ys i x y lt h there e p = record {
  made = take_more_set ys i y lt ∙ ap (λ (l : List B). l ++ y ∷ []) h.made ∙ ap (λ (v : B). map f (take i xs) ++ v ∷ []) e
      ∙ sym (map-append f (take i xs) (x ∷ [])) ∙ ap (map f) (sym (take-there xs i x there));
  all = All-same P _ _ (take_more_set ys i y lt) (All-push P (take i ys) y h.all p);
}

pub filled_whole : {A B : Type 0} (f : A → B) (P : B → Type 0) (xs : List A) (ys : List B) (i : ℕ) → length ys ≤ i → length xs ≤ i → IsFilled f P xs ys i → (ys ≡ map f xs) × All P ys
filled_whole f P xs ys i long_ys long_xs h = (
  sym (take_all i ys long_ys) ∙ h.made ∙ ap (map f) (take_all i xs long_xs),
  subst (All P) (take_all i ys long_ys) h.all,
)

-- the same, where the places from there on are still as they were
pub record IsRefilled {A B : Type 0} (f : A → B) (P : B → Type 0) (xs : List A) (ys initial : List B) (i : ℕ) : Type 0 where
  pub filled : IsFilled f P xs ys i
  pub left : drop i ys ≡ drop i initial

pub refilled_none : {A B : Type 0} (f : A → B) (P : B → Type 0) (xs : List A) (ys : List B) → IsRefilled f P xs ys ys 0
refilled_none f P xs ys = record { filled = filled_none f P xs ys; left = refl }

pub refilled_more : {A B : Type 0} (f : A → B) (P : B → Type 0) (xs : List A) (ys initial : List B) (i : ℕ) (x : A) (y : B) → i < length ys → IsRefilled f P xs ys initial i → slice_get xs i ≡ Some x → y ≡ f x → P y →
    IsRefilled f P xs (slice_set ys i y) initial (i + 1)
refilled_more f P xs ys initial i x y lt h there e p = record {
  filled = filled_more f P xs ys i x y lt h.filled there e p;
  left = drop-set-lt (i + 1) ys i y (omega arith) ∙ sym (drop-drop 1 i ys) ∙ ap (drop 1) h.left ∙ drop-drop 1 i initial;
}

pub refilled_here : {A B : Type 0} (f : A → B) (P : B → Type 0) (xs : List A) (ys initial : List B) (i : ℕ) (d : B) → IsRefilled f P xs ys initial i → get_or ys i d ≡ get_or initial i d
refilled_here f P xs ys initial i d h =
    let e : i + 0 ≡ i = omega arith in
    sym (ap (λ m. get_or ys m d) e) ∙ sym (get_or-drop i ys 0 d) ∙ ap (λ l. get_or l 0 d) h.left ∙ get_or-drop i initial 0 d ∙ ap (λ m. get_or initial m d) e
