-- Counts that grow by the lists of one pair of runs after another.
use Rattle.std.proofs.Common.{◌≡◌, ℕ, ◌+◌, ◌<◌, List, [], ◌∷◌, ◌++◌, length, get_or, map, take, drop, ap, ap₂, sym, subst, ◌∙◌}
use Rattle.std.specs.Prelude.{flat_map}
use Rattle.std.proofs.lemmas.Grind.{flat_map-append}
use Rattle.std.proofs.lemmas.List.{append-nil, map_more, take_more, take-append-drop}
use Rattle.measure_core.specs.Lists.{AreCounted, HaveRoomFor}
use Rattle.measure_core.specs.declared.counting.ListSizes.{ListSizes}
use Rattle.measure_core.proofs.Tallying.{counted_after, room_of_first, room_of_second}

-- the sizes of two lists
pub sizes_are : (sizes : ListSizes) (least most : ℕ) → sizes.least ≡ least → sizes.most ≡ most → sizes ≡ record { least = least; most = most }
sizes_are sizes least most e f = ap₂ (λ (m n : ℕ). record { least = m; most = n }) e f

-- the lists of the first so many, and of one more
module _ {X : Type 0} (f : X → List ℕ) (xs : List X) (i : ℕ) (d : X) (lt : i < length xs) where
  pub listed_more : flat_map f (take (i + 1) xs) ≡ flat_map f (take i xs) ++ f (get_or xs i d)
  listed_more = ap (flat_map f) (take_more xs i d lt) ∙ flat_map-append f (take i xs) (get_or xs i d ∷ []) ∙ ap (λ l. flat_map f (take i xs) ++ l) (append-nil (f (get_or xs i d)))

  split : flat_map f xs ≡ (flat_map f (take i xs) ++ f (get_or xs i d)) ++ flat_map f (drop (i + 1) xs)
  split = ap (flat_map f) (sym (take-append-drop (i + 1) xs)) ∙ flat_map-append f (take (i + 1) xs) (drop (i + 1) xs) ∙ ap (λ l. l ++ flat_map f (drop (i + 1) xs)) listed_more

  pub room_for_next : (before now : List ℕ) → length now ≡ length before → HaveRoomFor before (flat_map f xs) → AreCounted before (flat_map f (take i xs)) now → HaveRoomFor now (f (get_or xs i d))
  room_for_next before now size room counted =
      let first = room_of_first before (flat_map f (take i xs) ++ f (get_or xs i d)) (flat_map f (drop (i + 1) xs)) (subst (HaveRoomFor before) split room) in
      room_of_second before now (flat_map f (take i xs)) (f (get_or xs i d)) size first counted

  pub counted_more : (before now after : List ℕ) → length now ≡ length before → AreCounted before (flat_map f (take i xs)) now → AreCounted now (f (get_or xs i d)) after → AreCounted before (flat_map f (take (i + 1) xs)) after
  counted_more before now after size counted next = subst (λ (l : List ℕ). AreCounted before l after) (sym listed_more) (counted_after before now after (flat_map f (take i xs)) (f (get_or xs i d)) size counted next)

-- what is made of the first so many, and of one more
pub made_more : {X Y : Type 0} (f : X → Y) (xs : List X) (i : ℕ) (d : X) (before after : List Y) (made : Y) → i < length xs → before ≡ map f (take i xs) → after ≡ before ++ made ∷ [] → made ≡ f (get_or xs i d) → after ≡ map f (take (i + 1) xs)
made_more {Y = Y} f xs i d before after made lt first more is = more ∙ ap₂ (λ (l : List Y) (y : Y). l ++ y ∷ []) first is ∙ sym (map_more f xs i d lt)
