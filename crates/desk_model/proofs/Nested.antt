-- Rankings by run and topic, and marks by topic, kept in vectors of vectors.
use Rattle.std.proofs.Common.{◌≡◌, ℕ, zero, suc, ◌+◌, ◌<◌, List, [], ◌∷◌, ◌++◌, take, length, get_or, map, Option, Some, None, refl, ap, sym, ◌∙◌, arith}
use Rattle.std.specs.Prelude.{Vec, slice_get, IfSome}
use Rattle.std.specs.List.{AllZip, zip}
use Rattle.std.specs.declared.alloc.Global.{Global}
use Rattle.std.proofs.lemmas.List.{get_or-map, take_more}
use Rattle.std.proofs.lemmas.Option.{slice_get_within}
use Rattle.desk_model.specs.Book.{Book}
use Rattle.desk_model.specs.Ranking.{IsRanking}
use Rattle.desk_model.specs.Desk.{Desk, IsDesk, AreRankingsOver, ranking_of}

-- what a vector of a vector holds
pub inner : {X : Type 0} (xs : List (Vec X Global)) (i : ℕ) (v : Vec X Global) → i < length xs → v ≡ get_or xs i v → get_or (map (λ (each : Vec X Global). each.items) xs) i [] ≡ v.items
inner xs i v lt is = get_or-map (λ each. each.items) xs i v [] lt ∙ ap (λ each. each.items) (sym is)

pub length-zipped : {A B : Type 0} (R : A → B → Type 0) (xs : List A) (ys : List B) → AllZip R xs ys → length ys ≡ length xs
length-zipped R [] [] h = refl
length-zipped R [] (y ∷ ys) h = absurd h
length-zipped R (x ∷ xs) [] h = absurd h
length-zipped R (x ∷ xs) (y ∷ ys) h = ap suc (length-zipped R xs ys h.1)

pub zipped_at : {A B : Type 0} (R : A → B → Type 0) (xs : List A) (ys : List B) (i : ℕ) (x : A) (d : B) → AllZip R xs ys → slice_get xs i ≡ Some x → R x (get_or ys i d)
zipped_at R [] ys i x d h e = absurd (cc)
zipped_at R (z ∷ xs) [] i x d h e = absurd h
zipped_at R (z ∷ xs) (y ∷ ys) zero x d h e = let same : z ≡ x = cc in rw (← same) h.0
zipped_at R (z ∷ xs) (y ∷ ys) (suc i) x d h e = zipped_at R xs ys i x d h.1 e

module _ (desk : Desk) (valid : IsDesk desk) (run : ℕ) (in_range : run < length desk.runs) where
  rankings_of_run : AreRankingsOver desk.topics (get_or desk.rankings run [])
  rankings_of_run = valid.rankings run [] (omega (arith, valid.ranked))

  -- a run has as many rankings as there are topics
  pub length-rankings : length (get_or desk.rankings run []) ≡ length desk.topics
  length-rankings = length-zipped (λ (book : Book) (docs : List ℕ). IsRanking (length book.docs) docs) desk.topics (get_or desk.rankings run []) rankings_of_run

  -- each over its topic's universe
  pub ranking_over : (topic : ℕ) (book : Book) → slice_get desk.topics topic ≡ Some book → IsRanking (length book.docs) (ranking_of desk run topic)
  ranking_over topic book e = zipped_at (λ (b : Book) (docs : List ℕ). IsRanking (length b.docs) docs) desk.topics (get_or desk.rankings run []) topic book [] rankings_of_run e

pub if_some : {X : Type 0} (o : Option X) (P : X → Type 0) → ((x : X) → o ≡ Some x → P x) → IfSome o P
if_some None P h = tt
if_some (Some x) P h = h x refl

-- an element that is there, at any default
pub get_or-there : {X : Type 0} (xs : List X) (i : ℕ) (x d : X) → slice_get xs i ≡ Some x → get_or xs i d ≡ x
get_or-there [] i x d e = absurd (cc)
get_or-there (y ∷ xs) zero x d e = cc
get_or-there (y ∷ xs) (suc i) x d e = get_or-there xs i x d e

pub take-there : {X : Type 0} (xs : List X) (i : ℕ) (x : X) → slice_get xs i ≡ Some x → take (i + 1) xs ≡ take i xs ++ x ∷ []
take-there xs i x e = take_more xs i x (slice_get_within xs i x e) ∙ ap (λ y. take i xs ++ y ∷ []) (get_or-there xs i x x e)

-- two lists side by side
pub length-zip : {A B : Type 0} (xs : List A) (ys : List B) → length ys ≡ length xs → length (zip xs ys) ≡ length xs
length-zip [] ys h = refl
length-zip (x ∷ xs) [] h = absurd (omega arith)
length-zip (x ∷ xs) (y ∷ ys) h = ap suc (length-zip xs ys (omega arith))
