-- Texts that grow piece by piece.
use Rattle.std.proofs.Common.{◌≡◌, ℕ, zero, suc, ◌+◌, ◌<◌, ◌≤◌, List, [], ◌∷◌, ◌++◌, length, take, get_or, map, Some, refl, ap, sym, ◌∙◌, append_assoc, append-nil, Bool, true, false, drop, length-drop, arith}
use Rattle.std.specs.Prelude.{flat_map, slice_get}
use Rattle.std.specs.List.{zip}
use Rattle.std.proofs.lemmas.List.{length-map, take_all}
use Rattle.std.proofs.lemmas.Option.{slice_get-map}
use Rattle.std.specs.Option.{option_map}
use Rattle.std.proofs.lemmas.Grind.{flat_map-append}
use Rattle.std.specs.Prelude.{nat_lt}
use Rattle.std.proofs.lemmas.Bool.Decides.{nat_tests}
use Rattle.small_lemmas.proofs.Lists.{slice_get-zip}
use Rattle.desk_model.specs.Pairs.{pairs_of, pairs_from}
use Rattle.desk_model.specs.declared.pairs.PairPlaces.{PairPlaces}
use Rattle.desk_model.proofs.PairPlace.{ArePlaces, pairs_from-end}
use Rattle.desk_model.proofs.Nested.{length-zip, take-there}
use Rattle.desk_report.specs.Table.{ended}

pub three : (o p q r a b c : List ℕ) → p ≡ o ++ a → q ≡ p ++ b → r ≡ q ++ c → r ≡ o ++ (a ++ (b ++ c))
three o p q r a b c e f g = g ∙ ap (λ x. x ++ c) (f ∙ ap (λ x. x ++ b) e) ∙ simp append_assoc

pub four : (o p q r s a b c d : List ℕ) → p ≡ o ++ a → q ≡ p ++ b → r ≡ q ++ c → s ≡ r ++ d → s ≡ o ++ (a ++ (b ++ (c ++ d)))
four o p q r s a b c d e f g h = h ∙ ap (λ x. x ++ d) (g ∙ ap (λ x. x ++ c) (f ∙ ap (λ x. x ++ b) e)) ∙ simp append_assoc

-- ---- lists side by side
pub get_or-there : {X : Type 0} (xs : List X) (i : ℕ) (d : X) → i < length xs → slice_get xs i ≡ Some (get_or xs i d)
get_or-there [] i d h = absurd (omega arith)
get_or-there (x ∷ xs) zero d h = refl
get_or-there (x ∷ xs) (suc i) d h = get_or-there xs i d (omega arith)

pub flat_map-push : (lines : List (List ℕ)) (line : List ℕ) → flat_map ended (lines ++ line ∷ []) ≡ flat_map ended lines ++ ended line
flat_map-push [] line = append-nil (ended line)
flat_map-push (l ∷ lines) line = ap (λ rest. ended l ++ rest) (flat_map-push lines line) ∙ sym (append_assoc (ended l) (flat_map ended lines) (ended line))

-- one more line
pub one_more : {A B : Type 0} (f : A × B → List ℕ) (xs : List A) (ys : List B) (i : ℕ) (x : A) (y : B) (o before now : List ℕ) → slice_get xs i ≡ Some x → slice_get ys i ≡ Some y →
    before ≡ o ++ flat_map ended (take i (map f (zip xs ys))) → now ≡ before ++ ended (f (x, y)) → now ≡ o ++ flat_map ended (take (i + 1) (map f (zip xs ys)))
one_more f xs ys i x y o before now e g h k =
    let there = take-there (map f (zip xs ys)) i (f (x, y)) (slice_get-map f (zip xs ys) i ∙ ap (option_map f) (slice_get-zip xs ys i x y e g)) in
    k ∙ ap (λ t. t ++ ended (f (x, y))) h ∙ append_assoc o (flat_map ended (take i (map f (zip xs ys)))) (ended (f (x, y)))
    ∙ ap (λ t. o ++ t) (sym (flat_map-push (take i (map f (zip xs ys))) (f (x, y))) ∙ ap (flat_map ended) (sym there))

-- all lines
pub all_lines : {A B : Type 0} (f : A × B → List ℕ) (xs : List A) (ys : List B) (i : ℕ) (o now : List ℕ) → length ys ≡ length xs → length xs ≤ i →
    now ≡ o ++ flat_map ended (take i (map f (zip xs ys))) → now ≡ o ++ flat_map ended (map f (zip xs ys))
all_lines f xs ys i o now same end h =
    let whole : take i (map f (zip xs ys)) ≡ map f (zip xs ys) = take_all i (map f (zip xs ys)) (omega (arith, length-map (zip xs ys) f, length-zip xs ys same)) in
    rw whole at h

-- ---- going over the pairs
-- while pairs are left, the places are those of one
pub unfinished : {X : Type 0} (xs : List X) (at : PairPlaces) (i : ℕ) → ArePlaces (length xs) at → drop i (pairs_of xs) ≡ pairs_from at xs → i < length (pairs_of xs) → at.second < length xs
unfinished xs at i placed left lt = go (nat_lt at.second (length xs)) refl
  where
    go : (b : Bool) → nat_lt at.second (length xs) ≡ b → at.second < length xs
    go true t = grind (arith, nat_tests)
    go false t =
        let end : at.second ≡ length xs = grind (arith, nat_tests, placed.within) in
        let none : drop i (pairs_of xs) ≡ [] = left ∙ pairs_from-end xs at placed end in
        absurd (omega (arith, length-drop i (pairs_of xs), ap length none))

-- three parts of a table
pub whole : (o p q r : List ℕ) (head runs pairs : List (List ℕ)) → p ≡ o ++ flat_map ended head → q ≡ p ++ flat_map ended runs → r ≡ q ++ flat_map ended pairs → r ≡ o ++ flat_map ended (head ++ runs ++ pairs)
whole o p q r head runs pairs e f g =
    g ∙ ap (λ x. x ++ flat_map ended pairs) (f ∙ ap (λ x. x ++ flat_map ended runs) e)
    ∙ append_assoc (o ++ flat_map ended head) (flat_map ended runs) (flat_map ended pairs)
    ∙ append_assoc o (flat_map ended head) (flat_map ended runs ++ flat_map ended pairs)
    ∙ ap (λ x. o ++ x) (sym (append_assoc (flat_map ended head) (flat_map ended runs) (flat_map ended pairs)) ∙ ap (λ x. x ++ flat_map ended pairs) (sym (flat_map-append ended head runs)) ∙ sym (flat_map-append ended (head ++ runs) pairs))
