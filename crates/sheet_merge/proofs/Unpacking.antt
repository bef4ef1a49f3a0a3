-- Rows whose names are packed.
use Rattle.std.proofs.Common.{◌≡◌, ℕ, zero, suc, ◌+◌, ◌*◌, ◌<◌, ◌≤◌, true, List, [], ◌∷◌, ◌++◌, length, get_or, drop, Some, refl, ap, ap₂, sym, subst, ◌∙◌, arith, length-append}
use Rattle.std.specs.Prelude.{slice_get, sum_by, nat_le, ◌&&◌}
use Rattle.std.specs.List.{AllByRecursion, list_all}
use Rattle.std.proofs.lemmas.Bool.{and_parts, leb-true}
use Rattle.std.proofs.lemmas.List.{take_at, length-take-le, length-drop, length_push}
use Rattle.std.proofs.lemmas.List.Sums.{sum_by-cons}
use Rattle.small_lemmas.proofs.Lists.{all-append}
use Rattle.desk_model.specs.Name.{is_name, is_field_byte}
use Rattle.sheet_merge.specs.Sheet.{SheetRow}
use Rattle.sheet_merge.specs.Packed.{pair_of, first_of, second_of, IsNamePair, place_from, row_from, unpacked, IsPacked, ArePacked, row_at}
use Rattle.sheet_merge.specs.declared.written.Written.{Written}

-- ---- two names in one
pub drop_at : (xs ys : List ℕ) → drop (length xs) (xs ++ ys) ≡ ys
drop_at [] ys = refl
drop_at (x ∷ xs) ys = drop_at xs ys

pub pair_is : (a b : List ℕ) → IsNamePair (pair_of a b)
pair_is a b = omega (arith, length-append a b)

pub first_of-pair : (a b : List ℕ) → first_of (pair_of a b) ≡ a
first_of-pair a b = take_at a b (length a) refl

pub second_of-pair : (a b : List ℕ) → second_of (pair_of a b) ≡ b
second_of-pair a b = drop_at a b

pub length-pair : (bytes : List ℕ) → IsNamePair bytes → length bytes ≡ 1 + length (first_of bytes) + length (second_of bytes)
length-pair [] h = absurd h
length-pair (n ∷ bytes) h = omega (arith, length-take-le n bytes h, length-drop n bytes, h)

pub name_short : (name : List ℕ) → is_name name ≡ true → length name ≤ 255
name_short name e =
    let rest = and_parts (nat_le 1 (length name)) (nat_le (length name) 255 && list_all is_field_byte name) e in
    leb-true (length name) 255 (and_parts (nat_le (length name) 255) (list_all is_field_byte name) rest.1).0

-- ---- a packed row
module _ (who place : List ℕ) (w : Written) where
  pub row_from-pair : row_from (pair_of who place, w) ≡ (place_from place, record { stamp = w.stamp; who = who; grade = w.grade })
  row_from-pair = λ i. (place_from (second_of-pair who place i), record { stamp = w.stamp; who = first_of-pair who place i; grade = w.grade })

  pub packed_is : IsNamePair place → length who ≤ 255 → length (first_of place) ≤ 255 → length (second_of place) ≤ 255 → IsPacked (pair_of who place)
  packed_is pair a b c = record {
    outer = pair_is who place;
    inner = subst IsNamePair (sym (second_of-pair who place)) pair;
    short = omega (arith, length-append who place, length-pair place pair, a, b, c);
  }

-- ---- lists of them
pub length-unpacked : (names : List (List ℕ)) (written : List Written) → length names ≡ length written → length (unpacked names written) ≡ length written
length-unpacked [] written l = l
length-unpacked (x ∷ names) [] l = absurd (omega arith)
length-unpacked (x ∷ names) (y ∷ written) l = ap suc (length-unpacked names written (omega arith))

pub unpacked_there : (names : List (List ℕ)) (written : List Written) (i : ℕ) (name : List ℕ) (w : Written) → length names ≡ length written → i < length written → slice_get names i ≡ Some name → w ≡ get_or written i w → row_at (unpacked names written) i ≡ row_from (name, w)
unpacked_there [] written i name w l lt f g = absurd (cc)
unpacked_there (x ∷ names) [] i name w l lt f g = absurd (omega arith)
unpacked_there (x ∷ names) (y ∷ written) zero name w l lt f g =
    let named : x ≡ name = cc in
    ap₂ (λ (n : List ℕ) (z : Written). row_from (n, z)) named (sym g)
unpacked_there (x ∷ names) (y ∷ written) (suc i) name w l lt f g = unpacked_there names written i name w (omega arith) (omega arith) f g

pub unpacked-push : (names : List (List ℕ)) (written : List Written) (name : List ℕ) (w : Written) → length names ≡ length written → unpacked (names ++ name ∷ []) (written ++ w ∷ []) ≡ unpacked names written ++ row_from (name, w) ∷ []
unpacked-push [] [] name w l = refl
unpacked-push [] (y ∷ written) name w l = absurd (omega arith)
unpacked-push (x ∷ names) [] name w l = absurd (omega arith)
unpacked-push (x ∷ names) (y ∷ written) name w l = ap (λ (rows : List SheetRow). row_from (x, y) ∷ rows) (unpacked-push names written name w (omega arith))

pub no_more_bytes : (names : List (List ℕ)) → AllByRecursion IsPacked names → sum_by length names ≤ 767 * length names
no_more_bytes [] h = omega arith
no_more_bytes (x ∷ names) h =
    let here = h.0.short in
    omega (arith, sum_by-cons length x names, no_more_bytes names h.1, here)

pub packed_more : (names : List (List ℕ)) (written : List Written) (name : List ℕ) (w : Written) → ArePacked names written → IsPacked name → ArePacked (names ++ name ∷ []) (written ++ w ∷ [])
packed_more names written name w h is = record {
  matched = length_push names name ∙ ap (λ k. k + 1) h.matched ∙ sym (length_push written w);
  packed = all-append IsPacked names (name ∷ []) h.packed (is, tt);
}

pub none_packed : ArePacked [] []
none_packed = record { matched = refl; packed = tt }
