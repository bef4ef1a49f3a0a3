-- Merging two maps line by line.
use Rattle.std.proofs.Common.{◌≡◌, ◌⊎◌, ◌<◌, is_some, List, [], ◌∷◌, ◌++◌, length, Option, None, refl, ap, sym, subst, ◌∙◌, arith, inl, inr, length-append}
use Rattle.std.specs.List.{AllByRecursion}
use Rattle.std.specs.Ordering.{ordering_reverse}
use Rattle.std.specs.declared.cmp.Ordering.{Ordering}
use Rattle.std.specs.declared.cmp.Ordering.TheVariants.{Less, Equal, Greater}
use Rattle.sheet_merge.specs.Sheet.{SheetEntry, SheetPlace, SheetRow, place_cmp, entry_on, greatest_on, greater, greater_of, IsMap}
use Rattle.sheet_merge.specs.Merging.{IsMergeOf}
use Rattle.sheet_merge.specs.Walking.{IsTakenNext}
use Rattle.sheet_merge.proofs.Entries.{place_total, place_exact, greater_of-order, greater_of-pairs, greater_of-none, some_first}
use Rattle.sheet_merge.proofs.Greatest.{greatest_by-append}
use Rattle.sheet_merge.proofs.Maps.{IsBeforeAll, ArePlacesIn, before-trans, head_before, tail_map, map_from, no_map, no_longer}
use Rattle.sheet_merge.proofs.Raising.{joined}

-- ---- the next line
pub from_first : (x y : SheetRow) (a b : List SheetRow) → IsMap (x ∷ a) → IsMap (y ∷ b) → place_cmp x.0 y.0 ≡ Less → IsTakenNext (x ∷ a) (y ∷ b) x a (y ∷ b)
from_first x y a b h k e = record {
  before_left = head_before x a h;
  before_right = (e, before-trans x.0 y.0 b e (head_before y b k));
  later = λ q f g. f.0;
  kept_left = λ q f. f.1;
  kept_right = λ q f. f;
  is_left = tail_map x a h;
  is_right = k;
  entries = λ p. sym (greater_of-pairs (entry_on p x) (greatest_on p a) (greatest_on p (y ∷ b)));
}

pub only_first : (x : SheetRow) (a : List SheetRow) → IsMap (x ∷ a) → IsTakenNext (x ∷ a) [] x a []
only_first x a h = record {
  before_left = head_before x a h;
  before_right = tt;
  later = λ q f g. f.0;
  kept_left = λ q f. f.1;
  kept_right = λ q f. tt;
  is_left = tail_map x a h;
  is_right = no_map;
  entries = λ p. sym (greater_of-pairs (entry_on p x) (greatest_on p a) None);
}

-- the second of two maps may be the one that is taken from
pub swapped : (a b : List SheetRow) (row : SheetRow) (left right : List SheetRow) → IsTakenNext a b row left right → IsTakenNext b a row right left
swapped a b row left right h = record {
  before_left = h.before_right;
  before_right = h.before_left;
  later = λ q f g. h.later q g f;
  kept_left = λ q f. h.kept_right q f;
  kept_right = λ q f. h.kept_left q f;
  is_left = h.is_right;
  is_right = h.is_left;
  entries = λ p. ap (greater_of (entry_on p row)) (greater_of-order (greatest_on p right) (greatest_on p left)) ∙ h.entries p ∙ greater_of-order (greatest_on p a) (greatest_on p b);
}

-- four entries, two by two
four : (a b c d : Option SheetEntry) → greater_of (greater_of a b) (greater_of c d) ≡ greater_of (greater_of a c) (greater_of b d)
four a b c d =
    greater_of-pairs a b (greater_of c d)
    ∙ ap (greater_of a) (sym (greater_of-pairs b c d) ∙ ap (λ o. greater_of o d) (greater_of-order b c) ∙ greater_of-pairs c b d)
    ∙ sym (greater_of-pairs a c (greater_of b d))

pub from_both : (x y : SheetRow) (a b : List SheetRow) → IsMap (x ∷ a) → IsMap (y ∷ b) → place_cmp x.0 y.0 ≡ Equal → IsTakenNext (x ∷ a) (y ∷ b) (x.0, greater x.1 y.1) a b
from_both x y a b h k e =
    let place : x.0 ≡ y.0 = place_exact x.0 y.0 e in
    record {
      before_left = head_before x a h;
      before_right = subst (λ q. IsBeforeAll q b) (sym place) (head_before y b k);
      later = λ q f g. f.0;
      kept_left = λ q f. f.1;
      kept_right = λ q f. f.1;
      is_left = tail_map x a h;
      is_right = tail_map y b k;
      entries = λ p.
          let here : entry_on p (x.0, y.1) ≡ entry_on p y = ap (λ q. entry_on p (q, y.1)) place in
          ap (λ o. greater_of o (greater_of (greatest_on p a) (greatest_on p b))) (joined p x y.1 ∙ ap (greater_of (entry_on p x)) here)
          ∙ four (entry_on p x) (entry_on p y) (greatest_on p a) (greatest_on p b);
    }

-- ---- what was taken so far
pub record IsWalked (a b out left right : List SheetRow) : Type 0 where
  pub is_map : IsMap out
  pub is_left : IsMap left
  pub is_right : IsMap right
  pub after_left : AllByRecursion (λ (row : SheetRow). IsBeforeAll row.0 left) out
  pub after_right : AllByRecursion (λ (row : SheetRow). IsBeforeAll row.0 right) out
  pub entries : (p : SheetPlace) → greater_of (greatest_on p out) (greater_of (greatest_on p left) (greatest_on p right)) ≡ greater_of (greatest_on p a) (greatest_on p b)

pub walked_none : (a b : List SheetRow) → IsMap a → IsMap b → IsWalked a b [] a b
walked_none a b h k = record { is_map = no_map; is_left = h; is_right = k; after_left = tt; after_right = tt; entries = λ p. refl }

-- ---- one more line
before_push : (p : SheetPlace) (rows : List SheetRow) (row : SheetRow) → IsBeforeAll p rows → place_cmp p row.0 ≡ Less → IsBeforeAll p (rows ++ row ∷ [])
before_push p [] row h e = (e, tt)
before_push p (x ∷ rows) row h e = (h.0, before_push p rows row h.1 e)

all_push : {X : Type 0} (P : X → Type 0) (xs : List X) (x : X) → AllByRecursion P xs → P x → AllByRecursion P (xs ++ x ∷ [])
all_push P [] x h p = (p, tt)
all_push P (y ∷ xs) x h p = (h.0, all_push P xs x h.1 p)

all_weaker : {X : Type 0} (P Q : X → Type 0) → ((x : X) → P x → Q x) → (xs : List X) → AllByRecursion P xs → AllByRecursion Q xs
all_weaker P Q weaker [] h = tt
all_weaker P Q weaker (x ∷ xs) h = (weaker x h.0, all_weaker P Q weaker xs h.1)

both_hold : {X : Type 0} (P Q : X → Type 0) (xs : List X) → AllByRecursion P xs → AllByRecursion Q xs → AllByRecursion (λ x. P x × Q x) xs
both_hold P Q [] h k = tt
both_hold P Q (x ∷ xs) h k = ((h.0, k.0), both_hold P Q xs h.1 k.1)

map_push : (rows : List SheetRow) (row : SheetRow) → IsMap rows → AllByRecursion (λ (x : SheetRow). place_cmp x.0 row.0 ≡ Less) rows → IsMap (rows ++ row ∷ [])
map_push [] row h all = map_from row [] tt no_map
map_push (x ∷ rows) row h all = map_from x (rows ++ row ∷ []) (before_push x.0 rows row (head_before x rows h) all.0) (map_push rows row (tail_map x rows h) all.1)

pub walked_more : (a b out left right : List SheetRow) (row : SheetRow) (left' right' : List SheetRow) → IsWalked a b out left right → IsTakenNext left right row left' right' → IsWalked a b (out ++ row ∷ []) left' right'
walked_more a b out left right row left' right' h n =
    let earlier = both_hold (λ (x : SheetRow). IsBeforeAll x.0 left) (λ (x : SheetRow). IsBeforeAll x.0 right) out h.after_left h.after_right in
    record {
      is_map = map_push out row h.is_map (all_weaker (λ (x : SheetRow). IsBeforeAll x.0 left × IsBeforeAll x.0 right) (λ (x : SheetRow). place_cmp x.0 row.0 ≡ Less) (λ x both. n.later x.0 both.0 both.1) out earlier);
      is_left = n.is_left;
      is_right = n.is_right;
      after_left = all_push (λ (x : SheetRow). IsBeforeAll x.0 left') out row (all_weaker (λ (x : SheetRow). IsBeforeAll x.0 left) (λ (x : SheetRow). IsBeforeAll x.0 left') (λ x f. n.kept_left x.0 f) out h.after_left) n.before_left;
      after_right = all_push (λ (x : SheetRow). IsBeforeAll x.0 right') out row (all_weaker (λ (x : SheetRow). IsBeforeAll x.0 right) (λ (x : SheetRow). IsBeforeAll x.0 right') (λ x f. n.kept_right x.0 f) out h.after_right) n.before_right;
      entries = λ p.
          let rest = greater_of (greatest_on p left') (greatest_on p right') in
          ap (λ o. greater_of o rest) (greatest_by-append (entry_on p) out (row ∷ []) ∙ ap (greater_of (greatest_on p out)) (greater_of-none (entry_on p row)))
          ∙ greater_of-pairs (greatest_on p out) (entry_on p row) rest
          ∙ ap (greater_of (greatest_on p out)) (n.entries p)
          ∙ h.entries p;
    }

-- the merge, where nothing is left
pub walked_all : (a b out : List SheetRow) → IsWalked a b out [] [] → IsMergeOf a b out
walked_all a b out h = record { is_map = h.is_map; greater = λ p. sym (greater_of-none (greatest_on p out)) ∙ h.entries p }

-- ---- what is left makes the merge longer
pub record HasNext (a b : List SheetRow) : Type 0 where
  pub row : SheetRow
  pub left : List SheetRow
  pub right : List SheetRow
  pub is : IsTakenNext a b row left right

pub next_of : (a b : List SheetRow) → IsMap a → IsMap b → (0 < length a) ⊎ (0 < length b) → HasNext a b
next_of [] [] h k some = absurd (elim some [ inl l ↦ (let e : 0 < 0 = l in omega (arith, e)) | inr r ↦ (let e : 0 < 0 = r in omega (arith, e)) ])
next_of (x ∷ a) [] h k some = record { row = x; left = a; right = []; is = only_first x a h }
next_of [] (y ∷ b) h k some = record { row = y; left = []; right = b; is = swapped _ _ _ _ _ (only_first y b k) }
next_of (x ∷ a) (y ∷ b) h k some = go (place_cmp x.0 y.0) refl
  where
    go : (r : Ordering) → place_cmp x.0 y.0 ≡ r → HasNext (x ∷ a) (y ∷ b)
    go Less e = record { row = x; left = a; right = y ∷ b; is = from_first x y a b h k e }
    go Equal e = record { row = (x.0, greater x.1 y.1); left = a; right = b; is = from_both x y a b h k e }
    go Greater e = record { row = y; left = x ∷ a; right = b; is = swapped _ _ _ _ _ (from_first y x b a k h (place_total.antisymm y.0 x.0 ∙ ap ordering_reverse e)) }

places_in : (a b out left right rows : List SheetRow) → IsWalked a b out left right → IsMergeOf a b rows → ArePlacesIn out rows
places_in a b out left right rows h m p some = ap is_some (m.greater p ∙ sym (h.entries p)) ∙ some_first (greatest_on p out) (greater_of (greatest_on p left) (greatest_on p right)) some

pub more_left : (a b out left right rows : List SheetRow) → IsWalked a b out left right → (0 < length left) ⊎ (0 < length right) → IsMergeOf a b rows → length out < length rows
more_left a b out left right rows h some m =
    let n = next_of left right h.is_left h.is_right some in
    let more = walked_more a b out left right n.row n.left n.right h n.is in
    let le = no_longer (out ++ n.row ∷ []) rows more.is_map m.is_map (places_in a b (out ++ n.row ∷ []) n.left n.right rows more m) in
    omega (arith, le, length-append out (n.row ∷ []))
