-- The order of entries and of places, and the greater of two entries.
use Rattle.std.proofs.Common.{◌≡◌, Bool, true, false, true≢false, is_some, Option, Some, None, refl, ap, sym, ◌∙◌}
use Rattle.std.specs.Prelude.{if◌then◌else◌}
use Rattle.std.specs.Cmp.{IsTotalOrder}
use Rattle.std.specs.Ordering.{ordering_reverse, ordering_then, is_lt, is_gt, is_eq, nat_cmp, int_cmp}
use Rattle.std.specs.declared.cmp.Ordering.{Ordering}
use Rattle.std.specs.declared.cmp.Ordering.TheVariants.{Less, Equal, Greater}
use Rattle.std.proofs.lemmas.Cmp.{nat_cmp_total, int_cmp_total, nat_list_cmp_total, on_total, then_total, upto}
use Rattle.std.proofs.lemmas.Map.Lookups.{exact_unsigned, exact_signed, exact_bytes}
use Rattle.desk_model.specs.Name.{name_cmp}
use Rattle.sheet_merge.specs.Sheet.{SheetEntry, SheetPlace, entry_cmp, place_cmp, greater, greater_of}

-- ---- orders
pub then_equal : (r s : Ordering) → ordering_then r s ≡ Equal → (r ≡ Equal) × (s ≡ Equal)
then_equal Less s h = absurd (true≢false (sym (ap is_eq h)))
then_equal Equal s h = (refl, h)
then_equal Greater s h = absurd (true≢false (sym (ap is_eq h)))

pub equal_from : (r : Ordering) → is_eq r ≡ true → r ≡ Equal
equal_from Less h = absurd (true≢false (sym h))
equal_from Equal h = refl
equal_from Greater h = absurd (true≢false (sym h))

pub entry_total : IsTotalOrder entry_cmp
entry_total = then_total (on_total (λ (x : SheetEntry). x.stamp) nat_cmp_total) (then_total (on_total (λ (x : SheetEntry). x.who) nat_list_cmp_total) (on_total (λ (x : SheetEntry). x.grade) int_cmp_total))

pub place_total : IsTotalOrder place_cmp
place_total = then_total (on_total (λ (p : SheetPlace). p.0) nat_list_cmp_total) (on_total (λ (p : SheetPlace). p.1) nat_list_cmp_total)

pub entry_exact : (x y : SheetEntry) → entry_cmp x y ≡ Equal → x ≡ y
entry_exact x y h =
    let first = then_equal (nat_cmp x.stamp y.stamp) (ordering_then (name_cmp x.who y.who) (int_cmp x.grade y.grade)) h in
    let rest = then_equal (name_cmp x.who y.who) (int_cmp x.grade y.grade) first.1 in
    let stamp = exact_unsigned x.stamp y.stamp first.0 in
    let who = exact_bytes x.who y.who rest.0 in
    let grade = exact_signed x.grade y.grade rest.1 in
    λ i. record { stamp = stamp i; who = who i; grade = grade i }

pub place_exact : (p q : SheetPlace) → place_cmp p q ≡ Equal → p ≡ q
place_exact p q h =
    let both = then_equal (name_cmp p.0 q.0) (name_cmp p.1 q.1) h in
    let topic = exact_bytes p.0 q.0 both.0 in
    let doc = exact_bytes p.1 q.1 both.1 in
    λ i. (topic i, doc i)

-- ---- the greater of two entries
lt_reversed : (r : Ordering) → is_lt (ordering_reverse r) ≡ is_gt r
lt_reversed Less = refl
lt_reversed Equal = refl
lt_reversed Greater = refl

-- x is below y exactly where y is above x
lt_gt : (x y : SheetEntry) → is_lt (entry_cmp x y) ≡ is_gt (entry_cmp y x)
lt_gt x y = ap is_lt (entry_total.antisymm x y) ∙ lt_reversed (entry_cmp y x)

pub second : (x y : SheetEntry) → is_lt (entry_cmp x y) ≡ true → greater x y ≡ y
second x y e = ap (λ b. if b then y else x) e

first : (x y : SheetEntry) → is_lt (entry_cmp x y) ≡ false → greater x y ≡ x
first x y e = ap (λ b. if b then y else x) e

pub greater-itself : (x : SheetEntry) → greater x x ≡ x
greater-itself x = same (is_lt (entry_cmp x x))
  where
    same : (b : Bool) → (if b then x else x) ≡ x
    same true = refl
    same false = refl

pub greater-order : (x y : SheetEntry) → greater x y ≡ greater y x
greater-order x y = go (entry_cmp x y) refl
  where
    go : (r : Ordering) → entry_cmp x y ≡ r → greater x y ≡ greater y x
    go Less e = second x y (ap is_lt e) ∙ sym (first y x (ap is_lt (entry_total.antisymm y x ∙ ap ordering_reverse e)))
    go Equal e = first x y (ap is_lt e) ∙ entry_exact x y e ∙ sym (first y x (ap is_lt (entry_total.antisymm y x ∙ ap ordering_reverse e)))
    go Greater e = first x y (ap is_lt e) ∙ sym (second y x (ap is_lt (entry_total.antisymm y x ∙ ap ordering_reverse e)))

less_from : (r : Ordering) → is_lt r ≡ true → r ≡ Less
less_from Less h = refl
less_from Equal h = absurd (true≢false (sym h))
less_from Greater h = absurd (true≢false (sym h))

-- below chains, and not below chains
lt-trans : (x y z : SheetEntry) → is_lt (entry_cmp x y) ≡ true → is_lt (entry_cmp y z) ≡ true → is_lt (entry_cmp x z) ≡ true
lt-trans x y z e f = ap is_lt (entry_total.trans x y z (less_from (entry_cmp x y) e) (less_from (entry_cmp y z) f))

ge-trans : (x y z : SheetEntry) → is_lt (entry_cmp x y) ≡ false → is_lt (entry_cmp y z) ≡ false → is_lt (entry_cmp x z) ≡ false
ge-trans x y z e f = lt_gt x z ∙ upto entry_total z y x (sym (lt_gt y z) ∙ f) (sym (lt_gt x y) ∙ e)

pub greater-pairs : (x y z : SheetEntry) → greater (greater x y) z ≡ greater x (greater y z)
greater-pairs x y z = go (is_lt (entry_cmp x y)) (is_lt (entry_cmp y z)) refl refl
  where
    go : (b c : Bool) → is_lt (entry_cmp x y) ≡ b → is_lt (entry_cmp y z) ≡ c → greater (greater x y) z ≡ greater x (greater y z)
    go true true e f = ap (λ w. greater w z) (second x y e) ∙ second y z f ∙ sym (second x z (lt-trans x y z e f)) ∙ ap (greater x) (sym (second y z f))
    go true false e f = ap (λ w. greater w z) (second x y e) ∙ first y z f ∙ sym (second x y e) ∙ ap (greater x) (sym (first y z f))
    go false true e f = ap (λ w. greater w z) (first x y e) ∙ ap (greater x) (sym (second y z f))
    go false false e f = ap (λ w. greater w z) (first x y e) ∙ first x z (ge-trans x y z e f) ∙ sym (first x y e) ∙ ap (greater x) (sym (first y z f))

-- ---- of two, where there are any
pub greater_of-none : (x : Option SheetEntry) → greater_of x None ≡ x
greater_of-none None = refl
greater_of-none (Some x) = refl

pub greater_of-itself : (x : Option SheetEntry) → greater_of x x ≡ x
greater_of-itself None = refl
greater_of-itself (Some x) = ap Some (greater-itself x)

pub greater_of-order : (x y : Option SheetEntry) → greater_of x y ≡ greater_of y x
greater_of-order None None = refl
greater_of-order None (Some y) = refl
greater_of-order (Some x) None = refl
greater_of-order (Some x) (Some y) = ap Some (greater-order x y)

pub greater_of-pairs : (x y z : Option SheetEntry) → greater_of (greater_of x y) z ≡ greater_of x (greater_of y z)
greater_of-pairs None y z = refl
greater_of-pairs (Some x) None z = refl
greater_of-pairs (Some x) (Some y) None = refl
greater_of-pairs (Some x) (Some y) (Some z) = ap Some (greater-pairs x y z)

pub some_first : (x y : Option SheetEntry) → is_some x ≡ true → is_some (greater_of x y) ≡ true
some_first None y h = absurd (true≢false (sym h))
some_first (Some x) None h = refl
some_first (Some x) (Some y) h = refl
