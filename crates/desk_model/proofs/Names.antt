-- Names that are one, names that ascend, and looking a name up among these.
use Rattle.std.proofs.Common.{◌≡◌, ℕ, zero, suc, ◌+◌, ◌<◌, ◌≤◌, true, false, true≢false, Bool, ◌||◌, List, [], ◌∷◌, length, get_or, map, Some, None, Ok, Err, refl, ap, ap₂, sym, ◌∙◌, arith}
use Rattle.std.specs.List.{AllByRecursion, list_any, position_from}
use Rattle.std.specs.Str.{bytes_eq}
use Rattle.std.specs.Cmp.Lexicographic.{lists_ties}
use Rattle.std.specs.List.Sorted.{IsStrictlySortedBy, IsNonDecreasingBy, IsBinarySearchResult}
use Rattle.std.specs.Ordering.{nat_cmp, ordering_index, ordering_reverse, is_lt, is_eq}
use Rattle.std.specs.declared.cmp.Ordering.TheVariants.{Less}
use Rattle.std.proofs.lemmas.Cmp.{nat_list_cmp_total, alike_right}
use Rattle.std.proofs.lemmas.Bool.Decides.{nat_tests}
use Rattle.std.proofs.lemmas.Slice.Eq.{bytes_eq-Decides}
use Rattle.std.proofs.lemmas.List.Sorted.{searchable_from_sorted}
use Rattle.desk_model.specs.Name.{name_cmp, is_same_name, number_of, AreAscending}

-- two names are one exactly where they compare as equal
pub same_by_cmp : (x y : List ℕ) → is_same_name x y ≡ is_eq (name_cmp x y)
same_by_cmp = lists_ties nat_cmp (λ x y. grind (arith, nat_tests))

pub same_name : (x y : List ℕ) → bytes_eq x y ≡ true → x ≡ y
same_name x y e = (bytes_eq-Decides x y).0 e

-- a name is not less than a name that is less
pub two_ways : (x y : List ℕ) → name_cmp x y ≡ Less → name_cmp y x ≡ Less → ⊥
two_ways x y e f = true≢false (sym (ap is_lt f) ∙ ap is_lt (nat_list_cmp_total.antisymm y x ∙ ap ordering_reverse e))

-- a name is none of those above it
pub none_above : (x : List ℕ) (ys : List (List ℕ)) → AllByRecursion (λ y. name_cmp x y ≡ Less) ys → list_any (bytes_eq x) ys ≡ false
none_above x [] h = refl
none_above x (y ∷ ys) h = ap₂ (λ a b. a || b) (apart (bytes_eq x y) refl) (none_above x ys h.1)
  where
    apart : (b : Bool) → bytes_eq x y ≡ b → bytes_eq x y ≡ false
    apart true e = let self : name_cmp x x ≡ Less = ap (name_cmp x) (same_name x y e) ∙ h.0 in absurd (two_ways x x self self)
    apart false e = e

module _ {X : Type 0} (key : X → List ℕ) where
  -- keys ascend from place to place
  pub ascending_far : (xs : List X) (i j : ℕ) (d : X) → AreAscending (map key xs) → i < j → j < length xs → name_cmp (key (get_or xs i d)) (key (get_or xs j d)) ≡ Less
  unfolding IsStrictlySortedBy
  ascending_far [] i j d h lt in_range = absurd (omega arith)
  ascending_far (x ∷ xs) zero zero d h lt in_range = absurd (omega arith)
  ascending_far (x ∷ xs) zero (suc j) d h lt in_range = each xs j d h.0 (omega arith)
    where
      each : (ys : List X) (j : ℕ) (d : X) → AllByRecursion (λ y. name_cmp (key x) y ≡ Less) (map key ys) → j < length ys → name_cmp (key x) (key (get_or ys j d)) ≡ Less
      each [] j d h in_range = absurd (omega arith)
      each (y ∷ ys) zero d h in_range = h.0
      each (y ∷ ys) (suc j) d h in_range = each ys j d h.1 (omega arith)
  ascending_far (x ∷ xs) (suc i) zero d h lt in_range = absurd (omega arith)
  ascending_far (x ∷ xs) (suc i) (suc j) d h lt in_range = ascending_far xs i j d h.1 (omega arith) (omega arith)

  -- a name that no key is has no number
  pub no_position : (n : ℕ) (xs : List X) (name : List ℕ) (d : X) → ((k : ℕ) → k < length xs → is_same_name (key (get_or xs k d)) name ≡ false) → position_from (λ each. is_same_name each name) n (map key xs) ≡ None
  no_position n [] name d h = refl
  no_position n (x ∷ xs) name d h =
      let here : is_same_name (key x) name ≡ false = h 0 (omega arith) in
      rw here (no_position (n + 1) xs name d (λ k lt. h (suc k) (omega arith)))

  -- the first key that is a name has its number
  pub position_at : (n : ℕ) (xs : List X) (name : List ℕ) (at : ℕ) (d : X) → at < length xs → is_same_name (key (get_or xs at d)) name ≡ true → ((k : ℕ) → k < at → is_same_name (key (get_or xs k d)) name ≡ false) →
      position_from (λ each. is_same_name each name) n (map key xs) ≡ Some (n + at)
  position_at n [] name at d lt here before = absurd (omega arith)
  position_at n (x ∷ xs) name zero d lt here before = rw here (ap Some (omega arith))
  position_at n (x ∷ xs) name (suc at) d lt here before =
      let first : is_same_name (key x) name ≡ false = before 0 (omega arith) in
      let step : n + 1 + at ≡ n + suc at = omega arith in
      rw first (position_at (n + 1) xs name at d (omega arith) here (λ k below. before (suc k) (omega arith)) ∙ ap Some step)

  module _ (xs : List X) (up : AreAscending (map key xs)) (name : List ℕ) (d : X) where
    comparisons_rise : IsNonDecreasingBy (λ (x : X). ordering_index (name_cmp (key x) name)) xs
    comparisons_rise = searchable_from_sorted nat_list_cmp_total key xs name (λ k d' le lt.
        ap is_lt (nat_list_cmp_total.antisymm (key (get_or xs (k + 1) d')) (key (get_or xs k d')) ∙ ap ordering_reverse (ascending_far xs k (k + 1) d' up (omega arith) lt)))

    -- a search by name that finds a place finds the number of the name
    pub found_number : (at : ℕ) → at < length xs → IsBinarySearchResult (λ (x : X). name_cmp (key x) name) xs (Ok at) → number_of (map key xs) name ≡ Some at
    found_number at lt equal =
        let here : is_same_name (key (get_or xs at d)) name ≡ true = same_by_cmp (key (get_or xs at d)) name ∙ ap is_eq (equal d) in
        position_at 0 xs name at d lt here (λ k below.
        same_by_cmp (key (get_or xs k d)) name ∙ ap is_eq (sym (alike_right nat_list_cmp_total (key (get_or xs at d)) name (key (get_or xs k d)) (equal d)) ∙ ascending_far xs k at d up below lt))
        ∙ ap Some (omega arith)

    -- one that finds a gap finds that no key is the name
    pub no_number : (at : ℕ) → at ≤ length xs → IsBinarySearchResult (λ (x : X). name_cmp (key x) name) xs (Err at) → number_of (map key xs) name ≡ None
    no_number at le parted = no_position 0 xs name d (λ k lt.
        let parts = parted comparisons_rise in
        let below : k < at → is_same_name (key (get_or xs k d)) name ≡ false = λ before. same_by_cmp (key (get_or xs k d)) name ∙ ap is_eq (parts.0 k d (omega arith) before) in
        let above : at ≤ k → is_same_name (key (get_or xs k d)) name ≡ false = λ after. same_by_cmp (key (get_or xs k d)) name ∙ ap is_eq (parts.1 k d after lt) in
        grind (arith, below, above))
