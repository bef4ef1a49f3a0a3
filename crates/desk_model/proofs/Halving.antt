-- Looking a name up among ascending names by halving.
use Rattle.std.proofs.Common.{◌≡◌, ℕ, ◌+◌, ◌<◌, ◌≤◌, false, List, [], length, get_or, Some, None, ap, sym, subst, ◌∙◌, arith, below_more}
use Rattle.std.specs.Prelude.{slice_get}
use Rattle.std.specs.Ordering.{is_eq, ordering_reverse}
use Rattle.std.specs.declared.cmp.Ordering.TheVariants.{Less, Equal, Greater}
use Rattle.std.proofs.lemmas.Cmp.{nat_list_cmp_total, alike_right}
use Rattle.std.proofs.lemmas.List.{map-id}
use Rattle.std.proofs.lemmas.Option.{get_or_from_slice_get, slice_get_within}
use Rattle.desk_model.specs.Name.{name_cmp, is_same_name, number_of, AreAscending}
use Rattle.desk_model.proofs.Names.{same_by_cmp, ascending_far, no_position, position_at}

-- the names before low are smaller than a name, and those from high on are greater
pub record AreParted (names : List (List ℕ)) (name : List ℕ) (low high : ℕ) : Type 0 where
  pub within : high ≤ length names
  pub below : (k : ℕ) → k < low → name_cmp (get_or names k []) name ≡ Less
  pub above : (k : ℕ) → high ≤ k → k < length names → name_cmp (get_or names k []) name ≡ Greater

-- before the search
pub parted_at_first : (names : List (List ℕ)) (name : List ℕ) (high : ℕ) → high ≡ length names → AreParted names name 0 high
parted_at_first names name high e = record {
  within = omega arith;
  below = λ k lt. absurd (omega arith);
  above = λ k le lt. absurd (omega arith);
}

module _ (names : List (List ℕ)) (up : AreAscending names) (name : List ℕ) where
  ascends : (i j : ℕ) → i < j → j < length names → name_cmp (get_or names i []) (get_or names j []) ≡ Less
  ascends i j lt within = ascending_far (λ n. n) names i j [] (subst AreAscending (sym (map-id names)) up) lt within

  module _ (at : ℕ) (found : List ℕ) (here : slice_get names at ≡ Some found) where
    is_found : get_or names at [] ≡ found
    is_found = get_or_from_slice_get names at found [] here

    within : at < length names
    within = slice_get_within names at found here

    -- the name at a place is smaller
    pub parted_after : (low high : ℕ) → AreParted names name low high → name_cmp found name ≡ Less → AreParted names name (at + 1) high
    parted_after low high parted less = record {
      within = parted.within;
      below = below_more _ _ (λ k lt. nat_list_cmp_total.trans (get_or names k []) (get_or names at []) name (ascends k at lt within) smaller) smaller;
      above = parted.above;
    }
      where
        smaller : name_cmp (get_or names at []) name ≡ Less
        smaller = ap (λ n. name_cmp n name) is_found ∙ less

    -- the name at a place is greater
    pub parted_before : (low high : ℕ) → AreParted names name low high → name_cmp found name ≡ Greater → AreParted names name low at
    parted_before low high parted greater = record {
      within = omega (arith, within);
      below = parted.below;
      above = from;
    }
      where
        turned : name_cmp name (get_or names at []) ≡ Less
        turned = nat_list_cmp_total.antisymm name (get_or names at []) ∙ ap (λ n. ordering_reverse (name_cmp n name)) is_found ∙ ap ordering_reverse greater

        from : (k : ℕ) → at ≤ k → k < length names → name_cmp (get_or names k []) name ≡ Greater
        from k le lt =
            let same : k ≡ at → name_cmp (get_or names k []) name ≡ Greater = λ e. ap (λ i. name_cmp (get_or names i []) name) e ∙ ap (λ n. name_cmp n name) is_found ∙ greater in
            let later : at < k → name_cmp (get_or names k []) name ≡ Greater = λ more.
            nat_list_cmp_total.antisymm (get_or names k []) name ∙ ap ordering_reverse (nat_list_cmp_total.trans name (get_or names at []) (get_or names k []) turned (ascends at k more lt)) in
            grind (arith, same, later)

    -- the name at a place is the one that is looked for
    pub found_by_halving : name_cmp found name ≡ Equal → number_of names name ≡ Some at
    found_by_halving equal =
        ap (λ ns. number_of ns name) (sym (map-id names))
        ∙ position_at (λ n. n) 0 names name at [] within (same_by_cmp (get_or names at []) name ∙ ap is_eq equal_here) (λ k lt.
        same_by_cmp (get_or names k []) name ∙ ap is_eq (sym (alike_right nat_list_cmp_total (get_or names at []) name (get_or names k []) equal_here) ∙ ascends k at lt within))
        ∙ ap Some (omega arith)
      where
        equal_here : name_cmp (get_or names at []) name ≡ Equal
        equal_here = ap (λ n. name_cmp n name) is_found ∙ equal

  -- no place is left
  pub none_by_halving : (low high : ℕ) → AreParted names name low high → high ≤ low → number_of names name ≡ None
  none_by_halving low high parted le =
      ap (λ ns. number_of ns name) (sym (map-id names))
      ∙ no_position (λ n. n) 0 names name [] (λ k lt.
      let before : k < low → is_same_name (get_or names k []) name ≡ false = λ less. same_by_cmp (get_or names k []) name ∙ ap is_eq (parted.below k less) in
      let after : high ≤ k → is_same_name (get_or names k []) name ≡ false = λ more. same_by_cmp (get_or names k []) name ∙ ap is_eq (parted.above k more lt) in
      grind (arith, before, after))
