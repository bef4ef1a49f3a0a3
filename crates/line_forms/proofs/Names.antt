-- Names that ascend.
use Rattle.std.proofs.Common.{◌≡◌, ℕ, List, [], ◌∷◌, refl, true, map, rules}
use Rattle.std.specs.List.{AllByRecursion}
use Rattle.std.specs.List.Sorted.{IsStrictlySortedBy}
use Rattle.std.specs.declared.cmp.Ordering.TheVariants.{Less}
use Rattle.std.proofs.lemmas.Cmp.{nat_list_cmp_total}
use Rattle.std.proofs.lemmas.List.Elements.{All-from_recursion, recursion_from_All}
use Rattle.desk_model.specs.Name.{is_name, name_cmp, AreAscending}
use Rattle.line_forms.specs.Places.{IsLaterName, AreAscendingNames}
use Rattle.line_forms.specs.Rows.{AllFollow}

-- names, each of which can come after the one before it
abbrev Follow : List ℕ → List (List ℕ) → Type 0
Follow before names = AllFollow (λ (_ : List ℕ) (name : List ℕ). name) IsLaterName before names

-- a name is smaller than those that a greater one is smaller than
smaller_too : (a b : List ℕ) (ys : List (List ℕ)) → name_cmp a b ≡ Less → AllByRecursion (λ y. name_cmp b y ≡ Less) ys → AllByRecursion (λ y. name_cmp a y ≡ Less) ys
smaller_too a b [] lt h = tt
smaller_too a b (y ∷ ys) lt h = (nat_list_cmp_total.trans a b y lt h.0, smaller_too a b ys lt h.1)

follow_after : (b : List ℕ) (ns : List (List ℕ)) → Follow b ns → AllByRecursion (λ n. is_name n ≡ true) ns × AllByRecursion (λ n. name_cmp b n ≡ Less) ns × AreAscending ns
unfolding IsStrictlySortedBy
follow_after b [] h = (tt, tt, tt)
follow_after b (n ∷ ns) h =
    let r = follow_after n ns h.1 in
    ((h.0.0, r.0), (h.0.1, smaller_too b n ns h.0.1 r.1), (r.1, r.2))

after_follow : (b : List ℕ) (ns : List (List ℕ)) → AllByRecursion (λ n. is_name n ≡ true) ns → AllByRecursion (λ n. name_cmp b n ≡ Less) ns → AreAscending ns → Follow b ns
unfolding IsStrictlySortedBy
after_follow b [] named above up = tt
after_follow b (n ∷ ns) named above up = ((named.0, above.0), after_follow n ns named.1 up.0 up.1)

-- nothing is smaller than any name
empty_first : (name : List ℕ) → is_name name ≡ true → name_cmp [] name ≡ Less
empty_first [] h = search rules
empty_first (b ∷ bs) h = refl

empty_first_all : (ns : List (List ℕ)) → AllByRecursion (λ n. is_name n ≡ true) ns → AllByRecursion (λ n. name_cmp [] n ≡ Less) ns
empty_first_all [] h = tt
empty_first_all (n ∷ ns) h = (empty_first n h.0, empty_first_all ns h.1)

-- from nothing on, these are names in ascending order
pub follow_names : (ns : List (List ℕ)) → AllFollow (λ (_ : List ℕ) (name : List ℕ). name) IsLaterName [] ns → AreAscendingNames ns
follow_names ns h =
    let r = follow_after [] ns h in
    record { named = All-from_recursion (λ n. is_name n ≡ true) ns r.0; ascending = r.2 }

pub names_follow : (ns : List (List ℕ)) → AreAscendingNames ns → AllFollow (λ (_ : List ℕ) (name : List ℕ). name) IsLaterName [] ns
names_follow ns h =
    let named = recursion_from_All (λ n. is_name n ≡ true) ns h.named in
    after_follow [] ns named (empty_first_all ns named) h.ascending

-- rows with names that ascend, and a fact of each
module _ {V : Type 0} (name_of : V → List ℕ) (Fits : V → Type 0) where
  pub rows_apart : (before : List ℕ) (vs : List V) → AllFollow (λ (_ : List ℕ) v. name_of v) (λ before v. IsLaterName before (name_of v) × Fits v) before vs →
      AllFollow (λ (_ : List ℕ) (name : List ℕ). name) IsLaterName before (map name_of vs) × AllByRecursion Fits vs
  rows_apart before [] h = (tt, tt)
  rows_apart before (v ∷ vs) h = let r = rows_apart (name_of v) vs h.1 in ((h.0.0, r.0), (h.0.1, r.1))

  pub rows_together : (before : List ℕ) (vs : List V) → AllFollow (λ (_ : List ℕ) (name : List ℕ). name) IsLaterName before (map name_of vs) → AllByRecursion Fits vs →
      AllFollow (λ (_ : List ℕ) v. name_of v) (λ before v. IsLaterName before (name_of v) × Fits v) before vs
  rows_together before [] follow fits = tt
  rows_together before (v ∷ vs) follow fits = ((follow.0, fits.0), rows_together (name_of v) vs follow.1 fits.1)
