-- Flags that say which documents of a topic a list names, as they are set name by name.
use Rattle.std.proofs.Common.{◌≡◌, ◌≢◌, ℕ, zero, suc, ◌+◌, ◌<◌, ◌≤◌, Bool, true, false, ◌||◌, nat_eq, List, [], length, get_or, take, set, replicate, Some, refl, ap, sym, ◌∙◌, arith, length-set, get_or-set_same, get_or-set_other}
use Rattle.std.specs.Prelude.{slice_get}
use Rattle.std.proofs.lemmas.Bool.Decides.{nat_tests}
use Rattle.std.proofs.lemmas.List.Folds.{list_any_more}
use Rattle.std.proofs.lemmas.Option.{slice_get_within}
use Rattle.desk_model.specs.Name.{AreAscending, is_same_name, number_of}
use Rattle.desk_model.proofs.Nested.{get_or-there}
use Rattle.order_verifier.specs.Rows.{AreFlags, is_named}
use Rattle.order_verifier.proofs.OnLists.{by_number}

pub all_clear : (n k : ℕ) → get_or (replicate n false) k false ≡ false
all_clear zero k = refl
all_clear (suc n) zero = refl
all_clear (suc n) (suc k) = all_clear n k

or_true : (b : Bool) → (b || true) ≡ true
or_true true = refl
or_true false = refl

or_false : (b : Bool) → (b || false) ≡ b
or_false true = refl
or_false false = refl

module _ (docs : List (List ℕ)) (up : AreAscending docs) (names : List (List ℕ)) (i : ℕ) (name : List ℕ) (at : slice_get names i ≡ Some name) (number : ℕ) (numbered : number_of docs name ≡ Some number) (flags : List Bool) (before : AreFlags docs (take i names) flags) where
  -- one name more names its own document
  more : (doc : ℕ) → doc < length docs → is_named docs (take (i + 1) names) doc ≡ (is_named docs (take i names) doc || nat_eq number doc)
  more doc lt =
      let same : List ℕ → Bool = λ each. is_same_name each (get_or docs doc []) in
      list_any_more same names i name (slice_get_within names i name at)
      ∙ ap (λ b. is_named docs (take i names) doc || b) (ap same (get_or-there names i name name at) ∙ by_number docs up name number numbered doc lt)

  other : (doc : ℕ) → doc < length docs → doc < length flags → nat_eq number doc ≡ false → get_or flags doc false ≡ is_named docs (take (i + 1) names) doc
  other doc lt inside apart =
      before doc lt inside ∙ sym (more doc lt ∙ ap (λ b. is_named docs (take i names) doc || b) apart ∙ or_false (is_named docs (take i names) doc))

  pub flag_set : AreFlags docs (take (i + 1) names) (set flags number true)
  flag_set doc lt inside = by (nat_eq number doc) refl
    where
      there : doc < length flags
      there = omega (arith, inside, length-set flags number true)

      by : (b : Bool) → nat_eq number doc ≡ b → get_or (set flags number true) doc false ≡ is_named docs (take (i + 1) names) doc
      by true e =
          let one : number ≡ doc = grind (arith, nat_tests) in
          ap (λ k. get_or (set flags k true) doc false) one ∙ get_or-set_same flags doc true false there ∙ sym (more doc lt ∙ ap (λ b. is_named docs (take i names) doc || b) e ∙ or_true (is_named docs (take i names) doc))
      by false e =
          let apart : doc ≢ number = grind (arith, nat_tests) in get_or-set_other flags number doc true false apart ∙ other doc lt there e

  pub flag_beyond : length flags ≤ number → AreFlags docs (take (i + 1) names) flags
  flag_beyond past doc lt inside =
      let apart : nat_eq number doc ≡ false = grind (arith, nat_tests) in other doc lt inside apart
