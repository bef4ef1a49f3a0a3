-- The names of those documents of a topic that pass a test.
use Rattle.std.proofs.Common.{◌≡◌, ℕ, zero, suc, ◌+◌, ◌<◌, ◌≤◌, Bool, true, false, cond, List, [], ◌∷◌, map, map-id, length, get_or, Some, refl, ap, sym, subst, ◌∙◌, ◌⊎◌, inl, inr, arith}
use Rattle.std.specs.Prelude.{All, filter, ◌&&◌}
use Rattle.std.specs.List.{AllByRecursion, IsDistinct, range_with_len, list_any}
use Rattle.std.specs.List.Sorted.{IsStrictlySortedBy}
use Rattle.std.specs.Ordering.{ordering_reverse, is_eq}
use Rattle.std.specs.declared.cmp.Ordering.TheVariants.{Less}
use Rattle.std.proofs.lemmas.Cmp.{nat_list_cmp_total}
use Rattle.std.proofs.lemmas.List.{length-map}
use Rattle.std.proofs.lemmas.List.Elements.{All-from_recursion}
use Rattle.std.proofs.lemmas.List.FromFn.{length-range_with_len}
use Rattle.std.proofs.lemmas.List.Sums.{length-filter, count_by-le-length}
use Rattle.std.proofs.lemmas.Option.{slice_get-get_or}
use Rattle.std.proofs.lemmas.Slice.Eq.{bytes_eq-Decides}
use Rattle.desk_model.specs.Completion.{Completes, Allows, picked_value, with_picked}
use Rattle.desk_model.specs.Mark.{is_unjudged, mark_at}
use Rattle.desk_model.specs.Name.{is_name, name_cmp, is_same_name, number_of, AreAscending}
use Rattle.desk_model.specs.declared.types.Mark.{Mark}
use Rattle.desk_model.specs.declared.types.Mark.TheVariants.{Unjudged, Relevant, Other}
use Rattle.desk_model.proofs.MarkTests.{unjudged_is}
use Rattle.desk_model.proofs.Names.{same_by_cmp, ascending_far}
use Rattle.order_certificate.specs.Certificate.{AreDocuments}
use Rattle.pair_table.specs.Evidence.{relevant_names}
use Rattle.pair_table.proofs.Listing.{number_there}

each_apart : (x : List ℕ) (ys : List (List ℕ)) → AllByRecursion (λ y. name_cmp x y ≡ Less) ys → AllByRecursion (λ y. is_same_name x y ≡ false) ys
each_apart x [] h = tt
each_apart x (y ∷ ys) h = (same_by_cmp x y ∙ ap is_eq h.0, each_apart x ys h.1)

-- names that ascend are different
pub distinct_names : (names : List (List ℕ)) → AreAscending names → IsDistinct is_same_name names
unfolding IsDistinct IsStrictlySortedBy
distinct_names [] h = tt
distinct_names (x ∷ names) h = (each_apart x names h.0, distinct_names names h.1)

module _ (docs : List (List ℕ)) (up : AreAscending docs) where
  abbrev name : ℕ → List ℕ
  name doc = get_or docs doc []

  -- the names of those documents of a range that pass a test
  abbrev ranged : (ℕ → Bool) → ℕ → ℕ → List (List ℕ)
  ranged p a n = map name (filter p (range_with_len a n))

  far : (i j : ℕ) → i < j → j < length docs → name_cmp (name i) (name j) ≡ Less
  far i j lt within = ascending_far (λ x. x) docs i j [] (subst AreAscending (sym (map-id docs)) up) lt within

  below_apart : (i j : ℕ) → i < j → j < length docs → is_same_name (name i) (name j) ≡ false
  below_apart i j lt within = same_by_cmp (name i) (name j) ∙ ap is_eq (far i j lt within)

  above_apart : (i j : ℕ) → j < i → i < length docs → is_same_name (name i) (name j) ≡ false
  above_apart i j lt within = same_by_cmp (name i) (name j) ∙ ap is_eq (nat_list_cmp_total.antisymm (name i) (name j) ∙ ap ordering_reverse (far j i lt within))

  module _ (p : ℕ → Bool) where
    -- the names of those of the documents from a on that pass, by the test of a
    abbrev with_first : Bool → ℕ → ℕ → List (List ℕ)
    with_first b a n = map name (cond b (a ∷ filter p (range_with_len (a + 1) n)) (filter p (range_with_len (a + 1) n)))

    each_next : (P : List ℕ → Type 0) (a n : ℕ) (b : Bool) → (b ≡ true → P (name a)) → AllByRecursion P (ranged p (a + 1) n) → AllByRecursion P (with_first b a n)
    each_next P a n true first later = (first refl, later)
    each_next P a n false first later = later

    each_ranged : (P : List ℕ → Type 0) (a n : ℕ) → ((doc : ℕ) → a ≤ doc → doc < a + n → p doc ≡ true → P (name doc)) → AllByRecursion P (ranged p a n)
    each_ranged P a zero h = tt
    each_ranged P a (suc n) h = each_next P a n (p a) (h a (omega arith) (omega arith)) (each_ranged P (a + 1) n (λ doc le lt e. h doc (omega arith) (omega arith) e))

    ascend_next : (a n : ℕ) (b : Bool) → AllByRecursion (λ y. name_cmp (name a) y ≡ Less) (ranged p (a + 1) n) → AreAscending (ranged p (a + 1) n) → AreAscending (with_first b a n)
    unfolding IsStrictlySortedBy
    ascend_next a n true first later = (first, later)
    ascend_next a n false first later = later

    ranged_ascend : (a n : ℕ) → a + n ≤ length docs → AreAscending (ranged p a n)
    unfolding IsStrictlySortedBy
    ranged_ascend a zero h = tt
    ranged_ascend a (suc n) h =
        ascend_next a n (p a) (each_ranged (λ y. name_cmp (name a) y ≡ Less) (a + 1) n (λ doc le lt e. far a doc (omega arith) (omega arith))) (ranged_ascend (a + 1) n (omega arith))

    length-ranged : (a n : ℕ) → length (ranged p a n) ≤ n
    length-ranged a n = omega (arith, length-map (filter p (range_with_len a n)) name, length-filter p (range_with_len a n), count_by-le-length p (range_with_len a n), length-range_with_len a n)

    abbrev names_it : ℕ → List (List ℕ) → Bool
    names_it doc names = list_any (λ each. is_same_name each (name doc)) names

    apart_next : (doc a n : ℕ) (b : Bool) → is_same_name (name a) (name doc) ≡ false → names_it doc (with_first b a n) ≡ names_it doc (ranged p (a + 1) n)
    apart_next doc a n true apart = rw apart refl
    apart_next doc a n false apart = refl

    elsewhere : (doc a n : ℕ) → a + n ≤ length docs → doc < a → names_it doc (ranged p a n) ≡ false
    elsewhere doc a zero h lt = refl
    elsewhere doc a (suc n) h lt = apart_next doc a n (p a) (above_apart a doc lt (omega arith)) ∙ elsewhere doc (a + 1) n (omega arith) (omega arith)

    here_next : (doc a n : ℕ) (b : Bool) → is_same_name (name a) (name doc) ≡ true → names_it doc (ranged p (a + 1) n) ≡ false → names_it doc (with_first b a n) ≡ b
    here_next doc a n true same later = rw same refl
    here_next doc a n false same later = later

    -- a document of the range is named exactly where it passes
    named_where : (doc a n : ℕ) → a + n ≤ length docs → a ≤ doc → doc < a + n → names_it doc (ranged p a n) ≡ p doc
    named_where doc a zero h le lt = absurd (omega arith)
    named_where doc a (suc n) h le lt =
        let place : (a ≡ doc) ⊎ (a < doc) = grind arith in
        elim place [
          | inl here ↦ here_next doc a n (p a) ((bytes_eq-Decides (name a) (name doc)).1 (ap name here)) (elsewhere doc (a + 1) n (omega arith) (omega (arith, here))) ∙ ap p here
          | inr after ↦ apart_next doc a n (p a) (below_apart a doc after (omega arith)) ∙ named_where doc (a + 1) n (omega arith) (omega arith) (omega arith)
        ]

  module _ (marks : List Mark) (truth : ℕ → Bool) where
    abbrev added : ℕ → Bool
    added doc = is_unjudged (mark_at marks doc) && truth doc

    -- a document is listed exactly where it is unjudged and true
    pub listed_where : (doc : ℕ) → doc < length docs → list_any (λ each. is_same_name each (name doc)) (relevant_names docs marks truth) ≡ added doc
    listed_where doc lt = named_where added doc 0 (length docs) (omega arith) (omega arith) (omega arith)

    -- so the listed ones are those that a completion makes relevant beside the judged ones
    pub listed_completes : Completes marks truth → length marks ≡ length docs → (doc : ℕ) → doc < length docs → with_picked marks (λ d. list_any (λ each. is_same_name each (name d)) (relevant_names docs marks truth)) doc ≡ truth doc
    listed_completes completes same doc lt = ap (λ b. picked_value b (mark_at marks doc)) (listed_where doc lt) ∙ by (mark_at marks doc) (truth doc) (completes doc (omega (arith, lt, same)))
      where
        by : (mark : Mark) (b : Bool) → Allows mark b → picked_value (is_unjudged mark && b) mark ≡ b
        by Unjudged b h = refl
        by Relevant b h = sym h
        by Other b h = sym h

    first_of : (b c : Bool) → (b && c) ≡ true → b ≡ true
    first_of true c h = refl
    first_of false c h = absurd (cc)

    -- each listed one is an unjudged document of the topic
    pub listed_unjudged : All (λ each. (doc : ℕ) × (number_of docs each ≡ Some doc) × (mark_at marks doc ≡ Unjudged)) (relevant_names docs marks truth)
    listed_unjudged =
        let P : List ℕ → Type 0 = λ each. (doc : ℕ) × (number_of docs each ≡ Some doc) × (mark_at marks doc ≡ Unjudged) in
        All-from_recursion P (relevant_names docs marks truth) (each_ranged added P 0 (length docs) (λ doc le lt e.
        let within : doc < length docs = omega (arith, lt) in
        (doc, number_there docs doc (name doc) (distinct_names docs up) (slice_get-get_or docs doc [] within), unjudged_is (mark_at marks doc) (first_of (is_unjudged (mark_at marks doc)) (truth doc) e))))

    pub listed_documents : All (λ doc. is_name doc ≡ true) docs → length docs ≤ 25000000 → AreDocuments (relevant_names docs marks truth)
    listed_documents named few = record {
      count = omega (arith, few, length-ranged added 0 (length docs));
      ascending = record {
        named = All-from_recursion (λ each. is_name each ≡ true) (relevant_names docs marks truth) (each_ranged added (λ each. is_name each ≡ true) 0 (length docs) (λ doc le lt e. named doc [] (omega arith)));
        ascending = ranged_ascend added 0 (length docs) (omega arith);
      };
    }
