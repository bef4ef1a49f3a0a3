-- The documents that pass a test, the place of each among them, and lists of such documents.
use Rattle.std.proofs.Common.{◌≡◌, ℕ, zero, suc, ◌+◌, ◌<◌, ◌≤◌, Bool, true, false, cond, List, [], ◌∷◌, ◌++◌, length, get_or, map, map-id, refl, ap, sym, subst, ◌∙◌, arith}
use Rattle.std.specs.Prelude.{All, filter, slice_index}
use Rattle.std.specs.List.{AllByRecursion, range_with_len}
use Rattle.std.specs.List.Sorted.{IsStrictlyIncreasing}
use Rattle.std.proofs.lemmas.List.{append-nil, get_or-map, length-map}
use Rattle.std.proofs.lemmas.List.Elements.{All-from_recursion, recursion_from_All}
use Rattle.std.proofs.lemmas.List.FromFn.{fill_by_all, get_or-map-range_with_len, length-range_with_len, map-range_with_len_more}
use Rattle.std.proofs.lemmas.List.Sums.{length-filter, count_by-le-length}
use Rattle.desk_model.specs.Name.{is_name, AreAscending}
use Rattle.line_forms.specs.Rows.{AllFollow}
use Rattle.order_certificate.specs.Certificate.{AreDocuments}
use Rattle.order_bundle.specs.Bundle.{ArePicks}
use Rattle.order_bundle.specs.Evidence.{name_at}
use Rattle.order_bundle.specs.Places.{IsPick}
use Rattle.order_bundle.proofs.PickOrder.{follow_picks, next_pick}
use Rattle.pair_table.proofs.Documents.{listed_documents}
use Rattle.pair_table.proofs.Zips.{all_in_range}
use Rattle.table_bundle.specs.Drafts.{names_where, places_where, replaced_list}

-- one more of a range, and of what passes there
pub range_more : (n : ℕ) → range_with_len 0 (n + 1) ≡ range_with_len 0 n ++ n ∷ []
range_more n = sym (map-id (range_with_len 0 (n + 1))) ∙ map-range_with_len_more (λ k. k) 0 n n (omega arith) ∙ ap (λ ks. ks ++ n ∷ []) (map-id (range_with_len 0 n))

filter_joined : (p : ℕ → Bool) (xs ys : List ℕ) → filter p (xs ++ ys) ≡ filter p xs ++ filter p ys
filter_joined p [] ys = refl
filter_joined p (x ∷ xs) ys = ap (λ l. cond (p x) (x ∷ l) l) (filter_joined p xs ys) ∙ go (p x)
  where
    go : (b : Bool) → cond b (x ∷ (filter p xs ++ filter p ys)) (filter p xs ++ filter p ys) ≡ cond b (x ∷ filter p xs) (filter p xs) ++ filter p ys
    go true = refl
    go false = refl

pub filter_more : (p : ℕ → Bool) (n : ℕ) → p n ≡ true → filter p (range_with_len 0 (n + 1)) ≡ filter p (range_with_len 0 n) ++ n ∷ []
filter_more p n passes = ap (filter p) (range_more n) ∙ filter_joined p (range_with_len 0 n) (n ∷ []) ∙ ap (λ b. filter p (range_with_len 0 n) ++ cond b (n ∷ []) []) passes

pub filter_kept : (p : ℕ → Bool) (n : ℕ) → p n ≡ false → filter p (range_with_len 0 (n + 1)) ≡ filter p (range_with_len 0 n)
filter_kept p n fails =
    ap (filter p) (range_more n) ∙ filter_joined p (range_with_len 0 n) (n ∷ []) ∙ ap (λ b. filter p (range_with_len 0 n) ++ cond b (n ∷ []) []) fails ∙ append-nil (filter p (range_with_len 0 n))

pub filter_same : {X : Type 0} (p q : X → Bool) (xs : List X) → AllByRecursion (λ x. p x ≡ q x) xs → filter p xs ≡ filter q xs
filter_same p q [] h = refl
filter_same p q (x ∷ xs) h = ap (λ b. cond b (x ∷ filter p xs) (filter p xs)) h.0 ∙ ap (λ l. cond (q x) (x ∷ l) l) (filter_same p q xs h.1)

filter_mapped : {X Y : Type 0} (f : X → Y) (q : Y → Bool) (xs : List X) → filter q (map f xs) ≡ map f (filter (λ x. q (f x)) xs)
filter_mapped f q [] = refl
filter_mapped f q (x ∷ xs) = ap (λ l. cond (q (f x)) (f x ∷ l) l) (filter_mapped f q xs) ∙ go (q (f x))
  where
    go : (b : Bool) → cond b (f x ∷ map f (filter (λ z. q (f z)) xs)) (map f (filter (λ z. q (f z)) xs)) ≡ map f (cond b (x ∷ filter (λ z. q (f z)) xs) (filter (λ z. q (f z)) xs))
    go true = refl
    go false = refl

-- those of a list whose numbers pass
pub names_filtered : (p : ℕ → Bool) (q : List ℕ → Bool) (docs : List (List ℕ)) → ((d : ℕ) → d < length docs → q (name_at docs d) ≡ p d) → names_where p docs ≡ filter q docs
names_filtered p q docs h =
    let n = length docs in
    let whole : docs ≡ map (name_at docs) (range_with_len 0 n) = fill_by_all (name_at docs) docs n [] refl (λ k lt. refl) in
    sym (
    ap (filter q) whole ∙ filter_mapped (name_at docs) q (range_with_len 0 n)
    ∙ ap (map (name_at docs)) (filter_same (λ d. q (name_at docs d)) p (range_with_len 0 n) (all_in_range (λ d. q (name_at docs d) ≡ p d) 0 n (λ d from to. h d (omega (arith, to)))))
    )

-- a test that agrees on all documents
pub names_agree : (p q : ℕ → Bool) (docs : List (List ℕ)) → ((d : ℕ) → d < length docs → p d ≡ q d) → names_where p docs ≡ names_where q docs
names_agree p q docs h =
    ap (map (name_at docs)) (filter_same p q (range_with_len 0 (length docs)) (all_in_range (λ d. p d ≡ q d) 0 (length docs) (λ d from to. h d (omega (arith, to)))))

map_agree : {X Y : Type 0} (f g : X → Y) (xs : List X) → AllByRecursion (λ x. f x ≡ g x) xs → map f xs ≡ map g xs
map_agree f g [] h = refl
map_agree f g (x ∷ xs) h = ap (λ y. y ∷ map f xs) h.0 ∙ ap (λ ys. g x ∷ ys) (map_agree f g xs h.1)

pub places_agree : (p q : ℕ → Bool) (n : ℕ) → ((d : ℕ) → d < n → p d ≡ q d) → places_where p n ≡ places_where q n
places_agree p q n h =
    map_agree (λ d. length (filter p (range_with_len 0 d))) (λ d. length (filter q (range_with_len 0 d))) (range_with_len 0 n)
    (all_in_range (λ d. length (filter p (range_with_len 0 d)) ≡ length (filter q (range_with_len 0 d))) 0 n (λ d from to.
    ap length (filter_same p q (range_with_len 0 d) (all_in_range (λ e. p e ≡ q e) 0 d (λ e first last. h e (omega (arith, to, last)))))))

module _ (p : ℕ → Bool) where
  -- how many before a number pass
  abbrev pub place : ℕ → ℕ
  place d = length (filter p (range_with_len 0 d))

  found : (a k n : ℕ) → k < n → p (a + k) ≡ true → get_or (filter p (range_with_len a n)) (length (filter p (range_with_len a k))) 0 ≡ a + k
  found a k zero lt here = absurd (omega arith)
  found a zero (suc n) lt here =
      let at : a + 0 ≡ a = omega arith in
      let passes : p a ≡ true = ap p (sym at) ∙ here in
      rw passes (sym at)
  found a (suc k) (suc n) lt here =
      let at : a + 1 + k ≡ a + suc k = omega arith in
      skip (p a) ∙ found (a + 1) k n (omega arith) (ap p at ∙ here) ∙ at
    where
      skip : (b : Bool) → get_or (cond b (a ∷ filter p (range_with_len (a + 1) n)) (filter p (range_with_len (a + 1) n))) (length (cond b (a ∷ filter p (range_with_len (a + 1) k)) (filter p (range_with_len (a + 1) k)))) 0
          ≡ get_or (filter p (range_with_len (a + 1) n)) (length (filter p (range_with_len (a + 1) k))) 0
      skip true = refl
      skip false = refl

  fewer : (a k n : ℕ) → k < n → p (a + k) ≡ true → length (filter p (range_with_len a k)) < length (filter p (range_with_len a n))
  fewer a k zero lt here = absurd (omega arith)
  fewer a zero (suc n) lt here =
      let at : a + 0 ≡ a = omega arith in
      let passes : p a ≡ true = ap p (sym at) ∙ here in
      rw passes (omega arith)
  fewer a (suc k) (suc n) lt here =
      let at : a + 1 + k ≡ a + suc k = omega arith in
      skip (p a) (fewer (a + 1) k n (omega arith) (ap p at ∙ here))
    where
      skip : (b : Bool) → length (filter p (range_with_len (a + 1) k)) < length (filter p (range_with_len (a + 1) n)) →
          length (cond b (a ∷ filter p (range_with_len (a + 1) k)) (filter p (range_with_len (a + 1) k))) < length (cond b (a ∷ filter p (range_with_len (a + 1) n)) (filter p (range_with_len (a + 1) n)))
      skip true h = omega (arith, h)
      skip false h = h

  -- a document that passes stands at its place among those that do
  pub place_found : (n d : ℕ) → d < n → p d ≡ true → get_or (filter p (range_with_len 0 n)) (place d) 0 ≡ d
  place_found n d lt here = let at : 0 + d ≡ d = omega arith in found 0 d n lt (ap p at ∙ here) ∙ at

  pub place_before : (d e : ℕ) → d < e → p d ≡ true → place d < place e
  place_before d e lt here = let at : 0 + d ≡ d = omega arith in fewer 0 d e lt (ap p at ∙ here)

  ascend : (bound least a n : ℕ) → least ≤ a → a + n ≤ bound → AllFollow next_pick (IsPick bound) least (filter p (range_with_len a n))
  ascend bound least a zero from to = tt
  ascend bound least a (suc n) from to = go (p a) (ascend bound (suc a) (a + 1) n (omega arith) (omega (arith, to))) (ascend bound least (a + 1) n (omega (arith, from)) (omega (arith, to)))
    where
      go : (b : Bool) → AllFollow next_pick (IsPick bound) (suc a) (filter p (range_with_len (a + 1) n)) → AllFollow next_pick (IsPick bound) least (filter p (range_with_len (a + 1) n)) →
          AllFollow next_pick (IsPick bound) least (cond b (a ∷ filter p (range_with_len (a + 1) n)) (filter p (range_with_len (a + 1) n)))
      go true taken left = ((from, omega (arith, to)), taken)
      go false taken left = left

  -- the documents that pass, as picks
  pub chosen_picks : (n : ℕ) → n ≤ 25000000 → ArePicks n (filter p (range_with_len 0 n))
  chosen_picks n few =
      let follow = follow_picks n (filter p (range_with_len 0 n)) (ascend n 0 0 n (omega arith) (omega arith)) in
      record {
        count = omega (arith, few, length-filter p (range_with_len 0 n), count_by-le-length p (range_with_len 0 n), length-range_with_len 0 n);
        ascending = follow.0;
        within = All-from_recursion (λ k. k < n) (filter p (range_with_len 0 n)) follow.1;
      }

  module _ (docs : List (List ℕ)) where
    abbrev n : ℕ
    n = length docs

    abbrev kept : List (List ℕ)
    kept = names_where p docs

    abbrev places : List ℕ
    places = places_where p n

    length-kept : length kept ≡ length (filter p (range_with_len 0 n))
    length-kept = length-map (filter p (range_with_len 0 n)) (name_at docs)

    pub place_at : (d : ℕ) → d < n → slice_index places d ≡ place d
    place_at d lt = get_or-map-range_with_len place 0 n d d 0 lt (omega arith)

    place_within : (d : ℕ) → d < n → p d ≡ true → place d < length kept
    place_within d lt here = omega (arith, length-kept, place_before d n lt here)

    -- its name stands there among the kept ones
    name_found : (d : ℕ) → d < n → p d ≡ true → name_at kept (slice_index places d) ≡ name_at docs d
    name_found d lt here =
        ap (name_at kept) (place_at d lt)
        ∙ get_or-map (name_at docs) (filter p (range_with_len 0 n)) (place d) 0 [] (omega (arith, length-kept, place_within d lt here))
        ∙ ap (name_at docs) (place_found n d lt here)

    pub names_found : (picks : List ℕ) → AllByRecursion (λ d. d < n) picks → AllByRecursion (λ d. p d ≡ true) picks → map (name_at kept) (replaced_list places picks) ≡ map (name_at docs) picks
    names_found [] below pass = refl
    names_found (d ∷ picks) below pass =
        ap (λ x. x ∷ map (name_at kept) (replaced_list places picks)) (name_found d below.0 pass.0) ∙ ap (λ l. name_at docs d ∷ l) (names_found picks below.1 pass.1)

    within_kept : (picks : List ℕ) → AllByRecursion (λ d. d < n) picks → AllByRecursion (λ d. p d ≡ true) picks → AllByRecursion (λ k. k < length kept) (replaced_list places picks)
    within_kept [] below pass = tt
    within_kept (d ∷ picks) below pass = (subst (λ k. k < length kept) (sym (place_at d below.0)) (place_within d below.0 pass.0), within_kept picks below.1 pass.1)

    rise_kept : (picks : List ℕ) → All (λ d. d < n) picks → All (λ d. p d ≡ true) picks → IsStrictlyIncreasing picks → IsStrictlyIncreasing (replaced_list places picks)
    rise_kept picks below pass up k lt =
        let long : length (replaced_list places picks) ≡ length picks = length-map picks (slice_index places) in
        let in_first : k < length picks = omega (arith, lt, long) in
        let in_second : k + 1 < length picks = omega (arith, lt, long) in
        let first : slice_index (replaced_list places picks) k ≡ place (slice_index picks k) = get_or-map (slice_index places) picks k 0 0 in_first ∙ place_at (slice_index picks k) (below k 0 in_first) in
        let second : slice_index (replaced_list places picks) (k + 1) ≡ place (slice_index picks (k + 1)) = get_or-map (slice_index places) picks (k + 1) 0 0 in_second ∙ place_at (slice_index picks (k + 1)) (below (k + 1) 0 in_second) in
        let rises = place_before (slice_index picks k) (slice_index picks (k + 1)) (up k in_second) (pass k 0 in_first) in
        omega (arith, first, second, rises)

    -- picks that pass are picks of the kept ones
    pub picks_kept : (picks : List ℕ) → ArePicks n picks → AllByRecursion (λ d. p d ≡ true) picks → ArePicks (length kept) (replaced_list places picks)
    picks_kept picks are pass =
        let below = recursion_from_All (λ d. d < n) picks are.within in
        record {
          count = omega (arith, are.count, length-map picks (slice_index places));
          ascending = rise_kept picks are.within (All-from_recursion (λ d. p d ≡ true) picks pass) are.ascending;
          within = All-from_recursion (λ k. k < length kept) (replaced_list places picks) (within_kept picks below pass);
        }

    pub kept_documents : AreAscending docs → All (λ doc. is_name doc ≡ true) docs → n ≤ 25000000 → AreDocuments kept
    kept_documents up named few = listed_documents docs up [] p named few
