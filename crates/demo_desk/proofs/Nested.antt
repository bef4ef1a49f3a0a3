-- Rows that are made topic after topic, each of them for one number after the other.
use Rattle.std.proofs.Common.{◌≡◌, ℕ, zero, suc, ◌+◌, ◌*◌, ◌<◌, ◌≤◌, List, [], ◌∷◌, ◌++◌, length, true, false, cond, refl, ap, ap₂, sym, subst, ◌∙◌, arith, append_assoc, append-nil, length-append}
use Rattle.std.specs.Prelude.{Bool, ◌||◌, filter, flat_map}
use Rattle.std.specs.List.{list_any, range_with_len, AllByRecursion, AllZip}
use Rattle.std.specs.Str.{bytes_eq}
use Rattle.std.proofs.lemmas.Grind.{flat_map-append}
use Rattle.std.proofs.lemmas.List.Elements.{filter-append}
use Rattle.small_lemmas.proofs.Lists.{all-append}
use Rattle.qrels_round_trip.proofs.OneTopic.{filter_all}
use Rattle.demo_desk.proofs.TextLines.{range_more}

-- ---- what is made for each topic and number
module _ {R : Type 0} (f : ℕ → ℕ → List R) where
  -- for the first so many numbers of a topic
  abbrev pub of_topic : ℕ → ℕ → List R
  of_topic t k = flat_map (f t) (range_with_len 0 k)

  -- for the first so many numbers of the first so many topics
  abbrev pub of_topics : ℕ → ℕ → List R
  of_topics n m = flat_map (λ t. of_topic t n) (range_with_len 0 m)

  pub of_topic-suc : (t k : ℕ) → of_topic t (suc k) ≡ of_topic t k ++ f t k
  of_topic-suc t k =
      let e : suc k ≡ k + 1 = omega arith in
      let z : 0 + k ≡ k = omega arith in
      ap (λ n. of_topic t n) e ∙ ap (flat_map (f t)) (range_more 0 k) ∙ flat_map-append (f t) (range_with_len 0 k) ((0 + k) ∷ []) ∙ ap (λ ls. of_topic t k ++ ls) (append-nil (f t (0 + k)) ∙ ap (f t) z)

  pub of_topics-suc : (n m : ℕ) → of_topics n (suc m) ≡ of_topics n m ++ of_topic m n
  of_topics-suc n m =
      let e : suc m ≡ m + 1 = omega arith in
      let z : 0 + m ≡ m = omega arith in
      ap (of_topics n) e ∙ ap (flat_map (λ t. of_topic t n)) (range_more 0 m) ∙ flat_map-append (λ t. of_topic t n) (range_with_len 0 m) ((0 + m) ∷ [])
      ∙ ap (λ ls. of_topics n m ++ ls) (append-nil (of_topic (0 + m) n) ∙ ap (λ t. of_topic t n) z)

  pub all_of_topic : (Q : R → Type 0) (t k : ℕ) → ((i : ℕ) → i < k → AllByRecursion Q (f t i)) → AllByRecursion Q (of_topic t k)
  all_of_topic Q t zero h = tt
  all_of_topic Q t (suc k) h =
      subst (AllByRecursion Q) (sym (of_topic-suc t k)) (all-append Q (of_topic t k) (f t k) (all_of_topic Q t k (λ i lt. h i (omega arith))) (h k (omega arith)))

  pub all_of_topics : (Q : R → Type 0) (n m : ℕ) → ((t i : ℕ) → t < m → i < n → AllByRecursion Q (f t i)) → AllByRecursion Q (of_topics n m)
  all_of_topics Q n zero h = tt
  all_of_topics Q n (suc m) h =
      subst (AllByRecursion Q) (sym (of_topics-suc n m))
      (all-append Q (of_topics n m) (of_topic m n) (all_of_topics Q n m (λ t i lt. h t i (omega arith))) (all_of_topic Q m n (λ i. h m i (omega arith))))

  -- at most one for each
  module _ (one : (t k : ℕ) → length (f t k) ≤ 1) where
    pub most_of_topic : (t k : ℕ) → length (of_topic t k) ≤ k
    most_of_topic t zero = omega arith
    most_of_topic t (suc k) = omega (arith, ap length (of_topic-suc t k), length-append (of_topic t k) (f t k), most_of_topic t k, one t k)

    pub most_of_topics : (n m : ℕ) → length (of_topics n m) ≤ n * m
    most_of_topics n zero = omega arith
    most_of_topics n (suc m) = omega (arith, ap length (of_topics-suc n m), length-append (of_topics n m) (of_topic m n), most_of_topics n m, most_of_topic m n)

  -- one for each
  module _ (one : (t k : ℕ) → length (f t k) ≡ 1) where
    pub count_of_topic : (t k : ℕ) → length (of_topic t k) ≡ k
    count_of_topic t zero = refl
    count_of_topic t (suc k) = omega (arith, ap length (of_topic-suc t k), length-append (of_topic t k) (f t k), count_of_topic t k, one t k)

    pub count_of_topics : (n m : ℕ) → length (of_topics n m) ≡ n * m
    count_of_topics n zero = omega arith
    count_of_topics n (suc m) = omega (arith, ap length (of_topics-suc n m), length-append (of_topics n m) (of_topic m n), count_of_topics n m, count_of_topic m n)

-- two lists that are made so agree where each two parts do
zip-append : {A B : Type 0} (P : A → B → Type 0) (xs xs' : List A) (ys ys' : List B) → AllZip P xs ys → AllZip P xs' ys' → AllZip P (xs ++ xs') (ys ++ ys')
zip-append P [] xs' [] ys' h k = k
zip-append P [] xs' (y ∷ ys) ys' h k = absurd h
zip-append P (x ∷ xs) xs' [] ys' h k = absurd h
zip-append P (x ∷ xs) xs' (y ∷ ys) ys' h k = (h.0, zip-append P xs xs' ys ys' h.1 k)

module _ {A B : Type 0} (P : A → B → Type 0) (f : ℕ → ℕ → List A) (g : ℕ → ℕ → List B) where
  zip_of_topic : (t k : ℕ) → ((i : ℕ) → i < k → AllZip P (f t i) (g t i)) → AllZip P (of_topic f t k) (of_topic g t k)
  zip_of_topic t zero h = tt
  zip_of_topic t (suc k) h =
      subst (λ xs. AllZip P xs (of_topic g t (suc k))) (sym (of_topic-suc f t k))
      (subst (AllZip P (of_topic f t k ++ f t k)) (sym (of_topic-suc g t k)) (zip-append P (of_topic f t k) (f t k) (of_topic g t k) (g t k) (zip_of_topic t k (λ i lt. h i (omega arith))) (h k (omega arith))))

  pub zip_of_topics : (n m : ℕ) → ((t i : ℕ) → t < m → i < n → AllZip P (f t i) (g t i)) → AllZip P (of_topics f n m) (of_topics g n m)
  zip_of_topics n zero h = tt
  zip_of_topics n (suc m) h =
      subst (λ xs. AllZip P xs (of_topics g n (suc m))) (sym (of_topics-suc f n m))
      (subst (AllZip P (of_topics f n m ++ of_topic f m n)) (sym (of_topics-suc g n m))
      (zip-append P (of_topics f n m) (of_topic f m n) (of_topics g n m) (of_topic g m n) (zip_of_topics n m (λ t i lt. h t i (omega arith))) (zip_of_topic m n (λ i. h m i (omega arith)))))

-- ---- new rows
none_kept : {X : Type 0} (p q : X → Bool) (xs : List X) → AllByRecursion (λ x. q x ≡ false) xs → list_any q (filter p xs) ≡ false
none_kept p q [] h = refl
none_kept p q (x ∷ xs) h = by (p x) (none_kept p q xs h.1)
  where
    by : (b : Bool) → list_any q (filter p xs) ≡ false → list_any q (cond b (x ∷ filter p xs) (filter p xs)) ≡ false
    by true rest = ap₂ (λ a b. a || b) h.0 rest
    by false rest = rest

fewer_kept : {X : Type 0} (p : X → Bool) (xs : List X) → length (filter p xs) ≤ length xs
fewer_kept p [] = omega arith
fewer_kept p (x ∷ xs) = by (p x) (fewer_kept p xs)
  where
    by : (b : Bool) → length (filter p xs) ≤ length xs → length (cond b (x ∷ filter p xs) (filter p xs)) ≤ length (x ∷ xs)
    by true rest = omega (arith, rest)
    by false rest = omega (arith, rest)

module _ {R : Type 0} (topic document : R → List ℕ) where
  abbrev pub on : List ℕ → List R → List R
  on name rows = filter (λ row. bytes_eq name (topic row)) rows

  -- none of the rows before it has its topic and its document, and few are on its topic
  pub record IsNew (most : ℕ) (before : List R) (row : R) : Type 0 where
    pub other : list_any (λ r. bytes_eq (document row) (document r)) (on (topic row) before) ≡ false
    pub few : length (on (topic row) before) < most

  -- each row is new after those before it
  abbrev pub AreNew : ℕ → List R → List R → Type 0
  AreNew most before [] = Unit {0}
  AreNew most before (row ∷ rows) = IsNew most before row × AreNew most (before ++ row ∷ []) rows

  new-append : (most : ℕ) (before xs ys : List R) → AreNew most before xs → AreNew most (before ++ xs) ys → AreNew most before (xs ++ ys)
  new-append most before [] ys h k = subst (λ b. AreNew most b ys) (append-nil before) k
  new-append most before (x ∷ xs) ys h k = (h.0, new-append most (before ++ x ∷ []) xs ys h.1 (subst (λ b. AreNew most b ys) (sym (append_assoc before (x ∷ []) xs)) k))

  -- the rows before it are on other topics, or few and of other documents
  new_after : (most : ℕ) (before here : List R) (row : R) → AllByRecursion (λ r. bytes_eq (topic row) (topic r) ≡ false) before →
      AllByRecursion (λ r. bytes_eq (document row) (document r) ≡ false) here → length here < most → IsNew most (before ++ here) row
  new_after most before here row others differ few =
      let kept : on (topic row) (before ++ here) ≡ on (topic row) here =
      filter-append (λ r. bytes_eq (topic row) (topic r)) before here ∙ ap (λ rs. rs ++ on (topic row) here) (filter_all (λ r. bytes_eq (topic row) (topic r)) false before others) in
      record {
        other = ap (list_any (λ r. bytes_eq (document row) (document r))) kept ∙ none_kept (λ r. bytes_eq (topic row) (topic r)) (λ r. bytes_eq (document row) (document r)) here differ;
        few = omega (arith, ap length kept, fewer_kept (λ r. bytes_eq (topic row) (topic r)) here);
      }

  -- the names of a row
  abbrev pub HasNames : List ℕ → List ℕ → R → Type 0
  HasNames name doc row = (topic row ≡ name) × (document row ≡ doc)

  module _ (f : ℕ → ℕ → List R) (names : ℕ → List ℕ) (docs : ℕ → ℕ → List ℕ) (n m : ℕ) (are : (t k : ℕ) → AllByRecursion (HasNames (names t) (docs t k)) (f t k)) (one : (t k : ℕ) → length (f t k) ≤ 1)
      (apart_names : (s t : ℕ) → t < m → s < t → bytes_eq (names t) (names s) ≡ false) (apart_docs : (t i k : ℕ) → k < n → i < k → bytes_eq (docs t k) (docs t i) ≡ false) where
    weaker : (P Q : R → Type 0) → ((r : R) → P r → Q r) → (rows : List R) → AllByRecursion P rows → AllByRecursion Q rows
    weaker P Q g [] h = tt
    weaker P Q g (r ∷ rows) h = (g r h.0, weaker P Q g rows h.1)

    new_row : (t k : ℕ) → t < m → k < n → (row : R) → HasNames (names t) (docs t k) row → IsNew n (of_topics f n t ++ of_topic f t k) row
    new_row t k ht hk row h =
        new_after n (of_topics f n t) (of_topic f t k) row
        (all_of_topics f (λ r. bytes_eq (topic row) (topic r) ≡ false) n t (λ s i lt _. weaker (HasNames (names s) (docs s i)) (λ r. bytes_eq (topic row) (topic r) ≡ false) (λ r g. ap₂ bytes_eq h.0 g.0 ∙ apart_names s t ht lt) (f s i) (are s i)))
        (all_of_topic f (λ r. bytes_eq (document row) (document r) ≡ false) t k (λ i lt. weaker (HasNames (names t) (docs t i)) (λ r. bytes_eq (document row) (document r) ≡ false) (λ r g. ap₂ bytes_eq h.1 g.1 ∙ apart_docs t i k hk lt) (f t i) (are t i)))
        (let few = most_of_topic f one t k in omega arith)

    new_rows : (t k : ℕ) → t < m → k < n → (rows : List R) → AllByRecursion (HasNames (names t) (docs t k)) rows → length rows ≤ 1 → AreNew n (of_topics f n t ++ of_topic f t k) rows
    new_rows t k ht hk [] h o = tt
    new_rows t k ht hk (row ∷ []) h o = (new_row t k ht hk row h.0, tt)
    new_rows t k ht hk (row ∷ r ∷ rows) h o = absurd (omega arith)

    new_of_topic : (t k : ℕ) → t < m → k ≤ n → AreNew n (of_topics f n t) (of_topic f t k)
    new_of_topic t zero ht hk = tt
    new_of_topic t (suc k) ht hk =
        subst (AreNew n (of_topics f n t)) (sym (of_topic-suc f t k))
        (new-append n (of_topics f n t) (of_topic f t k) (f t k) (new_of_topic t k ht (omega arith)) (new_rows t k ht (omega arith) (f t k) (are t k) (one t k)))

    -- all rows of the first so many topics are new
    pub new_of_topics : (t : ℕ) → t ≤ m → AreNew n [] (of_topics f n t)
    new_of_topics zero ht = tt
    new_of_topics (suc t) ht =
        subst (AreNew n []) (sym (of_topics-suc f n t)) (new-append n [] (of_topics f n t) (of_topic f t n) (new_of_topics t (omega arith)) (new_of_topic t n (omega arith) (omega arith)))
