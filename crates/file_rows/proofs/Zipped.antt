-- Documents with their grades or scores, and topics with their members, which are kept in two lists.
use Rattle.std.proofs.Common.{◌≡◌, ℕ, zero, suc, ◌+◌, ◌<◌, ◌≤◌, List, [], ◌∷◌, ◌++◌, length, get_or, set, refl, ap, ap₂, sym, ◌∙◌, arith}
use Rattle.std.specs.Prelude.{map, sum_by, ℤ}
use Rattle.std.specs.List.{list_any, zip}
use Rattle.std.specs.Str.{bytes_eq}
use Rattle.std.proofs.lemmas.List.{get_or_default, length-append, length-map, length-set, map-append}
use Rattle.std.proofs.lemmas.List.Sums.{sum_by-cons, sum_by_push}
use Rattle.std.proofs.lemmas.Slice.Zip.{firsts-zip, seconds-zip}
use Rattle.file_rows.proofs.Mapped.{list_any-map, map-map, sum_by-map}
use Rattle.file_rows.specs.Grouped.{names_of, bytes_in, rows_at, stands_in, Valued, TopicRows, with_valued}
use Rattle.file_rows.specs.Names.{valued_in, topics_in}
use Rattle.file_rows.proofs.RowFiles.{counted, Holds, topic_with, valued}

-- a list of no length
pub nothing_left : {X : Type 0} (xs : List X) → length xs ≡ 0 → xs ≡ []
nothing_left [] h = refl
nothing_left (x ∷ xs) h = absurd (omega arith)

-- one more pair
zip_push : {A B : Type 0} (xs : List A) (ys : List B) (x : A) (y : B) → length xs ≡ length ys → zip (xs ++ x ∷ []) (ys ++ y ∷ []) ≡ zip xs ys ++ (x, y) ∷ []
zip_push [] [] x y e = refl
zip_push [] (b ∷ ys) x y e = absurd (omega arith)
zip_push (a ∷ xs) [] x y e = absurd (omega arith)
zip_push (a ∷ xs) (b ∷ ys) x y e = ap (λ ps. (a, b) ∷ ps) (zip_push xs ys x y (omega arith))

pub documents-members_in : (ds : List (List ℕ)) (vs : List ℤ) → length ds ≡ length vs → map (λ (valued : Valued). valued.document) (valued_in ds vs) ≡ ds
documents-members_in ds vs e =
    map-map (λ (valued : Valued). valued.document) (λ pair. valued pair.0 pair.1) (λ pair. pair.0) (λ pair. refl) (zip ds vs) ∙ firsts-zip ds vs (sym e)

pub values-members_in : (ds : List (List ℕ)) (vs : List ℤ) → length ds ≡ length vs → map (λ (valued : Valued). valued.value) (valued_in ds vs) ≡ vs
values-members_in ds vs e =
    map-map (λ (valued : Valued). valued.value) (λ pair. valued pair.0 pair.1) (λ pair. pair.1) (λ pair. refl) (zip ds vs) ∙ seconds-zip ds vs (sym e)

pub length-members_in : (ds : List (List ℕ)) (vs : List ℤ) → length ds ≡ length vs → length (valued_in ds vs) ≡ length vs
length-members_in ds vs e = sym (length-map (valued_in ds vs) (λ (valued : Valued). valued.value)) ∙ ap length (values-members_in ds vs e)

pub members_in-append : (ds : List (List ℕ)) (vs : List ℤ) (d : List ℕ) (v : ℤ) → length ds ≡ length vs → valued_in (ds ++ d ∷ []) (vs ++ v ∷ []) ≡ valued_in ds vs ++ valued d v ∷ []
members_in-append ds vs d v e = ap (map (λ pair. valued pair.0 pair.1)) (zip_push ds vs d v e) ∙ map-append (λ pair. valued pair.0 pair.1) (zip ds vs) ((d, v) ∷ [])

pub bytes_in-members_in : (ds : List (List ℕ)) (vs : List ℤ) → length ds ≡ length vs → bytes_in (valued_in ds vs) ≡ sum_by length ds
bytes_in-members_in ds vs e = sum_by-map length (λ (valued : Valued). valued.document) (valued_in ds vs) ∙ ap (sum_by length) (documents-members_in ds vs e)

-- a document is one of those
pub stands_in-members : (document : List ℕ) (ds : List (List ℕ)) (vs : List ℤ) → length ds ≡ length vs → stands_in document (valued_in ds vs) ≡ list_any (bytes_eq document) ds
stands_in-members document ds vs e =
    list_any-map (bytes_eq document) (λ (valued : Valued). valued.document) (valued_in ds vs) ∙ ap (list_any (bytes_eq document)) (documents-members_in ds vs e)

-- the members of a topic are those that stand in its place
members_at-topics_in : (ns : List (List ℕ)) (js : List (List Valued)) (t : ℕ) → length ns ≡ length js → rows_at (topics_in ns js) t ≡ get_or js t []
members_at-topics_in [] [] t e = refl
members_at-topics_in [] (j ∷ js) t e = absurd (omega arith)
members_at-topics_in (n ∷ ns) [] t e = absurd (omega arith)
members_at-topics_in (n ∷ ns) (j ∷ js) zero e = refl
members_at-topics_in (n ∷ ns) (j ∷ js) (suc t) e = members_at-topics_in ns js t (omega arith)

-- a member that is put into its place is one more of its topic
topics_in-set : (ns : List (List ℕ)) (js : List (List Valued)) (t : ℕ) (x : List Valued) (m : Valued) → length ns ≡ length js → x ≡ get_or js t [] ++ m ∷ [] → topics_in ns (set js t x) ≡ with_valued (topics_in ns js) t m
topics_in-set [] js t x m e f = refl
topics_in-set (n ∷ ns) [] t x m e f = absurd (omega arith)
topics_in-set (n ∷ ns) (j ∷ js) zero x m e f =
    ap (λ y. topic_with n y ∷ topics_in ns js) f
topics_in-set (n ∷ ns) (j ∷ js) (suc t) x m e f =
    ap (λ ts. topic_with n j ∷ ts) (topics_in-set ns js t x m (omega arith) f)

-- what is counted over the members of each topic
module _ (count : List Valued → ℕ) where
  pub counted-cons : (x : TopicRows) (ts : List TopicRows) → counted count (x ∷ ts) ≡ count x.rows + counted count ts
  counted-cons = sum_by-cons (λ topic. count topic.rows)

  pub part-le : (ts : List TopicRows) (t : ℕ) → count [] ≡ 0 → count (rows_at ts t) ≤ counted count ts
  part-le [] t e = omega arith
  part-le (x ∷ ts) zero e = omega (arith, counted-cons x ts)
  part-le (x ∷ ts) (suc t) e = omega (arith, counted-cons x ts, part-le ts t e)

  counted_more : (ts : List TopicRows) (t : ℕ) (m : Valued) (k : ℕ) → ((js : List Valued) → count (js ++ m ∷ []) ≡ count js + k) → t < length ts → counted count (with_valued ts t m) ≡ counted count ts + k
  counted_more [] t m k more lt = absurd (omega arith)
  counted_more (x ∷ ts) zero m k more lt =
      let new = topic_with x.name (x.rows ++ m ∷ []) in
      let put = counted-cons new ts in
      let size : count new.rows ≡ count x.rows + k = more x.rows in
      omega (arith, put, size, counted-cons x ts)
  counted_more (x ∷ ts) (suc t) m k more lt =
      let put = counted-cons x (with_valued ts t m) in
      omega (arith, put, counted-cons x ts, counted_more ts t m k more (omega arith))

  counted_new : (ts : List TopicRows) (name : List ℕ) → count [] ≡ 0 → counted count (ts ++ topic_with name [] ∷ []) ≡ counted count ts
  counted_new ts name e =
      omega (arith, sum_by_push (λ topic. count topic.rows) ts (topic_with name []), e)

-- a topic that has a member is there
pub has_place : (ts : List TopicRows) (t i : ℕ) → i < length (rows_at ts t) → t < length ts
has_place [] t i lt = absurd (omega arith)
has_place (x ∷ ts) zero i lt = omega arith
has_place (x ∷ ts) (suc t) i lt = let h = has_place ts t i lt in omega arith

-- topics that are kept in two lists
module _ {ns : List (List ℕ)} {js : List (List Valued)} {rows bytes : ℕ} {ts : List TopicRows} (h : Holds ns js rows bytes ts) where
  pub names_held : names_of ts ≡ ns
  names_held =
      ap names_of (sym h.topics_are) ∙ map-map (λ (topic : TopicRows). topic.name) (λ pair. topic_with pair.0 pair.1) (λ pair. pair.0) (λ pair. refl) (zip ns js)
      ∙ firsts-zip ns js (sym h.matched)

  pub length_held : length ts ≡ length ns
  length_held = sym (length-map ts (λ (topic : TopicRows). topic.name)) ∙ ap length names_held

  pub in_place : (t : ℕ) → t < length ts → t < length js
  in_place t lt = omega (arith, length_held, h.matched)

  -- the members that stand in a topic's place are the topic's
  pub held : (t : ℕ) (x : List Valued) → t < length ts → x ≡ get_or js t x → rows_at ts t ≡ x
  held t x lt e = ap (λ ts. rows_at ts t) (sym h.topics_are) ∙ members_at-topics_in ns js t h.matched ∙ get_or_default js t [] x (in_place t lt) ∙ sym e

  -- one more topic
  pub topic_added : (ns' : List (List ℕ)) (js' : List (List Valued)) (name : List ℕ) → ns' ≡ ns ++ name ∷ [] → js' ≡ js ++ [] ∷ [] → Holds ns' js' rows bytes (ts ++ topic_with name [] ∷ [])
  topic_added ns' js' name e f =
      let sizes = ap length e in
      let sizes' = ap length f in
      record {
        matched = omega (arith, sizes, sizes', length-append ns (name ∷ []), length-append js ([] ∷ []), h.matched);
        topics_are = ap₂ (topics_in) e f ∙ ap (map (λ pair. topic_with pair.0 pair.1)) (zip_push ns js name [] h.matched)
            ∙ map-append (λ pair. topic_with pair.0 pair.1) (zip ns js) ((name, []) ∷ []) ∙ ap (λ ts. ts ++ topic_with name [] ∷ []) h.topics_are;
        rows_counted = h.rows_counted ∙ sym (counted_new length ts name refl);
        bytes_counted = h.bytes_counted ∙ sym (counted_new bytes_in ts name refl);
      }

  -- one more member of a topic
  pub member_added : (t : ℕ) (x x' : List Valued) (m : Valued) → t < length ts → x ≡ get_or js t x → x' ≡ x ++ m ∷ [] → Holds ns (set js t x') (rows + 1) (bytes + length m.document) (with_valued ts t m)
  member_added t x x' m lt e f = record {
    matched = h.matched ∙ sym (length-set js t x');
    topics_are = topics_in-set ns js t x' m h.matched (f ∙ ap (λ x. x ++ m ∷ []) (e ∙ get_or_default js t x [] (in_place t lt))) ∙ ap (λ ts. with_valued ts t m) h.topics_are;
    rows_counted = ap (λ n. n + 1) h.rows_counted ∙ sym (counted_more length ts t m 1 (λ ms. length-append ms (m ∷ [])) lt);
    bytes_counted = ap (λ n. n + length m.document) h.bytes_counted
        ∙ sym (counted_more bytes_in ts t m (length m.document) (λ ms. sum_by_push (λ member. length member.document) ms m) lt);
  }
