-- The rows of one topic.
use Rattle.std.proofs.Common.{◌≡◌, ℕ, zero, suc, ◌<◌, List, [], ◌∷◌, ◌++◌, length, true, false, true≢false, cond, refl, ap, ap₂, sym, subst, ◌∙◌, arith, ℤ, pos, negsuc, append_assoc, append-nil}
use Rattle.std.specs.Prelude.{Bool, ◌||◌, map, flat_map, filter, find, Option, Some, None, option_map, slice_get}
use Rattle.std.specs.List.{list_any, zip, AllByRecursion}
use Rattle.std.specs.Str.{bytes_eq}
use Rattle.std.proofs.lemmas.List.Folds.{list_any-append}
use Rattle.std.proofs.lemmas.Int.{ints}
use Rattle.desk_model.specs.Name.{is_name}
use Rattle.judge_session.specs.InForce.{counted_grade}
use Rattle.file_rows.specs.Rows.{Row, rows_on, has_document}
use Rattle.file_rows.specs.Grouped.{Valued, valued_of}
use Rattle.small_lemmas.proofs.Tests.{neither}
use Rattle.small_lemmas.proofs.Lists.{all-append}
use Rattle.desk_model.proofs.Names.{same_name}
use Rattle.file_rows.proofs.Seen.{laws, IsDistinct}
use Rattle.file_rows.proofs.Grouping.{rows_on-append}
use Rattle.topics_pool.proofs.Finding.{among-at}
use Rattle.topics_pool.specs.Rows.{grade_in}
use Rattle.qrels_round_trip.specs.RoundTrip.{rows_of_document, IsGradeInForce}
use Rattle.qrels_round_trip.proofs.Line.{IsWritable}

-- the rows of documents by their grades in the file and in force
abbrev pub rows_of : List ℕ → List (List ℕ) → List (Option ℤ) → List (Option ℤ) → List Row
rows_of topic docs files grades = flat_map (λ p. rows_of_document topic p.0 p.1.0 p.1.1) (zip docs (zip files grades))

-- the grade that the row of a document says, where it has one
abbrev pub said_grade : Option ℤ → Option ℤ → Option ℤ
said_grade None None = None
said_grade (Some file) None = Some (negsuc 0)
said_grade file (Some grade) = Some grade

-- a document has no row, or one
one_or_none : (P : List Row → Type 0) (topic doc : List ℕ) (file grade : Option ℤ) → P [] → ((g : ℤ) → P ((record { topic = topic; document = doc; value = g }) ∷ [])) → P (rows_of_document topic doc file grade)
one_or_none P topic doc None None none one = none
one_or_none P topic doc (Some f) None none one = one (negsuc 0)
one_or_none P topic doc None (Some g) none one = one g
one_or_none P topic doc (Some f) (Some g) none one = one g

-- what it says is the grade in force
pub said_counts : (file grade : Option ℤ) → IsGradeInForce grade → counted_grade (said_grade file grade) ≡ grade
said_counts None None h = refl
said_counts (Some f) None h = refl
said_counts None (Some (pos n)) h = refl
said_counts None (Some (negsuc n)) h = absurd (omega (arith, ints, h))
said_counts (Some f) (Some (pos n)) h = refl
said_counts (Some f) (Some (negsuc n)) h = absurd (omega (arith, ints, h))

-- where a test gives the same for all items, it keeps all or none
pub filter_all : {X : Type 0} (p : X → Bool) (b : Bool) (xs : List X) → AllByRecursion (λ x. p x ≡ b) xs → filter p xs ≡ cond b xs []
filter_all p true [] h = refl
filter_all p false [] h = refl
filter_all p true (x ∷ xs) h = ap (λ t. cond t (x ∷ filter p xs) (filter p xs)) h.0 ∙ ap (λ ys. x ∷ ys) (filter_all p true xs h.1)
filter_all p false (x ∷ xs) h = ap (λ t. cond t (x ∷ filter p xs) (filter p xs)) h.0 ∙ filter_all p false xs h.1

pub or_second : (d e : Bool) → e ≡ true → (d || e) ≡ true
or_second true e h = refl
or_second false e h = h

or_weaker : (b c d e : Bool) → (b ≡ true → d ≡ true) → (c ≡ true → e ≡ true) → (b || c) ≡ true → (d || e) ≡ true
or_weaker true c d e f g h = ap (λ x. x || e) (f refl)
or_weaker false c d e f g h = or_second d e (g h)

alone : (b : Bool) → (b || false) ≡ true → b ≡ true
alone true h = refl
alone false h = h

-- a name that is not among others is none of them
pub apart : (x y : List ℕ) (ys : List (List ℕ)) → list_any (bytes_eq x) ys ≡ false → list_any (bytes_eq y) ys ≡ true → bytes_eq y x ≡ false
apart x y ys none some = by (bytes_eq y x) refl
  where
    by : (b : Bool) → bytes_eq y x ≡ b → bytes_eq y x ≡ false
    by true e = absurd (true≢false (sym some ∙ ap (λ z. list_any (bytes_eq z) ys) (same_name y x e) ∙ none))
    by false e = e

-- ---- rows whose documents are new
abbrev pub AreFresh : List Row → List Row → Type 0
AreFresh before [] = Unit {0}
AreFresh before (row ∷ rows) = (has_document row.topic row.document before ≡ false) × AreFresh (before ++ row ∷ []) rows

pub fresh-append : (before xs ys : List Row) → AreFresh before xs → AreFresh (before ++ xs) ys → AreFresh before (xs ++ ys)
fresh-append before [] ys h k = subst (λ b. AreFresh b ys) (append-nil before) k
fresh-append before (x ∷ xs) ys h k = (h.0, fresh-append (before ++ x ∷ []) xs ys h.1 (subst (λ b. AreFresh b ys) (sym (append_assoc before (x ∷ []) xs)) k))

module _ (topic : List ℕ) where
  writable_document : (doc : List ℕ) (file grade : Option ℤ) → is_name topic ≡ true → is_name doc ≡ true → IsGradeInForce grade → AllByRecursion IsWritable (rows_of_document topic doc file grade)
  writable_document doc None None t d h = tt
  writable_document doc (Some f) None t d h = (record { topic = t; document = d; grade = omega (arith, ints) }, tt)
  writable_document doc None (Some g) t d h = (record { topic = t; document = d; grade = (omega (arith, ints, h), h.1) }, tt)
  writable_document doc (Some f) (Some g) t d h = (record { topic = t; document = d; grade = (omega (arith, ints, h), h.1) }, tt)

  pub writable : (docs : List (List ℕ)) (files grades : List (Option ℤ)) → is_name topic ≡ true → AllByRecursion (λ doc. is_name doc ≡ true) docs → AllByRecursion IsGradeInForce grades → AllByRecursion IsWritable (rows_of topic docs files grades)
  writable [] files grades t d h = tt
  writable (doc ∷ docs) [] grades t d h = tt
  writable (doc ∷ docs) (f ∷ files) [] t d h = tt
  writable (doc ∷ docs) (f ∷ files) (g ∷ grades) t d h =
      all-append IsWritable (rows_of_document topic doc f g) (rows_of topic docs files grades) (writable_document doc f g t d.0 h.0) (writable docs files grades t d.1 h.1)

  pub each_row : (Q : Row → Type 0) → ((doc : List ℕ) (g : ℤ) → Q (record { topic = topic; document = doc; value = g })) → (docs : List (List ℕ)) (files grades : List (Option ℤ)) → AllByRecursion Q (rows_of topic docs files grades)
  each_row Q q [] files grades = tt
  each_row Q q (doc ∷ docs) [] grades = tt
  each_row Q q (doc ∷ docs) (f ∷ files) [] = tt
  each_row Q q (doc ∷ docs) (f ∷ files) (g ∷ grades) =
      all-append Q (rows_of_document topic doc f g) (rows_of topic docs files grades) (one_or_none (AllByRecursion Q) topic doc f g tt (λ n. (q doc n, tt))) (each_row Q q docs files grades)

  -- each row is of the topic
  pub on_topic : (name : List ℕ) (b : Bool) → bytes_eq name topic ≡ b → (docs : List (List ℕ)) (files grades : List (Option ℤ)) → rows_on name (rows_of topic docs files grades) ≡ cond b (rows_of topic docs files grades) []
  on_topic name b e docs files grades =
      filter_all (λ row. bytes_eq name row.topic) b (rows_of topic docs files grades) (each_row (λ row. bytes_eq name row.topic ≡ b) (λ doc g. e) docs files grades)

  -- the documents of rows
  abbrev pub is_said : List ℕ → List Row → Bool
  is_said q rows = list_any (λ row. bytes_eq q row.document) rows

  -- a document that has a row is one of the topic
  pub has_row : (q : List ℕ) (docs : List (List ℕ)) (files grades : List (Option ℤ)) → is_said q (rows_of topic docs files grades) ≡ true → list_any (bytes_eq q) docs ≡ true
  has_row q [] files grades h = h
  has_row q (doc ∷ docs) [] grades h = absurd (true≢false (sym h))
  has_row q (doc ∷ docs) (f ∷ files) [] h = absurd (true≢false (sym h))
  has_row q (doc ∷ docs) (f ∷ files) (g ∷ grades) h =
      or_weaker (is_said q (rows_of_document topic doc f g)) (is_said q (rows_of topic docs files grades)) (bytes_eq q doc) (list_any (bytes_eq q) docs)
      (one_or_none (λ rows. is_said q rows ≡ true → bytes_eq q doc ≡ true) topic doc f g (λ k. absurd (true≢false (sym k))) (λ n k. alone (bytes_eq q doc) k))
      (has_row q docs files grades)
      (sym (list_any-append (λ row. bytes_eq q row.document) (rows_of_document topic doc f g) (rows_of topic docs files grades)) ∙ h)

  listed_document : (doc : List ℕ) (f : ℤ) (g : Option ℤ) → is_said doc (rows_of_document topic doc (Some f) g) ≡ true
  listed_document doc f None = ap (λ b. b || false) (laws.refl doc)
  listed_document doc f (Some g) = ap (λ b. b || false) (laws.refl doc)

  -- a document that the file lists has a row
  pub listed_row : (docs : List (List ℕ)) (files grades : List (Option ℤ)) (i : ℕ) (doc : List ℕ) (f : ℤ) → slice_get docs i ≡ Some doc → slice_get files i ≡ Some (Some f) → i < length grades → is_said doc (rows_of topic docs files grades) ≡ true
  listed_row [] files grades i doc f d e lt = absurd (cc)
  listed_row (x ∷ docs) [] grades i doc f d e lt = absurd (cc)
  listed_row (x ∷ docs) (y ∷ files) [] i doc f d e lt = absurd (omega arith)
  listed_row (x ∷ docs) (y ∷ files) (g ∷ grades) zero doc f d e lt =
      let is_doc : x ≡ doc = cc in
      let is_file : y ≡ Some f = cc in
      list_any-append (λ row. bytes_eq doc row.document) (rows_of_document topic x y g) (rows_of topic docs files grades)
      ∙ ap (λ b. b || is_said doc (rows_of topic docs files grades)) (ap₂ (λ z w. is_said doc (rows_of_document topic z w g)) is_doc is_file ∙ listed_document doc f g)
  listed_row (x ∷ docs) (y ∷ files) (g ∷ grades) (suc i) doc f d e lt =
      list_any-append (λ row. bytes_eq doc row.document) (rows_of_document topic x y g) (rows_of topic docs files grades)
      ∙ or_second (is_said doc (rows_of_document topic x y g)) (is_said doc (rows_of topic docs files grades)) (listed_row docs files grades i doc f d e (omega arith))

  -- ---- the grade that is said of a document
  skipped : (q doc : List ℕ) (f g : Option ℤ) (rows : List Row) → bytes_eq q doc ≡ false → grade_in (map valued_of (rows_of_document topic doc f g ++ rows)) q ≡ grade_in (map valued_of rows) q
  skipped q doc f g rows e =
      one_or_none (λ own. grade_in (map valued_of (own ++ rows)) q ≡ grade_in (map valued_of rows) q) topic doc f g refl
      (λ n. ap (λ b. option_map (λ (judged : Valued). judged.value) (cond b (Some (record { document = doc; value = n })) (find (λ judged. bytes_eq q judged.document) (map valued_of rows)))) e)

  none_said : (q : List ℕ) (docs : List (List ℕ)) (files grades : List (Option ℤ)) → list_any (bytes_eq q) docs ≡ false → grade_in (map valued_of (rows_of topic docs files grades)) q ≡ None
  none_said q [] files grades h = refl
  none_said q (doc ∷ docs) [] grades h = refl
  none_said q (doc ∷ docs) (f ∷ files) [] h = refl
  none_said q (doc ∷ docs) (f ∷ files) (g ∷ grades) h =
      let parts = neither (bytes_eq q doc) (list_any (bytes_eq q) docs) h in
      skipped q doc f g (rows_of topic docs files grades) parts.0 ∙ none_said q docs files grades parts.1

  found_first : (doc : List ℕ) (n : ℤ) (rows : List Row) → grade_in (map valued_of ((record { topic = topic; document = doc; value = n }) ∷ rows)) doc ≡ Some n
  found_first doc n rows =
      ap (λ b. option_map (λ (judged : Valued). judged.value) (cond b (Some (record { document = doc; value = n })) (find (λ judged. bytes_eq doc judged.document) (map valued_of rows)))) (laws.refl doc)

  first_said : (doc : List ℕ) (f g : Option ℤ) (rows : List Row) → grade_in (map valued_of rows) doc ≡ None → grade_in (map valued_of (rows_of_document topic doc f g ++ rows)) doc ≡ said_grade f g
  first_said doc None None rows none = none
  first_said doc (Some f) None rows none = found_first doc (negsuc 0) rows
  first_said doc None (Some g) rows none = found_first doc g rows
  first_said doc (Some f) (Some g) rows none = found_first doc g rows

  pub said_of : (docs : List (List ℕ)) (files grades : List (Option ℤ)) (i : ℕ) (doc : List ℕ) (f g : Option ℤ) → IsDistinct docs → slice_get docs i ≡ Some doc → slice_get files i ≡ Some f → slice_get grades i ≡ Some g →
      grade_in (map valued_of (rows_of topic docs files grades)) doc ≡ said_grade f g
  said_of [] files grades i doc f g distinct d e h = absurd (cc)
  said_of (x ∷ docs) [] grades i doc f g distinct d e h = absurd (cc)
  said_of (x ∷ docs) (y ∷ files) [] i doc f g distinct d e h = absurd (cc)
  said_of (x ∷ docs) (y ∷ files) (z ∷ grades) zero doc f g distinct d e h =
      let is_doc : x ≡ doc = cc in
      let is_file : y ≡ f = cc in
      let is_grade : z ≡ g = cc in
      ap (λ w. grade_in (map valued_of (rows_of topic (x ∷ docs) (y ∷ files) (z ∷ grades))) w) (sym is_doc)
      ∙ first_said x y z (rows_of topic docs files grades) (none_said x docs files grades distinct.0) ∙ ap₂ said_grade is_file is_grade
  said_of (x ∷ docs) (y ∷ files) (z ∷ grades) (suc i) doc f g distinct d e h =
      skipped doc x y z (rows_of topic docs files grades) (apart x doc docs distinct.0 (among-at docs i doc d))
      ∙ said_of docs files grades i doc f g distinct.1 d e h

  -- ---- its rows are new after rows that have none of its documents
  pub fresh_topic : (before : List Row) (docs : List (List ℕ)) (files grades : List (Option ℤ)) → IsDistinct docs → ((d : List ℕ) → list_any (bytes_eq d) docs ≡ true → has_document topic d before ≡ false) →
      AreFresh before (rows_of topic docs files grades)
  fresh_topic before [] files grades distinct none = tt
  fresh_topic before (doc ∷ docs) [] grades distinct none = tt
  fresh_topic before (doc ∷ docs) (f ∷ files) [] distinct none = tt
  fresh_topic before (doc ∷ docs) (f ∷ files) (g ∷ grades) distinct none =
      fresh-append before (rows_of_document topic doc f g) (rows_of topic docs files grades)
      (one_or_none (AreFresh before) topic doc f g tt (λ n. (none doc (ap (λ b. b || list_any (bytes_eq doc) docs) (laws.refl doc)), tt)))
      (fresh_topic (before ++ rows_of_document topic doc f g) docs files grades distinct.1 (λ d in_docs.
      let old = none d (or_second (bytes_eq d doc) (list_any (bytes_eq d) docs) in_docs) in
      one_or_none (λ own. has_document topic d (before ++ own) ≡ false) topic doc f g (ap (has_document topic d) (append-nil before) ∙ old)
      (λ n. pushed d (record { topic = topic; document = doc; value = n }) refl old (apart doc d docs distinct.0 in_docs))))
    where
      pushed : (d : List ℕ) (row : Row) → row.topic ≡ topic → has_document topic d before ≡ false → bytes_eq d row.document ≡ false → has_document topic d (before ++ row ∷ []) ≡ false
      pushed d row is old other =
          ap (list_any (λ r. bytes_eq d r.document)) (rows_on-append topic before row true (ap (bytes_eq topic) is ∙ laws.refl topic))
          ∙ list_any-append (λ r. bytes_eq d r.document) (rows_on topic before) (row ∷ []) ∙ ap₂ (λ a b. a || (b || false)) old other
