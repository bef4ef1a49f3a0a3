-- Each topic of a desk has a document that the judgements file lists, and so a row.
use Rattle.std.proofs.Common.{◌≡◌, ℕ, suc, ◌<◌, List, [], ◌∷◌, length, true, false, true≢false, cond, refl, ap, sym, ◌∙◌, arith, ℤ}
use Rattle.std.specs.Prelude.{Bool, ◌||◌, ◌==◌, map, flat_map, filter, find, Option, Some, None, option_map, slice_get, Ok, Err}
use Rattle.std.specs.List.{list_any, AllZip, AllByRecursion}
use Rattle.std.specs.Str.{bytes_eq}
use Rattle.std.proofs.lemmas.List.Folds.{list_any-append}
use Rattle.std.proofs.lemmas.Option.{slice_get-get_or, slice_get_within}
use Rattle.desk_model.specs.Book.{Book, IsBook}
use Rattle.file_rows.specs.Rows.{Row, has_topic}
use Rattle.qrels_reader.specs.Rows.{read_row}
use Rattle.file_rows.specs.Reading.{rows_of}
use Rattle.file_rows.specs.Grouped.{Valued, TopicRows, valued_of, grouped, names_of, rows_in}
use Rattle.qrels_reader.specs.Grouped.{qrels_of}
use Rattle.file_rows.specs.declared.fault.FileFault.TheVariants.{NoTopics}
use Rattle.desk_model.proofs.Names.{same_name}
use Rattle.file_rows.proofs.Seen.{laws}
use Rattle.file_rows.proofs.Grouping.{is_topic-grouped, members_on-grouped}
use Rattle.file_rows.proofs.Chains.{parted}
use Rattle.run_reader.specs.Run.{Run}
use Rattle.topic_universe.specs.Universe.{listed, retrieved}
use Rattle.topics_pool.specs.Rows.{IsBookOf, grade_in}
use Rattle.qrels_round_trip.specs.RoundTrip.{rows_of_book, AreGradesOf}
use Rattle.qrels_round_trip.proofs.OneTopic.{is_said, listed_row}
use Rattle.qrels_round_trip.proofs.AllTopics.{HasRow}

-- what was read is rows, grouped
pub record IsGrouped (qrels : List TopicRows) : Type 0 where
  pub rows : List Row
  pub are : qrels ≡ grouped rows

pub read_grouped : (bytes : List ℕ) (qrels : List TopicRows) → qrels_of bytes ≡ Ok qrels → IsGrouped qrels
read_grouped bytes qrels e =
    let made = parted (rows_of read_row bytes) (λ rows. cond (length rows == 0) (Err NoTopics) (Ok (grouped rows))) qrels e in
    by made.value (length made.value == 0) made.made
  where
    by : (rows : List Row) (b : Bool) → cond b (Err NoTopics) (Ok (grouped rows)) ≡ Ok qrels → IsGrouped qrels
    by rows true h = absurd (cc)
    by rows false h = record { rows = rows; are = cc }

-- ---- a topic of the file has a document there
record First {X : Type 0} (xs : List X) : Type 0 where
  pub item : X
  pub rest : List X
  pub is : xs ≡ item ∷ rest

first_kept : {X : Type 0} (p : X → Bool) (xs : List X) → list_any p xs ≡ true → First (filter p xs)
first_kept p [] h = absurd (true≢false (sym h))
first_kept p (x ∷ xs) h = by (p x) refl h (first_kept p xs)
  where
    by : (b : Bool) → p x ≡ b → (p x || list_any p xs) ≡ true → (list_any p xs ≡ true → First (filter p xs)) → First (cond (p x) (x ∷ filter p xs) (filter p xs))
    by true e g later = record { item = x; rest = filter p xs; is = ap (λ b. cond b (x ∷ filter p xs) (filter p xs)) e }
    by false e g later =
        let found = later (sym (ap (λ b. b || list_any p xs) e) ∙ g) in
        record { item = found.item; rest = found.rest; is = ap (λ b. cond b (x ∷ filter p xs) (filter p xs)) e ∙ found.is }

-- a document that the file lists in a topic
pub record HasListed (qrels : List TopicRows) (topic : List ℕ) : Type 0 where
  pub document : List ℕ
  pub there : list_any (bytes_eq document) (listed (rows_in topic qrels)) ≡ true

pub topic_has_listed : (qrels : List TopicRows) (topic : List ℕ) → IsGrouped qrels → list_any (bytes_eq topic) (names_of qrels) ≡ true → HasListed qrels topic
topic_has_listed qrels topic of_rows there =
    let rows = of_rows.rows in
    let known : has_topic topic rows ≡ true = sym (is_topic-grouped topic rows) ∙ ap (λ q. list_any (bytes_eq topic) (names_of q)) (sym of_rows.are) ∙ there in
    let first = first_kept (λ (row : Row). bytes_eq topic row.topic) rows known in
    let documents : rows_in topic qrels ≡ valued_of first.item ∷ map valued_of first.rest =
    ap (rows_in topic) of_rows.are ∙ members_on-grouped topic rows ∙ ap (map valued_of) first.is in
    record {
      document = first.item.document;
      there = ap (λ documents. list_any (bytes_eq first.item.document) (listed documents)) documents
          ∙ ap (λ b. b || list_any (bytes_eq first.item.document) (listed (map valued_of first.rest))) (laws.refl first.item.document);
    }

-- ---- its place in the universe, and its grade
record IsPlaced (q : List ℕ) (names : List (List ℕ)) : Type 0 where
  pub place : ℕ
  pub stands : slice_get names place ≡ Some q

placed : (q : List ℕ) (names : List (List ℕ)) → list_any (bytes_eq q) names ≡ true → IsPlaced q names
placed q [] h = absurd (true≢false (sym h))
placed q (x ∷ names) h = by (bytes_eq q x) refl h (placed q names)
  where
    by : (b : Bool) → bytes_eq q x ≡ b → (bytes_eq q x || list_any (bytes_eq q) names) ≡ true → (list_any (bytes_eq q) names ≡ true → IsPlaced q names) → IsPlaced q (x ∷ names)
    by true e g later = record { place = 0; stands = ap Some (sym (same_name q x e)) }
    by false e g later = let found = later (sym (ap (λ b. b || list_any (bytes_eq q) names) e) ∙ g) in record { place = suc found.place; stands = found.stands }

record IsGraded (q : List ℕ) (documents : List Valued) : Type 0 where
  pub grade : ℤ
  pub is : grade_in documents q ≡ Some grade

graded : (q : List ℕ) (documents : List Valued) → list_any (bytes_eq q) (listed documents) ≡ true → IsGraded q documents
graded q [] h = absurd (true≢false (sym h))
graded q (d ∷ documents) h = by (bytes_eq q d.document) refl h (graded q documents)
  where
    found : (b : Bool) → bytes_eq q d.document ≡ b → grade_in (d ∷ documents) q ≡ option_map (λ (judged : Valued). judged.value) (cond b (Some d) (find (λ judged. bytes_eq q judged.document) documents))
    found b e = ap (λ b. option_map (λ (judged : Valued). judged.value) (cond b (Some d) (find (λ judged. bytes_eq q judged.document) documents))) e

    by : (b : Bool) → bytes_eq q d.document ≡ b → (bytes_eq q d.document || list_any (bytes_eq q) (listed documents)) ≡ true → (list_any (bytes_eq q) (listed documents) ≡ true → IsGraded q documents) → IsGraded q (d ∷ documents)
    by true e g later = record { grade = d.value; is = found true e }
    by false e g later = let rest = later (sym (ap (λ b. b || list_any (bytes_eq q) (listed documents)) e) ∙ g) in record { grade = rest.grade; is = found false e ∙ rest.is }

module _ (qrels : List TopicRows) (runs : List Run) (book : Book) (sound : IsBook book) (of_rows : IsBookOf qrels runs book) where
  -- a document that the file lists has a row
  pub listed_said : (own : List (Option ℤ)) → length own ≡ length book.docs → (q : List ℕ) → list_any (bytes_eq q) (listed (rows_in book.name qrels)) ≡ true → is_said book.name q (rows_of_book book own) ≡ true
  listed_said own count q there =
      let among : list_any (bytes_eq q) book.docs ≡ true =
      of_rows.universe q ∙ list_any-append (bytes_eq q) (listed (rows_in book.name qrels)) (flat_map (retrieved book.name) runs)
      ∙ ap (λ b. b || list_any (bytes_eq q) (flat_map (retrieved book.name) runs)) there in
      let at = placed q book.docs among in
      let within = slice_get_within book.docs at.place q at.stands in
      let grade = graded q (rows_in book.name qrels) there in
      let file : slice_get book.grades at.place ≡ Some (Some grade.grade) =
      slice_get-get_or book.grades at.place None (omega (arith, sound.graded, within)) ∙ ap Some (of_rows.grades at.place q at.stands ∙ grade.is) in
      listed_row book.name book.docs book.grades own at.place q grade.grade at.stands file (omega (arith, count, within))

  has_row : (own : List (Option ℤ)) → AreGradesOf book own → HasListed qrels book.name → HasRow book own
  has_row own are known = record { some = filled (rows_of_book book own) (listed_said own are.count known.document known.there) }
    where
      filled : (rows : List Row) → is_said book.name known.document rows ≡ true → 0 < length rows
      filled [] h = absurd (true≢false (sym h))
      filled (row ∷ rows) h = omega arith

pub all_have_rows : (qrels : List TopicRows) (runs : List Run) (books : List Book) (grades : List (List (Option ℤ))) → IsGrouped qrels → AllByRecursion IsBook books → AllByRecursion (IsBookOf qrels runs) books →
    AllByRecursion (λ book. list_any (bytes_eq book.name) (names_of qrels) ≡ true) books → AllZip AreGradesOf books grades → AllZip HasRow books grades
all_have_rows qrels runs [] [] of_rows sound are named graded = tt
all_have_rows qrels runs [] (own ∷ grades) of_rows sound are named graded = graded
all_have_rows qrels runs (book ∷ books) [] of_rows sound are named graded = graded
all_have_rows qrels runs (book ∷ books) (own ∷ grades) of_rows sound are named graded = (
  has_row qrels runs book sound.0 are.0 own graded.0 (topic_has_listed qrels book.name of_rows named.0),
  all_have_rows qrels runs books grades of_rows sound.1 are.1 named.1 graded.1,
)
