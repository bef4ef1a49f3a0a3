-- The rows of all topics.
use Rattle.std.proofs.Common.{◌≡◌, ℕ, ◌<◌, ◌≤◌, List, [], ◌∷◌, ◌++◌, length, true, false, true≢false, refl, ap, ap₂, sym, subst, ◌∙◌, arith, ℤ, append_assoc, append-nil}
use Rattle.std.specs.Prelude.{Bool, not, ◌&&◌, ◌||◌, nat_le, map, flat_map, Option}
use Rattle.std.specs.List.{list_any, zip, AllZip, AllByRecursion}
use Rattle.std.specs.Str.{bytes_eq}
use Rattle.std.proofs.lemmas.Bool.{lt-leb}
use Rattle.std.proofs.lemmas.Map.Keys.{sorted_head, sorted_tail}
use Rattle.std.proofs.lemmas.Map.Made.{length-le_from_is_member}
use Rattle.std.proofs.lemmas.List.Folds.{list_any-append}
use Rattle.std.proofs.lemmas.List.Elements.{filter-append, recursion_from_All}
use Rattle.small_lemmas.proofs.Tests.{neither}
use Rattle.small_lemmas.proofs.Lists.{all-append}
use Rattle.desk_model.specs.Name.{is_name, name_cmp, AreAscending}
use Rattle.desk_model.specs.Book.{Book, IsBook}
use Rattle.desk_model.proofs.Names.{same_name, none_above}
use Rattle.file_rows.specs.Rows.{Row, rows_on, has_topic, topics_of}
use Rattle.qrels_reader.specs.declared.limits.TheConstants.{MOST_TOPICS}
use Rattle.file_rows.proofs.Seen.{laws, IsDistinct, IsDistinct-first_seen, all_differ}
use Rattle.file_rows.proofs.Grouping.{has_topic-topics}
use Rattle.topics_pool.specs.Rows.{topic_names}
use Rattle.qrels_round_trip.specs.RoundTrip.{rows_of_book, AreGradesOf}
use Rattle.qrels_round_trip.proofs.Line.{IsWritable}
use Rattle.qrels_round_trip.proofs.Reading.{AreNew}
use Rattle.qrels_round_trip.proofs.OneTopic.{apart, or_second, AreFresh, fresh-append, writable, each_row, on_topic, fresh_topic}

-- the rows of topics by their grades in force
abbrev pub rows_in : List Book → List (List (Option ℤ)) → List Row
rows_in books grades = flat_map (λ p. rows_of_book p.0 p.1) (zip books grades)

-- ---- names that ascend differ
pub ascending_differ : (names : List (List ℕ)) → AreAscending names → IsDistinct names
ascending_differ [] h = tt
ascending_differ (x ∷ xs) h = (none_above x xs (sorted_head name_cmp x xs h), ascending_differ xs (sorted_tail name_cmp x xs h))

-- ---- every row can be written
pub all_writable : (books : List Book) (grades : List (List (Option ℤ))) → AllByRecursion IsBook books → AllZip AreGradesOf books grades → AllByRecursion IsWritable (rows_in books grades)
all_writable [] grades sound graded = tt
all_writable (book ∷ books) [] sound graded = tt
all_writable (book ∷ books) (own ∷ grades) sound graded =
    all-append IsWritable (rows_of_book book own) (rows_in books grades)
    (writable book.name book.docs book.grades own sound.0.named (recursion_from_All (λ doc. is_name doc ≡ true) book.docs sound.0.documents) graded.0.each) (all_writable books grades sound.1 graded.1)

-- ---- its topic is one of the topics
abbrev pub IsOf : List (List ℕ) → Row → Type 0
IsOf names row = list_any (bytes_eq row.topic) names ≡ true

pub all_among : (names : List (List ℕ)) (books : List Book) (grades : List (List (Option ℤ))) → AllByRecursion (λ book. list_any (bytes_eq book.name) names ≡ true) books → AllByRecursion (IsOf names) (rows_in books grades)
all_among names [] grades h = tt
all_among names (book ∷ books) [] h = tt
all_among names (book ∷ books) (own ∷ grades) h =
    all-append (IsOf names) (rows_of_book book own) (rows_in books grades) (each_row book.name (IsOf names) (λ doc g. h.0) book.docs book.grades own) (all_among names books grades h.1)

pub own_names : (all : List Book) → AllByRecursion (λ book. list_any (bytes_eq book.name) (topic_names all) ≡ true) all
own_names all = by [] all
  where
    among : (xs : List Book) (book : Book) (ys : List Book) → list_any (bytes_eq book.name) (topic_names (xs ++ book ∷ ys)) ≡ true
    among [] book ys = ap (λ b. b || list_any (bytes_eq book.name) (topic_names ys)) (laws.refl book.name)
    among (x ∷ xs) book ys = or_second (bytes_eq book.name x.name) (list_any (bytes_eq book.name) (topic_names (xs ++ book ∷ ys))) (among xs book ys)

    by : (xs ys : List Book) → AllByRecursion (λ book. list_any (bytes_eq book.name) (topic_names (xs ++ ys)) ≡ true) ys
    by xs [] = tt
    by xs (y ∷ ys) =
        (among xs y ys, subst (λ books. AllByRecursion (λ book. list_any (bytes_eq book.name) (topic_names books) ≡ true) ys) (append_assoc xs (y ∷ []) ys) (by (xs ++ y ∷ []) ys))

any_among : (names : List (List ℕ)) (q : List ℕ) (rows : List Row) → AllByRecursion (IsOf names) rows → has_topic q rows ≡ true → list_any (bytes_eq q) names ≡ true
any_among names q [] h e = absurd (true≢false (sym e))
any_among names q (row ∷ rows) h e = by (bytes_eq q row.topic) refl e (any_among names q rows h.1)
  where
    by : (b : Bool) → bytes_eq q row.topic ≡ b → (bytes_eq q row.topic || has_topic q rows) ≡ true → (has_topic q rows ≡ true → list_any (bytes_eq q) names ≡ true) → list_any (bytes_eq q) names ≡ true
    by true f g later = ap (λ n. list_any (bytes_eq n) names) (same_name q row.topic f) ∙ h.0
    by false f g later = later (sym (ap (λ b. b || has_topic q rows) f) ∙ g)

-- so no topic is one too many
few_topics : (names : List (List ℕ)) (before : List Row) (row : Row) → length names ≤ MOST_TOPICS → AllByRecursion (IsOf names) before → IsOf names row → (not (has_topic row.topic before) && nat_le MOST_TOPICS (length (topics_of before))) ≡ false
few_topics names before row few old here = by (has_topic row.topic before) refl
  where
    by : (b : Bool) → has_topic row.topic before ≡ b → (not (has_topic row.topic before) && nat_le MOST_TOPICS (length (topics_of before))) ≡ false
    by true e = ap (λ b. not b && nat_le MOST_TOPICS (length (topics_of before))) e
    by false e =
        let all = row.topic ∷ topics_of before in
        let distinct : IsDistinct all = (has_topic-topics row.topic before ∙ e, IsDistinct-first_seen (map (λ r. r.topic) before)) in
        let most = length-le_from_is_member laws all names (all_differ all distinct) (λ q in_all. among q (bytes_eq q row.topic) refl in_all) in
        ap (λ b. not (has_topic row.topic before) && b) (lt-leb MOST_TOPICS (length (topics_of before)) (omega arith)) ∙ last (not (has_topic row.topic before))
      where
        last : (b : Bool) → (b && false) ≡ false
        last true = refl
        last false = refl

        among : (q : List ℕ) (b : Bool) → bytes_eq q row.topic ≡ b → (bytes_eq q row.topic || list_any (bytes_eq q) (topics_of before)) ≡ true → list_any (bytes_eq q) names ≡ true
        among q true f g = ap (λ n. list_any (bytes_eq n) names) (same_name q row.topic f) ∙ here
        among q false f g = any_among names q before old (sym (has_topic-topics q before) ∙ sym (ap (λ b. b || list_any (bytes_eq q) (topics_of before)) f) ∙ g)

pub are_new : (names : List (List ℕ)) (before rows : List Row) → length names ≤ MOST_TOPICS → AllByRecursion (IsOf names) before → AllByRecursion (IsOf names) rows → AreFresh before rows → AreNew before rows
are_new names before [] few old new fresh = tt
are_new names before (row ∷ rows) few old new fresh =
    (fresh.0, few_topics names before row few old new.0, are_new names (before ++ row ∷ []) rows few (all-append (IsOf names) before (row ∷ []) old (new.0, tt)) new.1 fresh.1)

-- ---- topics whose rows are not there yet
abbrev pub AreAhead : List Book → List Row → Type 0
AreAhead books before = (name : List ℕ) → list_any (bytes_eq name) (topic_names books) ≡ true → rows_on name before ≡ []

-- the rows of a topic are none of a later one
ahead_still : (book : Book) (own : List (Option ℤ)) (books : List Book) (before : List Row) → list_any (bytes_eq book.name) (topic_names books) ≡ false → AreAhead (book ∷ books) before → AreAhead books (before ++ rows_of_book book own)
ahead_still book own books before differ ahead name later =
    filter-append (λ row. bytes_eq name row.topic) before (rows_of_book book own)
    ∙ ap₂ (λ a b. a ++ b) (ahead name (or_second (bytes_eq name book.name) (list_any (bytes_eq name) (topic_names books)) later))
    (on_topic book.name name false (apart book.name name (topic_names books) differ later) book.docs book.grades own)

own_ahead : (book : Book) (books : List Book) (before : List Row) → AreAhead (book ∷ books) before → rows_on book.name before ≡ []
own_ahead book books before ahead = ahead book.name (ap (λ b. b || list_any (bytes_eq book.name) (topic_names books)) (laws.refl book.name))

-- no document stands twice in a topic
pub all_fresh : (before : List Row) (books : List Book) (grades : List (List (Option ℤ))) → IsDistinct (topic_names books) → AllByRecursion IsBook books → AreAhead books before → AreFresh before (rows_in books grades)
all_fresh before [] grades differ sound ahead = tt
all_fresh before (book ∷ books) [] differ sound ahead = tt
all_fresh before (book ∷ books) (own ∷ grades) differ sound ahead =
    fresh-append before (rows_of_book book own) (rows_in books grades)
    (fresh_topic book.name before book.docs book.grades own (ascending_differ book.docs sound.0.ascending) (λ d in_docs. ap (list_any (λ row. bytes_eq d row.document)) (own_ahead book books before ahead)))
    (all_fresh (before ++ rows_of_book book own) books grades differ.1 sound.1 (ahead_still book own books before differ.0 ahead))

-- ---- the rows on a topic are its own
none_off : (name : List ℕ) (books : List Book) (grades : List (List (Option ℤ))) → list_any (bytes_eq name) (topic_names books) ≡ false → rows_on name (rows_in books grades) ≡ []
none_off name [] grades h = refl
none_off name (book ∷ books) [] h = refl
none_off name (book ∷ books) (own ∷ grades) h =
    let parts = neither (bytes_eq name book.name) (list_any (bytes_eq name) (topic_names books)) h in
    filter-append (λ row. bytes_eq name row.topic) (rows_of_book book own) (rows_in books grades)
    ∙ ap₂ (λ a b. a ++ b) (on_topic book.name name false parts.0 book.docs book.grades own) (none_off name books grades parts.1)

pub record HasOwnRows (rows : List Row) (book : Book) (own : List (Option ℤ)) : Type 0 where
  pub are : rows_on book.name rows ≡ rows_of_book book own

pub own_rows : (before : List Row) (books : List Book) (grades : List (List (Option ℤ))) → AllZip AreGradesOf books grades → IsDistinct (topic_names books) → AreAhead books before → AllZip (HasOwnRows (before ++ rows_in books grades)) books grades
own_rows before [] [] graded differ ahead = tt
own_rows before [] (own ∷ grades) graded differ ahead = graded
own_rows before (book ∷ books) [] graded differ ahead = graded
own_rows before (book ∷ books) (own ∷ grades) graded differ ahead = (
  record {
    are = filter-append (λ row. bytes_eq book.name row.topic) before (rows_of_book book own ++ rows_in books grades)
        ∙ ap₂ (λ a b. a ++ b) (own_ahead book books before ahead) (filter-append (λ row. bytes_eq book.name row.topic) (rows_of_book book own) (rows_in books grades)
        ∙ ap₂ (λ a b. a ++ b) (on_topic book.name book.name true (laws.refl book.name) book.docs book.grades own) (none_off book.name books grades differ.0))
        ∙ append-nil (rows_of_book book own);
  },
  subst (λ rows. AllZip (HasOwnRows rows) books grades) (append_assoc before (rows_of_book book own) (rows_in books grades))
      (own_rows (before ++ rows_of_book book own) books grades graded.1 differ.1 (ahead_still book own books before differ.0 ahead)),
)

-- ---- where each topic has a row, the topics of the rows are the topics
pub record HasRow (book : Book) (own : List (Option ℤ)) : Type 0 where
  pub some : 0 < length (rows_of_book book own)

any_all : (p : Row → Bool) (b : Bool) (rows : List Row) → AllByRecursion (λ row. p row ≡ b) rows → 0 < length rows → list_any p rows ≡ b
any_all p b [] h some = absurd (omega arith)
any_all p true (row ∷ rows) h some = ap (λ t. t || list_any p rows) h.0
any_all p false (row ∷ rows) h some = ap (λ t. t || list_any p rows) h.0 ∙ none rows h.1
  where
    none : (rows : List Row) → AllByRecursion (λ row. p row ≡ false) rows → list_any p rows ≡ false
    none [] h = refl
    none (row ∷ rows) h = ap₂ (λ a b. a || b) h.0 (none rows h.1)

pub topics_are : (q : List ℕ) (books : List Book) (grades : List (List (Option ℤ))) → AllZip HasRow books grades → has_topic q (rows_in books grades) ≡ list_any (bytes_eq q) (topic_names books)
topics_are q [] grades h = refl
topics_are q (book ∷ books) [] h = absurd h
topics_are q (book ∷ books) (own ∷ grades) h =
    list_any-append (λ row. bytes_eq q row.topic) (rows_of_book book own) (rows_in books grades)
    ∙ ap₂ (λ a b. a || b) (any_all (λ row. bytes_eq q row.topic) (bytes_eq q book.name) (rows_of_book book own) (each_row book.name (λ row. bytes_eq q row.topic ≡ bytes_eq q book.name) (λ doc g. refl) book.docs book.grades own) h.0.some) (topics_are q books grades h.1)
