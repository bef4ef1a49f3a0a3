-- The text of judgements that were read again.
use Rattle.std.proofs.Common.{◌≡◌, ℕ, zero, suc, ◌<◌, List, [], ◌∷◌, ◌++◌, length, get_or, map, flat_map, Option, Some, None, Ok, ℤ, refl, ap, ap₂, sym, subst, ◌∙◌, arith}
use Rattle.std.specs.List.{zip, AllByRecursion, AllZip}
use Rattle.std.proofs.lemmas.List.{ext_get_or}
use Rattle.std.proofs.lemmas.List.Elements.{recursion_from_All}
use Rattle.std.proofs.lemmas.Option.{slice_get-get_or}
use Rattle.std.specs.Prelude.{slice_get}
use Rattle.desk_model.specs.Book.{Book, IsBook}
use Rattle.desk_model.specs.Desk.{Desk}
use Rattle.desk_report.specs.Judging.{qrels_lines_of, topic_qrels_lines, topic_qrels_text, qrels_text}
use Rattle.desk_report.specs.Table.{ended}
use Rattle.file_rows.specs.Rows.{Row}
use Rattle.file_rows.specs.Grouped.{TopicRows, grouped, rows_in, valued_of}
use Rattle.file_rows.proofs.Grouping.{members_on-grouped}
use Rattle.qrels_reader.specs.Grouped.{qrels_of}
use Rattle.run_reader.specs.Run.{Run}
use Rattle.topics_pool.specs.Rows.{IsBookOf, IsDeskOf, grade_in, topic_names}
use Rattle.qrels_round_trip.specs.RoundTrip.{AreGradesOf, IsJudged, HasJudgements, rows_of_book, rows_in_force}
use Rattle.qrels_round_trip.proofs.Again.{said}
use Rattle.qrels_round_trip.proofs.AllTopics.{ascending_differ, HasOwnRows, own_rows}
use Rattle.qrels_round_trip.proofs.OneTopic.{said_grade, said_of}

-- ---- what the text says of documents, by their grades in the file and in force
said_all : List (Option ℤ) → List (Option ℤ) → List (Option ℤ)
said_all [] grades = []
said_all (f ∷ files) [] = []
said_all (f ∷ files) (g ∷ grades) = said_grade f g ∷ said_all files grades

length_said : (files grades : List (Option ℤ)) → length files ≡ length grades → length (said_all files grades) ≡ length grades
unfolding said_all
length_said [] grades e = e
length_said (f ∷ files) [] e = absurd (omega (arith, e))
length_said (f ∷ files) (g ∷ grades) e = ap suc (length_said files grades (omega (arith, e)))

said_at : (files grades : List (Option ℤ)) (i : ℕ) → i < length files → i < length grades → get_or (said_all files grades) i None ≡ said_grade (get_or files i None) (get_or grades i None)
unfolding said_all
said_at [] grades i lt gt = absurd (omega (arith, lt))
said_at (f ∷ files) [] i lt gt = absurd (omega (arith, gt))
said_at (f ∷ files) (g ∷ grades) zero lt gt = refl
said_at (f ∷ files) (g ∷ grades) (suc i) lt gt = said_at files grades i (omega (arith, lt)) (omega (arith, gt))

line_again : (topic doc : List ℕ) (f g : Option ℤ) → qrels_lines_of topic doc (said_grade f g) g ≡ qrels_lines_of topic doc f g
line_again topic doc None None = refl
line_again topic doc (Some f) None = refl
line_again topic doc None (Some g) = refl
line_again topic doc (Some f) (Some g) = refl

lines_again : (topic : List ℕ) (docs : List (List ℕ)) (files grades : List (Option ℤ)) → flat_map (λ p. qrels_lines_of topic p.0 p.1.0 p.1.1) (zip docs (zip (said_all files grades) grades)) ≡ flat_map (λ p. qrels_lines_of topic p.0 p.1.0 p.1.1) (zip docs (zip files grades))
unfolding said_all
lines_again topic [] files grades = refl
lines_again topic (d ∷ docs) [] grades = refl
lines_again topic (d ∷ docs) (f ∷ files) [] = refl
lines_again topic (d ∷ docs) (f ∷ files) (g ∷ grades) = ap₂ (λ xs ys. xs ++ ys) (line_again topic d f g) (lines_again topic docs files grades)

-- ---- one topic
module _ (rows : List Row) (others : List Run) (book again : Book) (own : List (Option ℤ)) (sound : IsBook book) (sound_again : IsBook again) (of_said : IsBookOf (grouped rows) others again) (named : again.name ≡ book.name) (same_docs : again.docs ≡ book.docs)
    (are : AreGradesOf book own) (has : HasOwnRows rows book own)
  where
    own_documents : rows_in again.name (grouped rows) ≡ map valued_of (rows_of_book book own)
    own_documents = ap (λ name. rows_in name (grouped rows)) named ∙ members_on-grouped book.name rows ∙ ap (map valued_of) has.are

    grades_again : again.grades ≡ said_all book.grades own
    grades_again =
        let counted = are.count in
        let long : length again.grades ≡ length (said_all book.grades own) =
        sound_again.graded ∙ ap length same_docs ∙ sym counted ∙ sym (length_said book.grades own (sound.graded ∙ sym counted)) in
        ext_get_or None again.grades (said_all book.grades own) long (λ i lt.
        let in_docs : i < length book.docs = omega (arith, lt, sound_again.graded, ap length same_docs) in
        let in_files : i < length book.grades = omega (arith, in_docs, sound.graded) in
        let in_own : i < length own = omega (arith, in_docs, counted) in
        let q = get_or book.docs i [] in
        let there : slice_get book.docs i ≡ Some q = slice_get-get_or book.docs i [] in_docs in
        of_said.grades i q (ap (λ docs. slice_get docs i) same_docs ∙ there) ∙ ap (λ documents. grade_in documents q) own_documents
        ∙ said_of book.name book.docs book.grades own i q (get_or book.grades i None) (get_or own i None) (ascending_differ book.docs sound.ascending) there (slice_get-get_or book.grades i None in_files) (slice_get-get_or own i None in_own)
        ∙ sym (said_at book.grades own i in_files in_own))

    topic_again : topic_qrels_text again own ≡ topic_qrels_text book own
    topic_again =
        let moved : topic_qrels_lines again own ≡ flat_map (λ p. qrels_lines_of book.name p.0 p.1.0 p.1.1) (zip book.docs (zip (said_all book.grades own) own)) =
        λ i. flat_map (λ p. qrels_lines_of (named i) p.0 p.1.0 p.1.1) (zip (same_docs i) (zip (grades_again i) own)) in
        ap (flat_map ended) (moved ∙ lines_again book.name book.docs book.grades own)

-- ---- all topics
topics_again : (rows : List Row) (others : List Run) (books again : List Book) (grades : List (List (Option ℤ))) → topic_names again ≡ topic_names books → map (λ (book : Book). book.docs) again ≡ map (λ (book : Book). book.docs) books →
    AllByRecursion IsBook books → AllByRecursion IsBook again → AllByRecursion (IsBookOf (grouped rows) others) again → AllZip AreGradesOf books grades → AllZip (HasOwnRows rows) books grades →
    flat_map (λ p. topic_qrels_text p.0 p.1) (zip again grades) ≡ flat_map (λ p. topic_qrels_text p.0 p.1) (zip books grades)
topics_again rows others [] [] grades named docs s t p are has = refl
topics_again rows others [] (a ∷ again) grades named docs s t p are has = absurd (cc)
topics_again rows others (b ∷ books) [] grades named docs s t p are has = absurd (cc)
topics_again rows others (b ∷ books) (a ∷ again) [] named docs s t p are has = refl
topics_again rows others (b ∷ books) (a ∷ again) (own ∷ grades) named docs s t p are has =
    let name : a.name ≡ b.name = cc in
    let names : topic_names again ≡ topic_names books = cc in
    let own_docs : a.docs ≡ b.docs = cc in
    let more_docs : map (λ (book : Book). book.docs) again ≡ map (λ (book : Book). book.docs) books = cc in
    ap₂ (λ xs ys. xs ++ ys) (topic_again rows others b a own s.0 t.0 p.0 name own_docs are.0 has.0) (topics_again rows others books again grades names more_docs s.1 t.1 p.1 are.1 has.1)

-- a desk of what the text says has the text, with the same judgements in force
pub text_again : (bytes : List ℕ) (qrels later : List TopicRows) (runs others : List Run) (desk again : Desk) (grades : List (List (Option ℤ))) → IsJudged bytes qrels runs desk grades → qrels_of (qrels_text desk grades) ≡ Ok later →
    IsDeskOf later others again → HasJudgements desk grades again → qrels_text again grades ≡ qrels_text desk grades
text_again bytes qrels later runs others desk again grades judged e ranked same =
    let rows = rows_in_force desk grades in
    let whole = said bytes qrels runs desk grades judged in
    let own : later ≡ grouped rows = (rw e at whole).0 in
    let of_grouped : IsDeskOf (grouped rows) others again = subst (λ topics. IsDeskOf topics others again) own ranked in
    topics_again rows others desk.topics again.topics grades same.topics same.universes (recursion_from_All IsBook desk.topics judged.of_rows.valid.books) (recursion_from_All IsBook again.topics of_grouped.valid.books)
    (recursion_from_All (IsBookOf (grouped rows) others) again.topics of_grouped.books) judged.in_force
    (own_rows [] desk.topics grades judged.in_force (ascending_differ (topic_names desk.topics) judged.of_rows.valid.ascending) (λ name h. refl))
