-- The desk of what the text says.
use Rattle.std.proofs.Common.{◌≡◌, ℕ, ◌<◌, List, [], ◌∷◌, length, get_or, true, false, true≢false, cond, refl, ap, ap₂, sym, subst, ◌∙◌, arith, ℤ, length-append, inl, inr}
use Rattle.std.specs.Prelude.{Bool, ◌||◌, ◌==◌, map, flat_map, Option, Some, None, slice_get, Result, Ok, Err}
use Rattle.std.specs.List.{list_any, AllZip, AllByRecursion}
use Rattle.std.specs.Str.{bytes_eq}
use Rattle.std.proofs.lemmas.Bool.{ne_eqb}
use Rattle.std.proofs.lemmas.List.{ext_get_or, length-map, get_or-map}
use Rattle.std.proofs.lemmas.List.Folds.{list_any-append, flat_map-map}
use Rattle.std.proofs.lemmas.List.Elements.{recursion_from_All, All-from_recursion}
use Rattle.std.proofs.lemmas.Option.{slice_get-get_or}
use Rattle.desk_text.specs.Lines.{lines}
use Rattle.desk_model.specs.Book.{Book, IsBook}
use Rattle.desk_model.specs.Desk.{Desk}
use Rattle.judge_session.specs.InForce.{counted_grade}
use Rattle.desk_report.specs.Judging.{qrels_text}
use Rattle.file_rows.specs.Rows.{Row}
use Rattle.qrels_reader.specs.Rows.{read_row}
use Rattle.file_rows.specs.Reading.{rows_of, rows_from, and_then}
use Rattle.file_rows.specs.Grouped.{TopicRows, valued_of, grouped, names_of, Valued, rows_in as rows_of_topic}
use Rattle.qrels_reader.specs.Grouped.{qrels_of}
use Rattle.file_rows.specs.declared.fault.FileFault.{FileFault}
use Rattle.file_rows.specs.declared.fault.FileFault.TheVariants.{NoTopics}
use Rattle.file_rows.proofs.Seen.{IsDistinct}
use Rattle.file_rows.proofs.Mapped.{list_any-map}
use Rattle.file_rows.proofs.Grouping.{is_topic-grouped, members_on-grouped}
use Rattle.run_reader.specs.Run.{Run}
use Rattle.topic_universe.specs.Names.{HaveSameNames}
use Rattle.topic_universe.specs.Universe.{listed, retrieved}
use Rattle.topics_pool.specs.Rows.{IsDeskOf, IsBookOf, topic_names, grade_in}
use Rattle.topics_pool.proofs.OneDesk.{one_names}
use Rattle.qrels_round_trip.specs.RoundTrip.{IsGradeInForce, AreGradesOf, IsJudged, rows_of_book, rows_in_force, AreWithinLimits, IsLimitPassed, said_by, TextSaysJudgements, LimitsAloneRefuse, JudgementsAreKept}
use Rattle.qrels_round_trip.proofs.Line.{line_of}
use Rattle.qrels_round_trip.proofs.Reading.{AreNew, IsOutcome, reads}
use Rattle.qrels_round_trip.proofs.Text.{lines-of_ended, text_is}
use Rattle.qrels_round_trip.proofs.OneTopic.{is_said, has_row, said_of, said_counts}
use Rattle.qrels_round_trip.proofs.AllTopics.{rows_in, ascending_differ, all_writable, all_among, own_names, are_new, all_fresh, HasOwnRows, own_rows, HasRow, topics_are}
use Rattle.qrels_round_trip.proofs.Universes.{with_topics}
use Rattle.qrels_round_trip.proofs.Listed.{read_grouped, listed_said, all_have_rows}

-- ---- what the text says
-- rows that are read, grouped, or a limit is passed
abbrev IsSaid : List Row → Result (List TopicRows) FileFault → Type 0
IsSaid rows (Ok said) = (said ≡ grouped rows) × AreWithinLimits rows
IsSaid rows (Err fault) = IsLimitPassed rows fault

said_outcome : (rows : List Row) → 0 < length rows → (r : Result (List Row) FileFault) → IsOutcome rows r → IsSaid rows (and_then r (λ read. cond (length read == 0) (Err NoTopics) (Ok (grouped read))))
said_outcome rows some (Ok read) h =
    let filled : (length read == 0) ≡ false = ne_eqb (length read) 0 (λ e. let long = ap length h.0 in omega arith) in
    subst (IsSaid rows) (sym (ap (λ b. cond b (Err NoTopics) (Ok (grouped read))) filled)) (ap grouped h.0, h.1)
said_outcome rows some (Err fault) h = h

weaker : {X : Type 0} (P Q : X → Type 0) → ((x : X) → P x → Q x) → (xs : List X) → AllByRecursion P xs → AllByRecursion Q xs
weaker P Q f [] h = tt
weaker P Q f (x ∷ xs) h = (f x h.0, weaker P Q f xs h.1)

module _ (bytes : List ℕ) (qrels : List TopicRows) (runs : List Run) (desk : Desk) (grades : List (List (Option ℤ))) (judged : IsJudged bytes qrels runs desk grades) where
  sound : AllByRecursion IsBook desk.topics
  sound = recursion_from_All IsBook desk.topics judged.of_rows.valid.books

  differ : IsDistinct (topic_names desk.topics)
  differ = ascending_differ (topic_names desk.topics) judged.of_rows.valid.ascending

  have_rows : AllZip HasRow desk.topics grades
  have_rows =
      all_have_rows qrels runs desk.topics grades (read_grouped bytes qrels judged.read) sound (recursion_from_All (IsBookOf qrels runs) desk.topics judged.of_rows.books)
      (weaker (λ book. list_any (bytes_eq book.name) (topic_names desk.topics) ≡ true) (λ book. list_any (bytes_eq book.name) (names_of qrels) ≡ true)
      (λ book h. sym (judged.of_rows.topics book.name) ∙ h) desk.topics (own_names desk.topics)) judged.in_force

  some_row : 0 < length (rows_in_force desk grades)
  some_row = by desk.topics grades judged.of_rows.valid.some_topic have_rows
    where
      by : (books : List Book) (grades : List (List (Option ℤ))) → 0 < length books → AllZip HasRow books grades → 0 < length (rows_in books grades)
      by [] grades some h = absurd (omega arith)
      by (book ∷ books) [] some h = absurd h
      by (book ∷ books) (own ∷ grades) some h = let first = h.0.some in omega (arith, first, length-append (rows_of_book book own) (rows_in books grades))

  pub said : IsSaid (rows_in_force desk grades) (qrels_of (qrels_text desk grades))
  said =
      let rows = rows_in_force desk grades in
      let writable = all_writable desk.topics grades sound judged.in_force in
      let among = all_among (topic_names desk.topics) desk.topics grades (own_names desk.topics) in
      let fresh = all_fresh [] desk.topics grades differ sound (λ name h. refl) in
      let new : AreNew [] rows = are_new (topic_names desk.topics) [] rows (omega (arith, length-map desk.topics (λ (b : Book). b.name), judged.of_rows.valid.topics)) tt among fresh in
      let none : AreWithinLimits [] = record { count = omega arith; name_bytes = omega arith } in
      let outcome = reads 1 [] rows writable new none in
      let same : rows_of read_row (qrels_text desk grades) ≡ rows_from read_row 1 [] (map line_of rows) =
      ap (rows_from read_row 1 []) (ap lines (text_is desk grades) ∙ lines-of_ended rows writable) in
      said_outcome rows some_row (rows_of read_row (qrels_text desk grades)) (subst (IsOutcome rows) (sym same) outcome)

-- ---- one topic
sandwich : (a l m r : Bool) → a ≡ (l || r) → (m ≡ true → a ≡ true) → (l ≡ true → m ≡ true) → (m || r) ≡ a
sandwich a l true r e f g = sym (f refl)
sandwich a true false r e f g = absurd (true≢false (sym (g refl)))
sandwich a false false r e f g = sym e

any_said : (topic q : List ℕ) (rows : List Row) → list_any (bytes_eq q) (listed (map valued_of rows)) ≡ is_said topic q rows
any_said topic q rows =
    sym (list_any-map (bytes_eq q) (λ judged. judged.document) (map valued_of rows)) ∙ sym (list_any-map (λ judged. bytes_eq q judged.document) valued_of rows)

pub record IsSame (book : Book) (own : List (Option ℤ)) (again : Book) : Type 0 where
  pub docs : again.docs ≡ book.docs
  pub judgements : map counted_grade again.grades ≡ own

-- runs that say the same retrieve the same documents
same_retrieved : (topic : List ℕ) (runs others : List Run) → map said_by others ≡ map said_by runs → flat_map (retrieved topic) others ≡ flat_map (retrieved topic) runs
same_retrieved topic runs others kept =
    let of_topics : List ℕ × List TopicRows → List (List ℕ) = λ p. map (λ (scored : Valued). scored.document) (rows_of_topic topic p.1) in
    sym (flat_map-map of_topics said_by others) ∙ ap (flat_map of_topics) kept ∙ flat_map-map of_topics said_by runs

module _ (qrels : List TopicRows) (runs others : List Run) (same_runs : map said_by others ≡ map said_by runs) (rows : List Row) (book again : Book) (own : List (Option ℤ)) (sound : IsBook book) (of_qrels : IsBookOf qrels runs book) (sound_again : IsBook again) (of_said : IsBookOf (grouped rows) others again)
    (named : again.name ≡ book.name) (are : AreGradesOf book own) (has : HasOwnRows rows book own)
  where
    own_documents : rows_of_topic again.name (grouped rows) ≡ map valued_of (rows_of_book book own)
    own_documents = ap (λ name. rows_of_topic name (grouped rows)) named ∙ members_on-grouped book.name rows ∙ ap (map valued_of) has.are

    same_docs : again.docs ≡ book.docs
    same_docs = one_names again.docs book.docs sound_again.ascending sound.ascending (λ q.
        let retrieved_is = list_any (bytes_eq q) (flat_map (retrieved book.name) runs) in
        of_said.universe q ∙ list_any-append (bytes_eq q) (listed (rows_of_topic again.name (grouped rows))) (flat_map (retrieved again.name) others)
        ∙ ap₂ (λ documents name. list_any (bytes_eq q) (listed documents) || list_any (bytes_eq q) (flat_map (retrieved name) others)) own_documents named
        ∙ ap (λ names. list_any (bytes_eq q) (listed (map valued_of (rows_of_book book own))) || list_any (bytes_eq q) names) (same_retrieved book.name runs others same_runs)
        ∙ ap (λ b. b || retrieved_is) (any_said book.name q (rows_of_book book own))
        ∙ sandwich (list_any (bytes_eq q) book.docs) (list_any (bytes_eq q) (listed (rows_of_topic book.name qrels))) (is_said book.name q (rows_of_book book own)) retrieved_is
        (of_qrels.universe q ∙ list_any-append (bytes_eq q) (listed (rows_of_topic book.name qrels)) (flat_map (retrieved book.name) runs))
        (has_row book.name q book.docs book.grades own) (listed_said qrels runs book sound of_qrels own are.count q))

    same_judgements : map counted_grade again.grades ≡ own
    same_judgements =
        let long : length (map counted_grade again.grades) ≡ length own = length-map again.grades counted_grade ∙ sound_again.graded ∙ ap length same_docs ∙ sym are.count in
        ext_get_or None (map counted_grade again.grades) own long (λ i lt.
        let in_again : i < length again.grades = omega (arith, lt, length-map again.grades counted_grade) in
        let in_docs : i < length book.docs = omega (arith, in_again, sound_again.graded, ap length same_docs) in
        let in_own : i < length own = omega (arith, lt, long) in
        let q = get_or book.docs i [] in
        let there : slice_get book.docs i ≡ Some q = slice_get-get_or book.docs i [] in_docs in
        let file = get_or book.grades i None in
        let grade = get_or own i None in
        get_or-map counted_grade again.grades i None None in_again
        ∙ ap counted_grade (of_said.grades i q (ap (λ docs. slice_get docs i) same_docs ∙ there) ∙ ap (λ documents. grade_in documents q) own_documents
        ∙ said_of book.name book.docs book.grades own i q file grade (ascending_differ book.docs sound.ascending) there
        (slice_get-get_or book.grades i None (omega (arith, in_docs, sound.graded))) (slice_get-get_or own i None in_own))
        ∙ said_counts file grade (All-from_recursion IsGradeInForce own are.each i None in_own))

    one_again : IsSame book own again
    one_again = record { docs = same_docs; judgements = same_judgements }

-- ---- all topics
record AreSame (books : List Book) (grades : List (List (Option ℤ))) (again : List Book) : Type 0 where
  pub docs : map (λ (book : Book). book.docs) again ≡ map (λ (book : Book). book.docs) books
  pub judgements : map (λ (book : Book). map counted_grade book.grades) again ≡ grades

all_again : (qrels : List TopicRows) (runs others : List Run) → map said_by others ≡ map said_by runs → (rows : List Row) (books again : List Book) (grades : List (List (Option ℤ))) → topic_names again ≡ topic_names books → AllByRecursion IsBook books → AllByRecursion (IsBookOf qrels runs) books →
    AllByRecursion IsBook again → AllByRecursion (IsBookOf (grouped rows) others) again → AllZip AreGradesOf books grades → AllZip (HasOwnRows rows) books grades → AreSame books grades again
all_again qrels runs others same_runs rows [] [] [] named s o t p are has = record { docs = refl; judgements = refl }
all_again qrels runs others same_runs rows [] [] (own ∷ grades) named s o t p are has = absurd are
all_again qrels runs others same_runs rows [] (a ∷ again) grades named s o t p are has = absurd (cc)
all_again qrels runs others same_runs rows (b ∷ books) [] grades named s o t p are has = absurd (cc)
all_again qrels runs others same_runs rows (b ∷ books) (a ∷ again) [] named s o t p are has = absurd are
all_again qrels runs others same_runs rows (b ∷ books) (a ∷ again) (own ∷ grades) named s o t p are has =
    let first : a.name ≡ b.name = cc in
    let later : topic_names again ≡ topic_names books = cc in
    let one = one_again qrels runs others same_runs rows b a own s.0 o.0 t.0 p.0 first are.0 has.0 in
    let rest = all_again qrels runs others same_runs rows books again grades later s.1 o.1 t.1 p.1 are.1 has.1 in
    record {
      docs = ap₂ (λ x xs. x ∷ xs) one.docs rest.docs;
      judgements = ap₂ (λ x xs. x ∷ xs) one.judgements rest.judgements;
    }

-- ---- the laws
pub text_says : TextSaysJudgements
text_says bytes qrels runs desk grades judged within = by (qrels_of (qrels_text desk grades)) (said bytes qrels runs desk grades judged)
  where
    by : (r : Result (List TopicRows) FileFault) → IsSaid (rows_in_force desk grades) r → r ≡ Ok (grouped (rows_in_force desk grades))
    by (Ok said) h = ap Ok h.0
    by (Err fault) h = absurd (elim h.1 [ inl w ↦ (let over = w.1 in let most = within.count in omega arith) | inr w ↦ (let over = w.1 in let most = within.name_bytes in omega arith) ])

pub limits_refuse : LimitsAloneRefuse
limits_refuse bytes qrels runs desk grades fault judged e = subst (IsSaid (rows_in_force desk grades)) e (said bytes qrels runs desk grades judged)

pub are_kept : JudgementsAreKept
are_kept bytes qrels said_topics runs desk grades judged e =
    let rows = rows_in_force desk grades in
    let own : said_topics ≡ grouped rows = (subst (IsSaid rows) e (said bytes qrels runs desk grades judged)).0 in
    let same : HaveSameNames (names_of said_topics) (topic_names desk.topics) =
    λ q. ap (λ topics. list_any (bytes_eq q) (names_of topics)) own ∙ is_topic-grouped q rows ∙ topics_are q desk.topics grades (have_rows bytes qrels runs desk grades judged) in (
      λ q. same q ∙ judged.of_rows.topics q,
      λ others again same_runs is_again.
          let of_grouped : IsDeskOf (grouped rows) others again = subst (λ topics. IsDeskOf topics others again) own is_again in
          let named : topic_names again.topics ≡ topic_names desk.topics =
          one_names (topic_names again.topics) (topic_names desk.topics) is_again.valid.ascending judged.of_rows.valid.ascending (λ q. is_again.topics q ∙ same q) in
          let all = all_again qrels runs others same_runs rows desk.topics again.topics grades named
          (sound bytes qrels runs desk grades judged) (recursion_from_All (IsBookOf qrels runs) desk.topics judged.of_rows.books)
          (recursion_from_All IsBook again.topics of_grouped.valid.books) (recursion_from_All (IsBookOf (grouped rows) others) again.topics of_grouped.books)
          judged.in_force (own_rows [] desk.topics grades judged.in_force (differ bytes qrels runs desk grades judged) (λ name h. refl)) in
          let one = with_topics qrels said_topics runs others desk again judged.of_rows is_again named all.docs same_runs in
          record { topics = named; universes = all.docs; judgements = all.judgements; runs = ap (λ (d : Desk). d.runs) one; rankings = ap (λ (d : Desk). d.rankings) one },
    )
