-- Lists that are made topic by topic and document by document, and the numbers of names.
use Rattle.std.proofs.Common.{◌≡◌, ℕ, zero, suc, ◌+◌, ◌<◌, Bool, true, false, cond, List, [], ◌∷◌, ◌++◌, map, map-id, length, take, get_or, Some, refl, ap, sym, ◌∙◌, arith}
use Rattle.std.specs.Prelude.{slice_get, filter, ◌&&◌, ℤ}
use Rattle.std.specs.List.{IsDistinct, range_with_len, position_from, zip}
use Rattle.std.proofs.lemmas.List.{get_or_default, length-map, map-append}
use Rattle.std.proofs.lemmas.List.FromFn.{filter_of_map_range_with_len_more}
use Rattle.std.proofs.lemmas.Option.{get_or_from_slice_get, slice_get-get_or}
use Rattle.std.proofs.lemmas.Slice.Eq.{bytes_eq-Decides}
use Rattle.desk_model.specs.Book.{Book}
use Rattle.desk_model.specs.Desk.{Desk, AreMarksOf, ranking_of, topics_under}
use Rattle.desk_model.specs.Extremes.{Ends}
use Rattle.desk_model.specs.Mark.{is_unjudged, mark_at}
use Rattle.desk_model.specs.Name.{is_same_name, number_of}
use Rattle.desk_model.specs.Named.{book_at}
use Rattle.desk_model.specs.Order.{Topic}
use Rattle.desk_model.specs.declared.types.Mark.{Mark}
use Rattle.desk_model.specs.declared.types.Mark.TheVariants.{Unjudged}
use Rattle.desk_model.specs.declared.types.MeasureName.{MeasureName}
use Rattle.desk_model.proofs.DeskTopics.{topic_of, topic_there, length-topics_under}
use Rattle.small_lemmas.proofs.Lists.{slice_get-zip, map_there, all_there}
use Rattle.desk_model.proofs.Nested.{length-zip, take-there, zipped_at}
use Rattle.measure_laws.specs.Cases.{least_truth}
use Rattle.measure_core.specs.Laws.{AreValues}
use Rattle.order_certificate.specs.declared.certificate.TopicBound.{TopicBound}
use Rattle.order_certificate.specs.declared.certificate.TopicWitness.{TopicWitness}
use Rattle.pair_table.specs.Evidence.{bounds_of, relevant_names, witnesses_of, witness_of}
use Rattle.pair_table.specs.TopicUnder.{TopicUnder, IsKnownTopic}
use Rattle.pair_table.proofs.DeskTopics.{marks_known}

-- one more of a list
pub grown : {X : Type 0} (xs ys : List X) (t : ℕ) (x : X) → slice_get xs t ≡ Some x → ys ≡ take t xs → ys ++ x ∷ [] ≡ take (t + 1) xs
grown xs ys t x there h = ap (λ l. l ++ x ∷ []) h ∙ sym (take-there xs t x there)

-- the bound of a topic
pub bound_there : (high : Ends → ℤ) (desk : Desk) (ends : List Ends) (t : ℕ) (book : Book) (e : Ends) → slice_get desk.topics t ≡ Some book → slice_get ends t ≡ Some e →
    slice_get (bounds_of high desk ends) t ≡ Some (record { topic = book.name; low = e.least_lo; high = high e })
bound_there high desk ends t book e at_book at_ends =
    let f : Book × Ends → TopicBound = λ p. record { topic = p.0.name; low = p.1.least_lo; high = high p.1 } in
    map_there f (zip desk.topics ends) t (book, e) (slice_get-zip desk.topics ends t book e at_book at_ends)

pub length-bounds : (high : Ends → ℤ) (desk : Desk) (ends : List Ends) → length ends ≡ length desk.topics → length (bounds_of high desk ends) ≡ length desk.topics
length-bounds high desk ends same =
    let f : Book × Ends → TopicBound = λ p. record { topic = p.0.name; low = p.1.least_lo; high = high p.1 } in
    length-map (zip desk.topics ends) f ∙ length-zip desk.topics ends same

-- ---- documents
-- the names of those of the first documents that pass a test
abbrev pub passed : List (List ℕ) → (ℕ → Bool) → ℕ → List (List ℕ)
passed docs p n = map (λ doc. get_or docs doc []) (filter p (range_with_len 0 n))

passed_next : (docs : List (List ℕ)) (p : ℕ → Bool) (n : ℕ) → passed docs p (n + 1) ≡ passed docs p n ++ map (λ doc. get_or docs doc []) (cond (p n) (n ∷ []) [])
passed_next docs p n =
    let name : ℕ → List ℕ = λ doc. get_or docs doc [] in
    let last : List ℕ = cond (p n) (n ∷ []) [] in
    let same : (k : ℕ) → map (λ (d : ℕ). d) (range_with_len 0 k) ≡ range_with_len 0 k = λ k. map-id (range_with_len 0 k) in
    ap (λ ns. map name (filter p ns)) (sym (same (n + 1)))
    ∙ ap (map name) (filter_of_map_range_with_len_more p (λ d. d) 0 n n (omega arith))
    ∙ ap (λ ns. map name (filter p ns ++ last)) (same n)
    ∙ map-append name (filter p (range_with_len 0 n)) last

pub passed_more : (docs : List (List ℕ)) (p : ℕ → Bool) (n : ℕ) (name : List ℕ) (names : List (List ℕ)) → names ≡ passed docs p n → p n ≡ true → get_or docs n [] ≡ name → names ++ name ∷ [] ≡ passed docs p (n + 1)
passed_more docs p n name names h passes here =
    ap (λ (l : List (List ℕ)). l ++ name ∷ []) h ∙ ap (λ x. passed docs p n ++ x ∷ []) (sym here)
    ∙ ap (λ b. passed docs p n ++ map (λ doc. get_or docs doc []) (cond b (n ∷ []) [])) (sym passes) ∙ sym (passed_next docs p n)

pub passed_same : (docs : List (List ℕ)) (p : ℕ → Bool) (n : ℕ) (names : List (List ℕ)) → names ≡ passed docs p n → p n ≡ false → names ≡ passed docs p (n + 1)
passed_same docs p n names h fails =
    h ∙ sym (append-none (passed docs p n)) ∙ ap (λ b. passed docs p n ++ map (λ doc. get_or docs doc []) (cond b (n ∷ []) [])) (sym fails) ∙ sym (passed_next docs p n)
  where
    append-none : (xs : List (List ℕ)) → xs ++ [] ≡ xs
    append-none [] = refl
    append-none (x ∷ xs) = ap (λ l. x ∷ l) (append-none xs)

filter_agree : (p q : ℕ → Bool) (a n : ℕ) → ((doc : ℕ) → doc < a + n → p doc ≡ q doc) → filter p (range_with_len a n) ≡ filter q (range_with_len a n)
filter_agree p q a zero h = refl
filter_agree p q a (suc n) h =
    ap (λ b. cond b (a ∷ filter p (range_with_len (a + 1) n)) (filter p (range_with_len (a + 1) n))) (h a (omega arith))
    ∙ ap (λ l. cond (q a) (a ∷ l) l) (filter_agree p q (a + 1) n (λ doc k. h doc (omega arith)))

-- truth values that agree make the same documents relevant
pub relevant_agree : (docs : List (List ℕ)) (marks : List Mark) (s t : ℕ → Bool) → ((doc : ℕ) → doc < length docs → s doc ≡ t doc) → relevant_names docs marks s ≡ relevant_names docs marks t
relevant_agree docs marks s t h =
    ap (map (λ doc. get_or docs doc [])) (filter_agree (λ doc. is_unjudged (mark_at marks doc) && s doc) (λ doc. is_unjudged (mark_at marks doc) && t doc) 0 (length docs)
    (λ doc k. ap (λ b. is_unjudged (mark_at marks doc) && b) (h doc (omega arith))))

-- ---- the number of a name among different ones
numbered : (n : ℕ) (names : List (List ℕ)) (i : ℕ) (name : List ℕ) → IsDistinct is_same_name names → slice_get names i ≡ Some name → position_from (λ each. is_same_name each name) n names ≡ Some (n + i)
unfolding IsDistinct
numbered n [] i name h e = absurd (cc)
numbered n (x ∷ names) zero name h e =
    let same : x ≡ name = cc in
    let here : is_same_name x name ≡ true = (bytes_eq-Decides x name).1 same in
    let at : n ≡ n + 0 = omega arith in
    rw here (ap (λ (m : ℕ). Some m) at)
numbered n (x ∷ names) (suc i) name h e =
    let apart : is_same_name x name ≡ false = all_there (λ y. is_same_name x y ≡ false) names i name h.0 e in
    let at : n + 1 + i ≡ n + suc i = omega arith in
    rw apart (numbered (n + 1) names i name h.1 e ∙ ap (λ (m : ℕ). Some m) at)

pub number_there : (names : List (List ℕ)) (i : ℕ) (name : List ℕ) → IsDistinct is_same_name names → slice_get names i ≡ Some name → number_of names name ≡ Some i
number_there names i name h e = let at : 0 + i ≡ i = omega arith in numbered 0 names i name h e ∙ ap (λ (m : ℕ). Some m) at

-- the name with a number
name_numbered : (n : ℕ) (names : List (List ℕ)) (name : List ℕ) (i : ℕ) → position_from (λ each. is_same_name each name) n names ≡ Some i → (k : ℕ) × (i ≡ n + k) × (slice_get names k ≡ Some name)
name_numbered n [] name i e = absurd (cc)
name_numbered n (x ∷ names) name i e = go (is_same_name x name) refl (λ h. name_numbered (n + 1) names name i h) e
  where
    go : (b : Bool) → is_same_name x name ≡ b → (position_from (λ each. is_same_name each name) (n + 1) names ≡ Some i → (k : ℕ) × (i ≡ n + 1 + k) × (slice_get names k ≡ Some name)) →
        cond b (Some n) (position_from (λ each. is_same_name each name) (n + 1) names) ≡ Some i → (k : ℕ) × (i ≡ n + k) × (slice_get (x ∷ names) k ≡ Some name)
    go true here rest h =
        let at : n ≡ i = cc in
        let same : x ≡ name = (bytes_eq-Decides x name).0 here in
        (0, omega (arith, at), ap Some same)
    go false here rest h = let later = rest h in (suc later.0, omega (arith, later.1), later.2)

pub there_number : (names : List (List ℕ)) (name : List ℕ) (i : ℕ) → number_of names name ≡ Some i → slice_get names i ≡ Some name
there_number names name i e =
    let found = name_numbered 0 names name i e in
    let at : found.0 ≡ i = omega (arith, found.1) in
    ap (slice_get names) (sym at) ∙ found.2

-- ---- the witness of a topic
pub universe_there : (desk : Desk) (marks : List (List Mark)) (t : ℕ) (book : Book) (m : List Mark) → AreMarksOf desk marks → slice_get desk.topics t ≡ Some book → slice_get marks t ≡ Some m → length m ≡ length book.docs
universe_there desk marks t book m known at_book at_marks =
    ap length (sym (get_or_from_slice_get marks t m [] at_marks)) ∙ zipped_at (λ (each : Book) (topic : List Mark). length topic ≡ length each.docs) desk.topics marks t book [] known at_book

pub added_test : (marks : List Mark) (truth : List Bool) (doc : ℕ) (d : Mark) (e b : Bool) → doc < length marks → doc < length truth → b ≡ (is_unjudged (get_or marks doc d) && get_or truth doc e) → (is_unjudged (mark_at marks doc) && get_or truth doc false) ≡ b
added_test marks truth doc d e b in_marks in_truth h =
    ap (λ m. is_unjudged m && get_or truth doc false) (get_or_default marks doc Unjudged d in_marks)
    ∙ ap (λ v. is_unjudged (get_or marks doc d) && v) (get_or_default truth doc false e in_truth) ∙ sym h

pub case_listed : (measure : MeasureName) (docs : List (List ℕ)) (m : List Mark) (a b : List ℕ) (values truth : List Bool) → length m ≡ length docs → truth ≡ values → AreValues (least_truth measure m a b) (length m) values →
    relevant_names docs m (λ doc. get_or truth doc false) ≡ relevant_names docs m (least_truth measure m a b)
case_listed measure docs m a b values truth count same are =
    relevant_agree docs m (λ doc. get_or truth doc false) (least_truth measure m a b) (λ doc k. ap (λ (l : List Bool). get_or l doc false) same ∙ are.each doc (omega (arith, k, count)))

abbrev witness_at : MeasureName → Desk → ℕ → ℕ → ℕ → Book → List Mark → TopicWitness
witness_at measure desk a b t book m = record {
  topic = book.name;
  low = relevant_names book.docs m (least_truth measure m (ranking_of desk a t) (ranking_of desk b t));
  high = relevant_names book.docs m (least_truth measure m (ranking_of desk b t) (ranking_of desk a t));
}

witness_there : (measure : MeasureName) (desk : Desk) (marks : List (List Mark)) (a b t : ℕ) (book : Book) (m : List Mark) → slice_get desk.topics t ≡ Some book → slice_get marks t ≡ Some m →
    slice_get (witnesses_of measure desk marks a b) t ≡ Some (witness_at measure desk a b t book m)
witness_there measure desk marks a b t book m at_book at_marks =
    let f : Book × Topic → TopicWitness = λ p. record {
      topic = p.0.name;
      low = relevant_names p.0.docs p.1.marks (least_truth measure p.1.marks (p.1.ranking a) (p.1.ranking b));
      high = relevant_names p.0.docs p.1.marks (least_truth measure p.1.marks (p.1.ranking b) (p.1.ranking a));
    } in
    map_there f (zip desk.topics (topics_under desk marks)) t (book, topic_of desk t m) (slice_get-zip desk.topics (topics_under desk marks) t book (topic_of desk t m) at_book (topic_there desk marks t m at_marks))

-- a topic under marks has its witness
pub witness_known : (measure : MeasureName) (t : TopicUnder) (a b : ℕ) → IsKnownTopic t → slice_get (witnesses_of measure t.desk t.marks a b) t.number ≡ Some (witness_of measure t a b)
witness_known measure t a b known =
    let none : Book = record { name = []; docs = []; grades = [] } in
    witness_there measure t.desk t.marks a b t.number (book_at t.desk t.number) (get_or t.marks t.number []) (slice_get-get_or t.desk.topics t.number none known.known) (slice_get-get_or t.marks t.number [] (marks_known t known))

pub length-witnesses : (measure : MeasureName) (desk : Desk) (marks : List (List Mark)) (a b : ℕ) → AreMarksOf desk marks → length (witnesses_of measure desk marks a b) ≡ length desk.topics
length-witnesses measure desk marks a b known =
    let f : Book × Topic → TopicWitness = λ p. record {
      topic = p.0.name;
      low = relevant_names p.0.docs p.1.marks (least_truth measure p.1.marks (p.1.ranking a) (p.1.ranking b));
      high = relevant_names p.0.docs p.1.marks (least_truth measure p.1.marks (p.1.ranking b) (p.1.ranking a));
    } in
    length-map (zip desk.topics (topics_under desk marks)) f ∙ length-zip desk.topics (topics_under desk marks) (length-topics_under desk marks known)
