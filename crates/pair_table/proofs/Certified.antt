-- An answered certificate is a certificate: its numbers have at most 19 digits, and its names ascend.
use Rattle.std.proofs.Common.{◌≡◌, ℕ, ◌<◌, true, List, [], ◌∷◌, map, length, Some, ℤ, pos, negsuc, refl, ap, sym, subst, ◌∙◌, arith}
use Rattle.std.specs.Prelude.{slice_get}
use Rattle.std.specs.List.{AllByRecursion, zip}
use Rattle.std.proofs.lemmas.Int.{ints}
use Rattle.std.proofs.lemmas.List.{length-map}
use Rattle.std.proofs.lemmas.List.Elements.{All-from_recursion, recursion_from_All}
use Rattle.std.proofs.lemmas.Option.{slice_get_within}
use Rattle.desk_model.specs.Book.{Book, IsBook}
use Rattle.desk_model.specs.Desk.{Desk, IsDesk, AreMarksOf, topics_under}
use Rattle.desk_model.specs.Extremes.{Ends}
use Rattle.desk_model.specs.MeasureText.{IsMeasure}
use Rattle.desk_model.specs.Name.{is_name, number_of}
use Rattle.desk_model.specs.Order.{Topic}
use Rattle.desk_model.specs.Verdict.{verdict}
use Rattle.desk_model.specs.declared.types.Mark.{Mark}
use Rattle.desk_model.specs.declared.types.MeasureName.{MeasureName}
use Rattle.desk_model.specs.declared.types.Verdict.{Verdict}
use Rattle.desk_model.specs.declared.types.Verdict.TheVariants.{Above, Below, Equal, Open, Close}
use Rattle.desk_model.proofs.DeskTopics.{length-topics_under}
use Rattle.desk_model.proofs.Nested.{length-zipped as length-side, get_or-there}
use Rattle.topic_counts.specs.declared.span.Span.{Span}
use Rattle.measure_laws.specs.Cases.{least_truth}
use Rattle.measure_laws.specs.Shares.{IsModest}
use Rattle.measure_core.specs.Laws.{AreMet, MeetsLaws}
use Rattle.measure_core.specs.declared.cell.Cell.{Cell}
use Rattle.line_forms.specs.Places.{IsShortNumber}
use Rattle.order_certificate.specs.Certificate.{IsCertificate, IsLevel, IsWritable, AreTopics, AreDocuments}
use Rattle.order_certificate.specs.declared.certificate.Certificate.{Certificate}
use Rattle.order_certificate.specs.declared.certificate.Evidence.TheVariants.{Above as AboveBy, Equal as EqualBy, Open as OpenBy}
use Rattle.order_certificate.specs.declared.certificate.TopicBound.{TopicBound}
use Rattle.order_certificate.specs.declared.certificate.TopicWitness.{TopicWitness}
use Rattle.pair_table.specs.Evidence.{bounds_of, relevant_names, witnesses_of, Compares, SaysOfVerdict, IsCertificateOf}
use Rattle.pair_table.specs.Numbers.{HaveEnds, HasCellEnds, AreEndsBy}
use Rattle.pair_table.proofs.DeskTopics.{topics_met}
use Rattle.pair_table.proofs.Documents.{listed_documents}
use Rattle.pair_table.proofs.Listing.{there_number}
use Rattle.pair_table.proofs.Orders.{MetBy}
use Rattle.pair_table.proofs.Zips.{all_first}

-- ---- numbers
pub number_modest : (z : ℤ) → IsModest z → IsShortNumber z
number_modest (pos n) h = omega (arith, ints, h)
number_modest (negsuc n) h = omega (arith, ints, h)

pub record EndsAreModest (e : Ends) : Type 0 where
  pub low : IsModest e.least_lo
  pub high : IsModest e.most_hi

abbrev pub bound_from : (Ends → ℤ) → Book × Ends → TopicBound
bound_from high p = record { topic = p.0.name; low = p.1.least_lo; high = high p.1 }

bounds_each : (P : TopicBound → Type 0) (high : Ends → ℤ) → ((book : Book) (e : Ends) → EndsAreModest e → P (bound_from high (book, e))) →
    (books : List Book) (ends : List Ends) → AllByRecursion EndsAreModest ends → AllByRecursion P (map (bound_from high) (zip books ends))
bounds_each P high f [] ends h = tt
bounds_each P high f (b ∷ books) [] h = tt
bounds_each P high f (b ∷ books) (e ∷ ends) h = (f b e h.0, bounds_each P high f books ends h.1)

-- ---- topics
abbrev names_of : List Book → List (List ℕ)
names_of books = map (λ (book : Book). book.name) books

bound_topics : (high : Ends → ℤ) (books : List Book) (ends : List Ends) → length ends ≡ length books → map (λ (b : TopicBound). b.topic) (map (bound_from high) (zip books ends)) ≡ names_of books
bound_topics high [] ends e = refl
bound_topics high (b ∷ books) [] e = absurd (omega (arith, e))
bound_topics high (b ∷ books) (x ∷ ends) e = ap (λ ns. b.name ∷ ns) (bound_topics high books ends (omega (arith, e)))

abbrev pub witness_from : MeasureName → ℕ → ℕ → Book × Topic → TopicWitness
witness_from measure a b p = record {
  topic = p.0.name;
  low = relevant_names p.0.docs p.1.marks (least_truth measure p.1.marks (p.1.ranking a) (p.1.ranking b));
  high = relevant_names p.0.docs p.1.marks (least_truth measure p.1.marks (p.1.ranking b) (p.1.ranking a));
}

witness_topics : (measure : MeasureName) (a b : ℕ) (books : List Book) (topics : List Topic) → length topics ≡ length books → map (λ (w : TopicWitness). w.topic) (map (witness_from measure a b) (zip books topics)) ≡ names_of books
witness_topics measure a b [] topics e = refl
witness_topics measure a b (x ∷ books) [] e = absurd (omega (arith, e))
witness_topics measure a b (x ∷ books) (t ∷ topics) e = ap (λ ns. x.name ∷ ns) (witness_topics measure a b books topics (omega (arith, e)))

witnesses_each : (measure : MeasureName) (a b : ℕ) (books : List Book) (topics : List Topic) → AllByRecursion IsBook books → AllByRecursion (λ (w : TopicWitness). AreDocuments w.low × AreDocuments w.high) (map (witness_from measure a b) (zip books topics))
witnesses_each measure a b [] topics h = tt
witnesses_each measure a b (x ∷ books) [] h = tt
witnesses_each measure a b (x ∷ books) (t ∷ topics) h = (
  (
    listed_documents x.docs h.0.ascending t.marks (least_truth measure t.marks (t.ranking a) (t.ranking b)) h.0.documents h.0.small,
    listed_documents x.docs h.0.ascending t.marks (least_truth measure t.marks (t.ranking b) (t.ranking a)) h.0.documents h.0.small,
  ),
  witnesses_each measure a b books topics h.1,
)

each_named : (books : List Book) → AllByRecursion IsBook books → AllByRecursion (λ name. is_name name ≡ true) (names_of books)
each_named [] h = tt
each_named (b ∷ books) h = (h.0.named, each_named books h.1)

pub desk_topics : (desk : Desk) → IsDesk desk → AreTopics (names_of desk.topics)
desk_topics desk valid =
    let count : length (names_of desk.topics) ≡ length desk.topics = length-map desk.topics (λ (book : Book). book.name) in
    record {
      count = (omega (arith, count, valid.some_topic), omega (arith, count, valid.topics));
      ascending = record { named = All-from_recursion _ (names_of desk.topics) (each_named desk.topics (recursion_from_All IsBook desk.topics valid.books)); ascending = valid.ascending };
    }

pub length-ends : (Has : HaveEnds) (desk : Desk) (marks : List (List Mark)) (a b : ℕ) (ends : List Ends) → AreMarksOf desk marks → AreEndsBy Has (topics_under desk marks) a b ends → length ends ≡ length desk.topics
length-ends Has desk marks a b ends known h =
    sym (length-side (λ e topic. Has topic.marks (topic.ranking a) (topic.ranking b) e) ends (topics_under desk marks) h) ∙ length-topics_under desk marks known

-- the topics that bounds and witnesses name
pub bounds_name : (high : Ends → ℤ) (desk : Desk) (ends : List Ends) → length ends ≡ length desk.topics → map (λ (b : TopicBound). b.topic) (bounds_of high desk ends) ≡ names_of desk.topics
bounds_name high desk ends same = bound_topics high desk.topics ends same

pub witnesses_name : (measure : MeasureName) (desk : Desk) (marks : List (List Mark)) (a b : ℕ) → AreMarksOf desk marks → map (λ (w : TopicWitness). w.topic) (witnesses_of measure desk marks a b) ≡ names_of desk.topics
witnesses_name measure desk marks a b known = witness_topics measure a b desk.topics (topics_under desk marks) (length-topics_under desk marks known)

module _ (Has : HaveEnds) (measure : MeasureName) (desk : Desk) (marks : List (List Mark)) (level : ℕ) (valid : IsMeasure measure) (is_desk : IsDesk desk) (known : AreMarksOf desk marks) (is_level : IsLevel level)
    (modest : (m : List Mark) (a b : List ℕ) (e : Ends) → AreMet m a b → Has m a b e → EndsAreModest e) where
  modest_ends : (a b : ℕ) (ends : List Ends) → a < length desk.runs → b < length desk.runs → AreEndsBy Has (topics_under desk marks) a b ends → AllByRecursion EndsAreModest ends
  modest_ends a b ends in_a in_b h =
      all_first (λ e topic. Has topic.marks (topic.ranking a) (topic.ranking b) e) (MetBy a b) EndsAreModest (λ e topic met has. modest topic.marks (topic.ranking a) (topic.ranking b) e met has) ends (topics_under desk marks)
      (topics_met desk marks is_desk known a b in_a in_b) h

  zero_bounds : (a b : ℕ) (ends : List Ends) → a < length desk.runs → b < length desk.runs → AreEndsBy Has (topics_under desk marks) a b ends → IsWritable (AboveBy (bounds_of (λ _. pos 0) desk ends))
  zero_bounds a b ends in_a in_b h = (
    subst AreTopics (sym (bounds_name (λ _. pos 0) desk ends (length-ends Has desk marks a b ends known h))) (desk_topics desk is_desk),
    All-from_recursion (λ (x : TopicBound). IsShortNumber x.low × (x.high ≡ pos 0)) (bounds_of (λ _. pos 0) desk ends)
        (bounds_each (λ (x : TopicBound). IsShortNumber x.low × (x.high ≡ pos 0)) (λ _. pos 0) (λ book e q. (number_modest e.least_lo q.low, refl)) desk.topics ends (modest_ends a b ends in_a in_b h)),
  )

  both_bounds : (a b : ℕ) (ends : List Ends) → a < length desk.runs → b < length desk.runs → AreEndsBy Has (topics_under desk marks) a b ends → IsWritable (EqualBy (bounds_of (λ e. e.most_hi) desk ends))
  both_bounds a b ends in_a in_b h = (
    subst AreTopics (sym (bounds_name (λ e. e.most_hi) desk ends (length-ends Has desk marks a b ends known h))) (desk_topics desk is_desk),
    All-from_recursion (λ (x : TopicBound). IsShortNumber x.low × IsShortNumber x.high) (bounds_of (λ e. e.most_hi) desk ends)
        (bounds_each (λ (x : TopicBound). IsShortNumber x.low × IsShortNumber x.high) (λ e. e.most_hi) (λ book e q. (number_modest e.least_lo q.low, number_modest e.most_hi q.high)) desk.topics ends (modest_ends a b ends in_a in_b h)),
  )

  lists : (a b : ℕ) → IsWritable (OpenBy (witnesses_of measure desk marks a b))
  lists a b = (
    subst AreTopics (sym (witnesses_name measure desk marks a b known)) (desk_topics desk is_desk),
    All-from_recursion (λ (w : TopicWitness). AreDocuments w.low × AreDocuments w.high) (witnesses_of measure desk marks a b)
        (witnesses_each measure a b desk.topics (topics_under desk marks) (recursion_from_All IsBook desk.topics is_desk.books)),
  )

  run_named : (name : List ℕ) (run : ℕ) → number_of desk.runs name ≡ Some run → is_name name ≡ true
  run_named name run h =
      let there : slice_get desk.runs run ≡ Some name = there_number desk.runs name run h in
      subst (λ n. is_name n ≡ true) (get_or-there desk.runs run name [] there) (is_desk.named run [] (slice_get_within desk.runs run name there))

  compared : (a b : ℕ) (c : Certificate) → Compares measure desk level a b c → IsWritable c.evidence → IsCertificate c
  compared a b c h w = record {
    measure = subst IsMeasure (sym h.by_measure) valid;
    level = subst IsLevel (sym h.at_level) is_level;
    first = run_named c.first a h.runs.0;
    second = run_named c.second b h.runs.1;
    evidence = w;
  }

  pub said_certificate : (a b : ℕ) (c : Certificate) (v : Verdict) → a < length desk.runs → b < length desk.runs → SaysOfVerdict Has measure desk marks level a b c v → IsCertificate c
  said_certificate a b c Above in_a in_b h = compared a b c h.compares (subst IsWritable (sym h.bounds) (zero_bounds a b h.ends in_a in_b h.named))
  said_certificate a b c Below in_a in_b h = compared b a c h.compares (subst IsWritable (sym h.bounds) (zero_bounds b a h.ends in_b in_a h.named))
  said_certificate a b c Equal in_a in_b h = compared a b c h.compares (subst IsWritable (sym h.bounds) (both_bounds a b h.ends in_a in_b h.named))
  said_certificate a b c Open in_a in_b h = compared a b c h.compares (subst IsWritable (sym h.cases) (lists a b))
  said_certificate a b c Close in_a in_b h = absurd h

-- the certificate of two runs by the cells of a measure that meets its laws
pub cells_certificate : (measure : MeasureName) (cell : List Mark → List ℕ → List ℕ → Cell) (bounds : List Mark → List ℕ → Span) (desk : Desk) (marks : List (List Mark)) (level a b : ℕ) (c : Certificate) → IsMeasure measure → MeetsLaws measure cell bounds →
    IsDesk desk → AreMarksOf desk marks → IsLevel level → a < length desk.runs → b < length desk.runs → IsCertificateOf (HasCellEnds cell) measure desk marks level a b c → IsCertificate c
cells_certificate measure cell bounds desk marks level a b c valid laws is_desk known is_level in_a in_b h =
    said_certificate (HasCellEnds cell) measure desk marks level valid is_desk known is_level
    (λ m x y e met is. let sizes = laws.cell_modest m x y met in subst EndsAreModest (sym is) (record { low = sizes.least.0; high = sizes.most.1 }))
    a b c (verdict h.sums) in_a in_b h.says
