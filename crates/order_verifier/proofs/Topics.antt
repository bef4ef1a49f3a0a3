-- The topics on which two runs are compared, by their numbers.
use Rattle.std.proofs.Common.{◌≡◌, ℕ, ◌<◌, List, [], length, get_or, Some, ap, sym, ◌∙◌, subst, arith, ℤ}
use Rattle.std.specs.Prelude.{slice_get}
use Rattle.std.specs.Option.{option_map}
use Rattle.std.specs.List.{zip}
use Rattle.std.proofs.lemmas.List.{length-map}
use Rattle.std.proofs.lemmas.Option.{slice_get-map, slice_get_within}
use Rattle.std.proofs.lemmas.Slice.Zip.{length-zip}
use Rattle.small_lemmas.proofs.Lists.{slice_get-zip}
use Rattle.desk_model.specs.Book.{Book, IsBook}
use Rattle.desk_model.specs.Desk.{Desk, AreMarksOf, ranking_of, topics_under}
use Rattle.desk_model.specs.Extremes.{Ends}
use Rattle.desk_model.specs.Name.{AreAscending}
use Rattle.desk_model.specs.Order.{Topic}
use Rattle.desk_model.specs.declared.types.Mark.{Mark}
use Rattle.desk_model.proofs.DeskTopics.{topic_of, topic_there, length-topics_under, ranking_at, small_at}
use Rattle.desk_model.proofs.PairPlace.{there}
use Rattle.desk_model.proofs.Nested.{zipped_at, get_or-there}
use Rattle.measure_laws.specs.Ends.{HasEnds, IsUpperEnd}
use Rattle.topic_ends.specs.Least.{AreRankings}
use Rattle.order_certificate.specs.Claim.{NamedTopic, named_topics}
use Rattle.order_certificate.specs.Evidence.{AreUnjudged, listed_truth}
use Rattle.order_verifier.specs.Checks.{AreListed, IsComparison, NamesOnTopic, OfTopic, unranked}
use Rattle.order_verifier.specs.Refusal.{Compared, OfEnds, topics_in}

-- what a topic's number gives is one
pub of_topic : {fact : NamedTopic → Type 0} (topics : List NamedTopic) (t : ℕ) (n : NamedTopic) → slice_get topics t ≡ Some n → OfTopic topics t fact → fact n
of_topic {fact} topics t n at h =
    let there = h.1 in
    let same : h.0 ≡ n = cc in subst fact same h.2

-- a topic of the desk with the names of its documents
abbrev pub named_topic : Desk → ℕ → List Mark → Book → NamedTopic
named_topic desk t m book = record { docs = book.docs; topic = topic_of desk t m }

module _ (desk : Desk) (marks : List (List Mark)) (known : AreMarksOf desk marks) where
  pub length-named : length (named_topics desk marks) ≡ length desk.topics
  length-named =
      omega (
        arith,
        length-map {B = NamedTopic} (zip desk.topics (topics_under desk marks)) (λ (p : Book × Topic). record { docs = p.0.docs; topic = p.1 }),
        length-zip desk.topics (topics_under desk marks),
        length-topics_under desk marks known,
      )

pub named_at : (desk : Desk) (marks : List (List Mark)) (t : ℕ) (m : List Mark) (book : Book) → slice_get marks t ≡ Some m → slice_get desk.topics t ≡ Some book → slice_get (named_topics desk marks) t ≡ Some (named_topic desk t m book)
named_at desk marks t m book e f =
    let g : Book × Topic → NamedTopic = λ p. record { docs = p.0.docs; topic = p.1 } in
    slice_get-map g (zip desk.topics (topics_under desk marks)) t ∙ ap (option_map g) (slice_get-zip desk.topics (topics_under desk marks) t book (topic_of desk t m) f (topic_there desk marks t m e))

module _ (desk : Desk) (marks : List (List Mark)) (a b : ℕ) (valid : IsComparison desk marks a b) where
  pub rankings_met : (t : ℕ) (m : List Mark) (first second : List ℕ) → slice_get marks t ≡ Some m → first ≡ ranking_of desk a t → second ≡ ranking_of desk b t → AreRankings (length m) first second
  rankings_met t m first second e p q = record {
    first = rw p (ranking_at desk marks valid.whole valid.known a t m valid.first_known e);
    second = rw q (ranking_at desk marks valid.whole valid.known b t m valid.second_known e);
    small = small_at desk marks valid.whole valid.known t m e;
  }

  pub book_met : (t : ℕ) (m : List Mark) (book : Book) → slice_get marks t ≡ Some m → slice_get desk.topics t ≡ Some book → (length m ≡ length book.docs) × IsBook book
  book_met t m book e f = (
    (ap length (sym (get_or-there marks t m [] e)) ∙ zipped_at (λ (each : Book) (topic : List Mark). length topic ≡ length each.docs) desk.topics marks t book [] valid.known f),
    subst IsBook (get_or-there desk.topics t book book f) (valid.whole.books t book (slice_get_within desk.topics t book f)),
  )

-- a fact of a topic of what is compared, seen by the desk's own topic
pub topic_on : (v c : Compared) → v ≡ c → (t : ℕ) (m : List Mark) (book : Book) → slice_get v.marks t ≡ Some m → slice_get v.desk.topics t ≡ Some book → (fact : Compared → NamedTopic → Type 0) → fact v (named_topic v.desk t m book) →
    OfTopic (topics_in c) t (fact c)
topic_on v c same t m book e f fact so = subst (λ (w : Compared). OfTopic (topics_in w) t (fact w)) same (named_topic v.desk t m book, named_at v.desk v.marks t m book e f, so)

-- and back
pub topic_of_book : (v c : Compared) → v ≡ c → (t : ℕ) (m : List Mark) (book : Book) → slice_get v.marks t ≡ Some m → slice_get v.desk.topics t ≡ Some book → (fact : Compared → NamedTopic → Type 0) → OfTopic (topics_in c) t (fact c) →
    fact v (named_topic v.desk t m book)
topic_of_book v c same t m book e f fact so =
    of_topic (topics_in v) t (named_topic v.desk t m book) (named_at v.desk v.marks t m book e f) (subst (λ (w : Compared). OfTopic (topics_in w) t (fact w)) (sym same) so)

-- a topic is one of the desk's
pub topic_inside : (v c : Compared) → v ≡ c → AreMarksOf v.desk v.marks → (t : ℕ) → t < length (topics_in c) → t < length v.desk.topics
topic_inside v c same known t lt = omega (arith, subst (λ (w : Compared). t < length (topics_in w)) (sym same) lt, length-named v.desk v.marks known)

-- a topic that a fact is of is one of the desk's
pub topic_within : (v c : Compared) → v ≡ c → AreMarksOf v.desk v.marks → (t : ℕ) (fact : NamedTopic → Type 0) → OfTopic (topics_in c) t fact → t < length v.desk.topics
topic_within v c same known t fact so =
    let here : OfTopic (topics_in v) t fact = subst (λ (w : Compared). OfTopic (topics_in w) t fact) (sym same) so in
    omega (arith, slice_get_within (topics_in v) t here.0 here.1, length-named v.desk v.marks known)

-- a fact of the ends that two rankings have, on the topic that they are of
pub ends_on : (v c : Compared) → v ≡ c → (t : ℕ) (m : List Mark) (first second : List ℕ) (fact : Ends → Type 0) → t < length v.desk.topics → slice_get v.marks t ≡ Some m → first ≡ ranking_of v.desk v.first t → second ≡ ranking_of v.desk v.second t →
    (ends : Ends) → HasEnds v.measure m first second ends → fact ends → OfTopic (topics_in c) t (λ n. OfEnds c n fact)
ends_on v c same t m first second fact inside e p q ends h so =
    let book = there v.desk.topics t inside in
    topic_on v c same t m book.0 e book.1 (λ w n. OfEnds w n fact)
    (ends, subst (λ xs. HasEnds v.measure m xs (ranking_of v.desk v.second t) ends) p (subst (λ ys. HasEnds v.measure m first ys ends) q h), so)

-- the completion that a list stands for, on the topic that it is of
pub names_met : (v c : Compared) → v ≡ c → IsComparison v.desk v.marks v.first v.second → (t : ℕ) (m : List Mark) (book : Book) (names : List (List ℕ)) → slice_get v.marks t ≡ Some m → slice_get v.desk.topics t ≡ Some book → AreAscending names →
    OfTopic (topics_in c) t (λ n. AreUnjudged n names) → AreListed (record { docs = book.docs; marks = m; names = names })
names_met v c same valid t m book names e f up unjudged =
    let met = book_met v.desk v.marks v.first v.second valid t m book e f in
    record {
      sized = met.0;
      small = met.1.small;
      docs = met.1.ascending;
      names = up;
      unjudged = topic_of_book v c same t m book e f (λ _ n. AreUnjudged n names) unjudged;
    }

-- the upper end of two rankings there, on the topic that they are of
pub upper_on : (v c : Compared) → v ≡ c → (t : ℕ) (m : List Mark) (book : Book) (first second : List ℕ) (names : List (List ℕ)) → slice_get v.marks t ≡ Some m → slice_get v.desk.topics t ≡ Some book → first ≡ ranking_of v.desk v.first t → second ≡ ranking_of v.desk v.second t →
    (l : NamesOnTopic) → l ≡ record { docs = book.docs; marks = m; names = names } → (y z : ℤ) → y ≡ z → IsUpperEnd v.measure (length l.marks) (listed_truth (unranked l) l.names) first second z →
    OfTopic (topics_in c) t (λ n. IsUpperEnd c.measure (length n.topic.marks) (listed_truth n names) (n.topic.ranking c.first) (n.topic.ranking c.second) y)
upper_on v c same t m book first second names e f p q l is y z read h =
    topic_on v c same t m book e f (λ w n. IsUpperEnd w.measure (length n.topic.marks) (listed_truth n names) (n.topic.ranking w.first) (n.topic.ranking w.second) y)
    (subst (λ xs. IsUpperEnd v.measure (length m) (listed_truth (named_topic v.desk t m book) names) xs (ranking_of v.desk v.second t) y) p
    (subst (λ ys. IsUpperEnd v.measure (length m) (listed_truth (named_topic v.desk t m book) names) first ys y) q
    (subst (IsUpperEnd v.measure (length m) (listed_truth (named_topic v.desk t m book) names) first second) (sym read)
    (subst (λ (k : NamesOnTopic). IsUpperEnd v.measure (length k.marks) (listed_truth (unranked k) k.names) first second z) is h))))
