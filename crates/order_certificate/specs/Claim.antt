-- What a certificate claims of a desk under marks.
use Rattle.std.specs.Prelude.{◌≡◌, ◌⊎◌, ℕ, ◌<◌, Bool, List, [], length, map, slice_index_or, Some}
use Rattle.std.specs.List.{AllZip, list_any, zip}
use Rattle.desk_model.specs.Book.{Book}
use Rattle.desk_model.specs.Completion.{Completion}
use Rattle.desk_model.specs.Desk.{Desk, topics_under}
use Rattle.desk_model.specs.Fraction.{IsBelow}
use Rattle.desk_model.specs.Mark.{mark_at}
use Rattle.desk_model.specs.Name.{is_same_name, number_of}
use Rattle.desk_model.specs.Order.{Topic, IsCompletion, run_mean, IsAlwaysAbove, AreAlwaysEqual}
use Rattle.desk_model.specs.declared.types.Mark.{Mark}
use Rattle.desk_model.specs.declared.types.Mark.TheVariants.{Unjudged}
use Rattle.desk_model.specs.declared.types.MeasureName.{MeasureName}
use Rattle.measure_laws.specs.Cases.{HasLeastTails}
use Rattle.order_certificate.specs.declared.certificate.Certificate.{Certificate}
use Rattle.order_certificate.specs.declared.certificate.Evidence.{Evidence}
use Rattle.order_certificate.specs.declared.certificate.Evidence.TheVariants.{Above, Equal, Open}
use Rattle.order_certificate.specs.declared.certificate.TopicBound.{TopicBound}
use Rattle.order_certificate.specs.declared.certificate.TopicWitness.{TopicWitness}

-- a topic as completions see it, with the names of its documents
pub record NamedTopic : Type 0 where
  pub docs : List (List ℕ)
  pub topic : Topic

-- the topics of a desk under marks
abbrev pub named_topics : Desk → List (List Mark) → List NamedTopic
named_topics desk marks = map (λ (p : Book × Topic). record { docs = p.0.docs; topic = p.1 }) (zip desk.topics (topics_under desk marks))

-- whether a list names a document of a topic
abbrev pub is_listed : NamedTopic → List (List ℕ) → ℕ → Bool
is_listed t names doc = list_any (λ name. is_same_name name (slice_index_or t.docs doc [])) names

-- an unjudged document is relevant in a completion of a topic exactly where a list names it
abbrev pub FollowsList : NamedTopic → List (List ℕ) → Completion → Type 0
FollowsList t names c =
    (doc : ℕ) → doc < length t.topic.marks → mark_at t.topic.marks doc ≡ Unjudged → c.truth doc ≡ is_listed t names doc

-- low completions follow the low lists, and for rank-biased precision b has a tail of 10^24 relevant places
abbrev pub AreLowCompletions : MeasureName → ℕ → ℕ → List TopicWitness → List NamedTopic → List Completion → Type 0
AreLowCompletions measure a b witnesses topics completions =
    AllZip (λ (c : Completion) (p : TopicWitness × NamedTopic). FollowsList p.1 p.0.low c × HasLeastTails measure (c.tail a) (c.tail b)) completions (zip witnesses topics)

-- high completions follow the high lists, and for rank-biased precision a has the long tail
abbrev pub AreHighCompletions : MeasureName → ℕ → ℕ → List TopicWitness → List NamedTopic → List Completion → Type 0
AreHighCompletions measure a b witnesses topics completions =
    AllZip (λ (c : Completion) (p : TopicWitness × NamedTopic). FollowsList p.1 p.0.high c × HasLeastTails measure (c.tail b) (c.tail a)) completions (zip witnesses topics)

-- the mean of a is smaller than that of b in a completion
abbrev pub IsBelowIn : MeasureName → List Topic → ℕ → ℕ → List Completion → Type 0
IsBelowIn measure topics a b completions = IsBelow (run_mean measure a topics completions) (run_mean measure b topics completions)

-- two completions differ on the order: a is below b in the low one and not below b in the high one, or not above b in the low one and above b in
-- the high one
abbrev pub Differ : MeasureName → List Topic → ℕ → ℕ → List Completion → List Completion → Type 0
Differ measure topics a b low high =
    (IsBelowIn measure topics a b low × (IsBelowIn measure topics a b high → ⊥))
    ⊎ ((IsBelowIn measure topics b a low → ⊥) × IsBelowIn measure topics b a high)

-- the topics that evidence names
abbrev pub topics_of : Evidence → List (List ℕ)
topics_of (Above bounds) = map (λ (b : TopicBound). b.topic) bounds
topics_of (Equal bounds) = map (λ (b : TopicBound). b.topic) bounds
topics_of (Open witnesses) = map (λ (w : TopicWitness). w.topic) witnesses

-- evidence names the topics of a desk, in order
abbrev pub NamesTopics : Evidence → Desk → Type 0
NamesTopics evidence desk = topics_of evidence ≡ map (λ (book : Book). book.name) desk.topics

-- the lists of witnesses are two completions of the judgements that differ on the order
pub record IsOpen (measure : MeasureName) (desk : Desk) (marks : List (List Mark)) (a b : ℕ) (witnesses : List TopicWitness) : Type 0 where
  pub topics : NamesTopics (Open witnesses) desk
  pub low : List Completion
  pub high : List Completion
  pub low_completes : IsCompletion (topics_under desk marks) low
  pub high_completes : IsCompletion (topics_under desk marks) high
  pub low_listed : AreLowCompletions measure a b witnesses (named_topics desk marks) low
  pub high_listed : AreHighCompletions measure a b witnesses (named_topics desk marks) high
  pub differ : Differ measure (topics_under desk marks) a b low high

-- what each kind of evidence is there to show of two runs
abbrev pub Claims : MeasureName → Desk → List (List Mark) → ℕ → ℕ → Evidence → Type 0
Claims measure desk marks a b (Above _) = IsAlwaysAbove measure (topics_under desk marks) a b
Claims measure desk marks a b (Equal _) = AreAlwaysEqual measure (topics_under desk marks) a b
Claims measure desk marks a b (Open witnesses) = IsOpen measure desk marks a b witnesses

-- the first and the second run of a certificate, by their numbers on the desk
abbrev pub AreItsRuns : Certificate → Desk → ℕ → ℕ → Type 0
AreItsRuns c desk first second = (number_of desk.runs c.first ≡ Some first) × (number_of desk.runs c.second ≡ Some second)

-- the claim of a certificate holds: both its runs are on the desk, and what it claims of them is so
pub record ClaimHolds (c : Certificate) (desk : Desk) (marks : List (List Mark)) : Type 0 where
  pub first : ℕ
  pub second : ℕ
  pub runs : AreItsRuns c desk first second
  pub holds : Claims c.measure desk marks first second c.evidence
