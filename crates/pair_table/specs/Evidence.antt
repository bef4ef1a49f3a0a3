-- The certificate of two runs: what a table answers of them where their verdict is not close.
use Rattle.std.specs.Prelude.{◌≡◌, ℕ, Bool, ◌&&◌, List, [], length, map, filter, slice_index_or, Result, Ok, Err, ℤ, pos}
use Rattle.std.specs.List.{range_with_len, zip}
use Rattle.desk_model.specs.Book.{Book}
use Rattle.desk_model.specs.Desk.{Desk, topics_under}
use Rattle.desk_model.specs.Extremes.{Ends}
use Rattle.desk_model.specs.Mark.{is_unjudged, mark_at}
use Rattle.desk_model.specs.Named.{book_at}
use Rattle.desk_model.specs.Order.{Topic}
use Rattle.desk_model.specs.Verdict.{verdict}
use Rattle.desk_model.specs.declared.types.Mark.{Mark}
use Rattle.desk_model.specs.declared.types.MeasureName.{MeasureName}
use Rattle.desk_model.specs.declared.types.Totals.{Totals}
use Rattle.desk_model.specs.declared.types.Verdict.{Verdict}
use Rattle.desk_model.specs.declared.types.Verdict.TheVariants.{Above, Below, Equal, Open, Close}
use Rattle.measure_laws.specs.Cases.{least_truth}
use Rattle.order_certificate.specs.Claim.{AreItsRuns}
use Rattle.order_certificate.specs.declared.certificate.Certificate.{Certificate}
use Rattle.order_certificate.specs.declared.certificate.Evidence.TheVariants.{Above as AboveBy, Equal as EqualBy, Open as OpenBy}
use Rattle.order_certificate.specs.declared.certificate.TopicBound.{TopicBound}
use Rattle.order_certificate.specs.declared.certificate.TopicWitness.{TopicWitness}
use Rattle.pair_table.specs.TopicUnder.{TopicUnder, topic_of}
use Rattle.pair_table.specs.Numbers.{HaveEnds, AreEndsBy, ArePairSums}
use Rattle.pair_table.specs.declared.evidence.EvidenceFault.{EvidenceFault}
use Rattle.pair_table.specs.declared.evidence.EvidenceFault.TheVariants.{Close as CloseBy, Memory}

-- a bound for each topic of a desk, in order: the lower end of its least difference, and beside it a number that its ends give
abbrev pub bounds_of : (Ends → ℤ) → Desk → List Ends → List TopicBound
bounds_of high desk ends = map (λ (p : Book × Ends). record { topic = p.0.name; low = p.1.least_lo; high = high p.1 }) (zip desk.topics ends)

-- the names of the unjudged documents that a completion of a topic makes relevant, in ascending order
abbrev pub relevant_names : List (List ℕ) → List Mark → (ℕ → Bool) → List (List ℕ)
relevant_names docs marks truth =
    map (λ doc. slice_index_or docs doc []) (filter (λ doc. is_unjudged (mark_at marks doc) && truth doc) (range_with_len 0 (length docs)))

-- a witness for each topic of a desk, in order: the least case of two runs, and their most case, which is the least case of the swapped runs
abbrev pub witnesses_of : MeasureName → Desk → List (List Mark) → ℕ → ℕ → List TopicWitness
witnesses_of measure desk marks a b =
    map (λ (p : Book × Topic). record {
      topic = p.0.name;
      low = relevant_names p.0.docs p.1.marks (least_truth measure p.1.marks (p.1.ranking a) (p.1.ranking b));
      high = relevant_names p.0.docs p.1.marks (least_truth measure p.1.marks (p.1.ranking b) (p.1.ranking a));
    })
    (zip desk.topics (topics_under desk marks))

-- the names of the unjudged documents of a topic that the least case of two runs makes relevant
abbrev pub least_names_of : MeasureName → TopicUnder → ℕ → ℕ → List (List ℕ)
least_names_of measure t a b =
    let topic = topic_of t in
    relevant_names (book_at t.desk t.number).docs topic.marks (least_truth measure topic.marks (topic.ranking a) (topic.ranking b))

-- the witness of a topic: the least case of two runs, and their most case
abbrev pub witness_of : MeasureName → TopicUnder → ℕ → ℕ → TopicWitness
witness_of measure t a b = record { topic = (book_at t.desk t.number).name; low = least_names_of measure t a b; high = least_names_of measure t b a }

-- a certificate compares two runs by a measure at a level
pub record Compares (measure : MeasureName) (desk : Desk) (level a b : ℕ) (c : Certificate) : Type 0 where
  pub by_measure : c.measure ≡ measure
  pub at_level : c.level ≡ level
  pub runs : AreItsRuns c desk a b

-- it claims that a is always above b, by the lower end of each topic's least difference
pub record SaysAbove (Has : HaveEnds) (measure : MeasureName) (desk : Desk) (marks : List (List Mark)) (level a b : ℕ) (c : Certificate) : Type 0 where
  pub compares : Compares measure desk level a b c
  pub ends : List Ends
  pub named : AreEndsBy Has (topics_under desk marks) a b ends
  pub bounds : c.evidence ≡ AboveBy (bounds_of (λ _. pos 0) desk ends)

-- it claims that a and b are always equal, by that end and the upper end of each topic's greatest difference
pub record SaysEqual (Has : HaveEnds) (measure : MeasureName) (desk : Desk) (marks : List (List Mark)) (level a b : ℕ) (c : Certificate) : Type 0 where
  pub compares : Compares measure desk level a b c
  pub ends : List Ends
  pub named : AreEndsBy Has (topics_under desk marks) a b ends
  pub bounds : c.evidence ≡ EqualBy (bounds_of (λ e. e.most_hi) desk ends)

-- it claims that the order of a and b is open, by the least and the most case of each topic
pub record SaysOpen (measure : MeasureName) (desk : Desk) (marks : List (List Mark)) (level a b : ℕ) (c : Certificate) : Type 0 where
  pub compares : Compares measure desk level a b c
  pub cases : c.evidence ≡ OpenBy (witnesses_of measure desk marks a b)

-- what a certificate says by the verdict of a on b: runs that are below are above when swapped, and by a close verdict there is none
abbrev pub SaysOfVerdict : HaveEnds → MeasureName → Desk → List (List Mark) → ℕ → ℕ → ℕ → Certificate → Verdict → Type 0
SaysOfVerdict Has measure desk marks level a b c Above = SaysAbove Has measure desk marks level a b c
SaysOfVerdict Has measure desk marks level a b c Below = SaysAbove Has measure desk marks level b a c
SaysOfVerdict Has measure desk marks level a b c Equal = SaysEqual Has measure desk marks level a b c
SaysOfVerdict Has measure desk marks level a b c Open = SaysOpen measure desk marks level a b c
SaysOfVerdict Has measure desk marks level a b c Close = ⊥

-- the certificate of two runs, by the verdict of their sums
pub record IsCertificateOf (Has : HaveEnds) (measure : MeasureName) (desk : Desk) (marks : List (List Mark)) (level a b : ℕ) (c : Certificate) : Type 0 where
  pub sums : Totals
  pub summed : ArePairSums Has (topics_under desk marks) a b sums
  pub says : SaysOfVerdict Has measure desk marks level a b c (verdict sums)

-- the answer of two runs: their certificate, or their sums where the verdict of these is close
abbrev pub IsAnswered : HaveEnds → MeasureName → Desk → List (List Mark) → ℕ → ℕ → ℕ → Result Certificate EvidenceFault → Type 0
IsAnswered Has measure desk marks level a b (Ok c) = IsCertificateOf Has measure desk marks level a b c
IsAnswered Has measure desk marks level a b (Err (CloseBy sums)) = ArePairSums Has (topics_under desk marks) a b sums × (verdict sums ≡ Close)
IsAnswered Has measure desk marks level a b (Err Memory) = Unit {0}
