-- The bundle of a table: the certificates of all pairs of runs whose verdict is not close, in one.
use Rattle.std.specs.Prelude.{◌≡◌, ℕ, Bool, false, ◌||◌, List, [], ◌∷◌, length, map, filter, flat_map, slice_index_or, Option, Some, None, IsPermutation}
use Rattle.std.specs.List.{AllZip, enumerate_from, list_any}
use Rattle.desk_model.specs.Book.{Book}
use Rattle.desk_model.specs.Desk.{Desk, topics_under}
use Rattle.desk_model.specs.Name.{is_same_name, number_of}
use Rattle.desk_model.specs.Pairs.{pairs_of}
use Rattle.desk_model.specs.Verdict.{verdict}
use Rattle.desk_model.specs.declared.types.Mark.{Mark}
use Rattle.desk_model.specs.declared.types.MeasureName.{MeasureName}
use Rattle.desk_model.specs.declared.types.Totals.{Totals}
use Rattle.desk_model.specs.declared.types.Verdict.TheVariants.{Close}
use Rattle.measure_core.specs.Pairs.{run_numbers}
use Rattle.order_certificate.specs.declared.certificate.Certificate.{Certificate}
use Rattle.order_certificate.specs.declared.certificate.Evidence.{Evidence}
use Rattle.order_certificate.specs.declared.certificate.Evidence.TheVariants.{Above, Equal, Open}
use Rattle.order_certificate.specs.declared.certificate.TopicWitness.{TopicWitness}
use Rattle.order_bundle.specs.Bundle.{Bundle, IsBundle}
use Rattle.order_bundle.specs.Evidence.{name_at, written_out}
use Rattle.order_bundle.specs.declared.bundle.PairClaim.{PairClaim}
use Rattle.order_bundle.specs.declared.bundle.TopicNames.{TopicNames}
use Rattle.pair_table.specs.Evidence.{IsCertificateOf}
use Rattle.pair_table.specs.Numbers.{HaveEnds, ArePairSums}

-- ---- the documents that certificates list
-- whether a name is among some
abbrev pub is_among : List (List ℕ) → List ℕ → Bool
is_among names name = list_any (λ each. is_same_name each name) names

-- whether one of the two lists of a topic has a name
abbrev pub has_listed : TopicWitness → List ℕ → Bool
has_listed w name = is_among w.low name || is_among w.high name

abbrev pub no_lists : TopicWitness
no_lists = record { topic = []; low = []; high = [] }

-- whether evidence lists a name on a topic, by the topic's number
abbrev pub lists_name : ℕ → List ℕ → Evidence → Bool
lists_name t name (Above bounds) = false
lists_name t name (Equal bounds) = false
lists_name t name (Open witnesses) = has_listed (slice_index_or witnesses t no_lists) name

-- whether some certificate does
abbrev pub is_listed_by : List Certificate → ℕ → List ℕ → Bool
is_listed_by certificates t name = list_any (λ (c : Certificate). lists_name t name c.evidence) certificates

-- each topic of a desk, with exactly those of its documents that some certificate lists
abbrev pub listed_topics : List Certificate → Desk → List TopicNames
listed_topics certificates desk = map (λ (p : ℕ × Book). record { topic = p.1.name; docs = filter (is_listed_by certificates p.0) p.1.docs }) (enumerate_from 0 desk.topics)

-- ---- what a bundle holds of a pair
-- a claim that, written out, is the certificate of two runs, or none where their verdict is close
abbrev pub IsSaidOf : HaveEnds → MeasureName → Desk → List (List Mark) → ℕ → ℕ → ℕ → Bundle → Option PairClaim → Type 0
IsSaidOf Has measure desk marks level first second b (Some c) = IsCertificateOf Has measure desk marks level first second (written_out b c)
IsSaidOf Has measure desk marks level first second b None = (sums : Totals) × ArePairSums Has (topics_under desk marks) first second sums × (verdict sums ≡ Close)

-- that of the two runs of a desk whose names a bundle has at these numbers
pub record IsHeldOf (Has : HaveEnds) (measure : MeasureName) (desk : Desk) (marks : List (List Mark)) (level : ℕ) (b : Bundle) (pair : ℕ × ℕ) (held : Option PairClaim) : Type 0 where
  pub first : ℕ
  pub second : ℕ
  pub first_named : number_of desk.runs (name_at b.runs pair.0) ≡ Some first
  pub second_named : number_of desk.runs (name_at b.runs pair.1) ≡ Some second
  pub said : IsSaidOf Has measure desk marks level first second b held

abbrev pub if_held : Option PairClaim → List PairClaim
if_held None = []
if_held (Some c) = c ∷ []

-- ---- the bundle
-- it is within the form; its runs are all runs of the desk, ascending by name as the form has it; pair by pair of their numbers it holds the certificate of the two runs,
-- the first named before the second, and nothing where their verdict is close; and its documents are exactly those that its claims list
pub record IsBundleOf (Has : HaveEnds) (measure : MeasureName) (desk : Desk) (marks : List (List Mark)) (level : ℕ) (b : Bundle) : Type 0 where
  pub form : IsBundle b
  pub by_measure : b.measure ≡ measure
  pub at_level : b.level ≡ level
  pub runs : IsPermutation desk.runs b.runs
  pub held : List (Option PairClaim)
  pub each_pair : AllZip (IsHeldOf Has measure desk marks level b) (pairs_of (run_numbers (length b.runs))) held
  pub claims : b.claims ≡ flat_map if_held held
  pub topics : b.topics ≡ listed_topics (map (written_out b) b.claims) desk
