-- Completions by a value for each document, and by a class for each document.
use Rattle.std.specs.Prelude.{◌≡◌, ℕ, ◌<◌, Bool, true, false, not, ◌||◌, List, length, map, take, slice_index_or}
use Rattle.desk_model.specs.Mark.{is_unjudged, mark_at}
use Rattle.desk_model.specs.Ranking.{is_in}
use Rattle.desk_model.specs.Score.{true_count}
use Rattle.desk_model.specs.declared.types.Mark.{Mark}
use Rattle.desk_model.specs.declared.types.Mark.TheVariants.{Unjudged, Relevant, Other}
use Rattle.desk_model.specs.Precisions.{true_ranks}
use Rattle.measure_laws.specs.AverageEnds.{high_case, low_case}
use Rattle.measure_laws.specs.Parts.{ranked_sum}
use Rattle.precision_candidates.specs.Side.{out_of}
use Rattle.precision_candidates.specs.Sums.{worth_of}
use Rattle.precision_candidates.specs.declared.crossing.Documents.{Documents}
use Rattle.measure_core.specs.declared.room.Class.{Class}
use Rattle.measure_core.specs.declared.room.Class.TheVariants.{Neither, High, Low, Both}

-- whether a class is true in the high candidate, or in the low one
abbrev pub has : Bool → Class → Bool
has high Neither = false
has high High = high
has high Low = not high
has high Both = true

abbrev pub class_at : List Class → ℕ → Class
class_at classes doc = slice_index_or classes doc Neither

abbrev pub class_truth : Bool → List Class → ℕ → Bool
class_truth high classes doc = has high (class_at classes doc)

-- average precision in parts, rounded up or down
abbrev pub rounded : Bool → ℕ → (ℕ → Bool) → List ℕ → ℕ
rounded high universe truth docs = out_of high (ranked_sum (worth_of high) 1 (true_ranks 1 (map truth docs))) (true_count truth universe)

-- the class of a document for a run: whether it is true in the run's high candidate, and in its low one
pub record IsClassOf (marks : List Mark) (run : List ℕ) (doc : ℕ) (class : Class) : Type 0 where
  pub high : has true class ≡ high_case marks run doc
  pub low : has false class ≡ low_case marks run doc

-- the classes of a run's documents: what is true in its high candidate, and in its low one
pub record AreClasses (marks : List Mark) (docs : List ℕ) (classes : List Class) : Type 0 where
  pub long : length classes ≡ length marks
  pub high : (doc : ℕ) → doc < length marks → class_truth true classes doc ≡ high_case marks docs doc
  pub low : (doc : ℕ) → doc < length marks → class_truth false classes doc ≡ low_case marks docs doc

-- the class of a document that a run lacks: an unjudged one is true in the low candidate alone
abbrev pub base_class : Mark → Class
base_class Unjudged = Low
base_class Relevant = Both
base_class Other = Neither

pub record AreBase (marks : List Mark) (classes : List Class) : Type 0 where
  pub long : length classes ≡ length marks
  pub each : (doc : ℕ) → doc < length marks → class_at classes doc ≡ base_class (mark_at marks doc)

-- the bit of a class that a run's marking sets: taken in the high candidate, and left out in the low one
abbrev pub bit : Bool → Class → Bool
bit true class = has true class
bit false class = not (has false class)

-- the classes where so many are still to be taken and left out, of the rest of a run's unjudged documents
pub record AreMarked (marks : List Mark) (opens rest : List ℕ) (taken left_out to_take to_leave : ℕ) (classes : List Class) : Type 0 where
  pub long : length classes ≡ length marks
  pub judged : (doc : ℕ) → doc < length marks → is_unjudged (mark_at marks doc) ≡ false → class_at classes doc ≡ base_class (mark_at marks doc)
  pub high : (doc : ℕ) → doc < length marks → is_unjudged (mark_at marks doc) ≡ true → (bit true (class_at classes doc) || is_in (take to_take rest) doc) ≡ is_in (take taken opens) doc
  pub low : (doc : ℕ) → doc < length marks → is_unjudged (mark_at marks doc) ≡ true → (bit false (class_at classes doc) || is_in (take to_leave rest) doc) ≡ is_in (take left_out opens) doc

-- how many documents are true in a run's two candidates
pub record AreDocuments (marks : List Mark) (docs : List ℕ) (documents : Documents) : Type 0 where
  pub in_high : documents.in_high ≡ true_count (high_case marks docs) (length marks)
  pub in_low : documents.in_low ≡ true_count (low_case marks docs) (length marks)
