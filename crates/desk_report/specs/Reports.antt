-- What is printed of a table of pairs: the whole table, the line of two runs, their certificate or close line, and the line of the next document to judge.
use Rattle.std.specs.Prelude.{◌≡◌, ℕ, ◌*◌, ◌<◌, List, length, map, slice_index_or, [], pos, Option}
use Rattle.desk_model.specs.Desk.{Desk, IsDesk, AreMarksOf, pair_count, topics_under}
use Rattle.desk_model.specs.Verdict.{verdict}
use Rattle.desk_model.specs.declared.types.Mark.{Mark}
use Rattle.desk_model.specs.declared.types.MeasureName.{MeasureName}
use Rattle.desk_model.specs.declared.types.Totals.{Totals}
use Rattle.desk_model.specs.declared.types.Verdict.TheVariants.{Close}
use Rattle.topic_counts.specs.declared.span.Span.{Span}
use Rattle.measure_laws.specs.Measures.{unit_of}
use Rattle.measure_core.specs.Made.{HasEnds}
use Rattle.measure_core.specs.declared.cell.Cell.{Cell}
use Rattle.order_bundle.specs.Scoped.{IsScoped, scoped_text}
use Rattle.order_bundle.specs.declared.scoped.Scoped.{Scoped}
use Rattle.order_bundle.specs.declared.any_certificate.AnyCertificate.TheVariants.{One}
use Rattle.order_certificate.specs.declared.certificate.Certificate.{Certificate}
use Rattle.pair_table.specs.Evidence.{IsCertificateOf}
use Rattle.pair_table.specs.Kept.{HeldSums, Kept}
use Rattle.pair_table.specs.Made.{IsSumsOf, IsTableOf}
use Rattle.pair_table.specs.Numbers.{AreNumbersIn, ArePairNumbers, AreAllPairNumbers}
use Rattle.next_document.specs.Kept.{HeldTotals as Weights, AreKeptFor}
use Rattle.next_document.specs.Proposal.{Standing, IsNext}
use Rattle.next_document.specs.declared.proposal.Proposal.{Proposal}
use Rattle.desk_report.specs.Close.{close_line}
use Rattle.desk_report.specs.Judging.{next_line}
use Rattle.desk_report.specs.Table.{table_text, pair_line, ended}
use Rattle.desk_report.specs.declared.reports.Certified.{Certified}
use Rattle.desk_report.specs.declared.reports.Certified.TheVariants as answers

-- what a report speaks of: a desk under the marks of its documents at a level and under a depth or none, by a measure
pub record Subject : Type 0 where
  pub measure : MeasureName
  pub level : ℕ
  pub depth : Option ℕ
  pub desk : Desk
  pub marks : List (List Mark)

abbrev pub subject : MeasureName → ℕ → Option ℕ → Desk → List (List Mark) → Subject
subject measure level depth desk marks = record { measure = measure; level = level; depth = depth; desk = desk; marks = marks }

-- the cells of a table: pairs times topics
abbrev pub cells_of : Desk → ℕ
cells_of desk = pair_count (length desk.runs) * length desk.topics

-- a table is that of a subject
abbrev pub IsTableOn : {M : Type 0} → MeasureName → (List Mark → List ℕ → List ℕ → Cell) → (List Mark → List ℕ → Span) → Subject → Kept M → Type 0
IsTableOn measured cell bound s table = IsTableOf measured cell bound s.measure s.desk s.marks table

-- so are the sums of a table
abbrev pub IsSumsOn : {M : Type 0} → MeasureName → (List Mark → List ℕ → List ℕ → Cell) → (List Mark → List ℕ → Span) → Subject → HeldSums M → Type 0
IsSumsOn measured cell bound s sums = IsSumsOf measured cell bound s.measure s.desk s.marks sums

-- what the sums of a table over a desk speak of
pub record IsSubjectOf {M : Type 0} (measured : MeasureName) (cell : List Mark → List ℕ → List ℕ → Cell) (bound : List Mark → List ℕ → Span) (desk : Desk) (sums : HeldSums M) (s : Subject) : Type 0 where
  pub over : s.desk ≡ desk
  pub marked : AreMarksOf s.desk s.marks
  pub on : IsSumsOn measured cell bound s sums

-- the text is the table of the desk
pub record IsTableText (s : Subject) (text : List ℕ) : Type 0 where
  pub valid : IsDesk s.desk
  pub bounds : List Span
  pub totals : List Totals
  pub numbers : AreNumbersIn s.measure s.desk s.marks bounds totals
  pub is : text ≡ table_text s.desk s.measure s.level s.depth (pos (unit_of s.measure)) bounds totals

-- two different runs of a desk, by their numbers
pub record AreRuns (desk : Desk) (a b : ℕ) : Type 0 where
  pub first : a < length desk.runs
  pub second : b < length desk.runs
  pub different : a ≡ b → ⊥

-- the name of a run, by its number
abbrev pub run_name : Desk → ℕ → List ℕ
run_name desk run = slice_index_or desk.runs run []

-- the text is the pair line of two runs, the first one first
pub record IsPairText (s : Subject) (a b : ℕ) (text : List ℕ) : Type 0 where
  pub valid : IsDesk s.desk
  pub runs : AreRuns s.desk a b
  pub totals : Totals
  pub summed : ArePairNumbers s.measure (topics_under s.desk s.marks) a b totals
  pub is : text ≡ ended (pair_line (unit_of s.measure * length s.desk.topics) (run_name s.desk a) (run_name s.desk b) totals)

-- a certificate of two runs, under the depth of what is spoken of
abbrev pub under_depth : Subject → Certificate → Scoped
under_depth s c = record { depth = s.depth; body = One c }

-- the text is the certificate of two runs, under the depth where there is one
pub record IsCertificateText (s : Subject) (a b : ℕ) (text : List ℕ) : Type 0 where
  pub valid : IsDesk s.desk
  pub runs : AreRuns s.desk a b
  pub certificate : Certificate
  pub within : IsScoped (under_depth s certificate)
  pub of_pair : IsCertificateOf (HasEnds s.measure) s.measure s.desk s.marks s.level a b certificate
  pub is : text ≡ scoped_text (under_depth s certificate)

-- the text is the close line of two runs
pub record IsCloseText (s : Subject) (a b : ℕ) (text : List ℕ) : Type 0 where
  pub valid : IsDesk s.desk
  pub runs : AreRuns s.desk a b
  pub totals : Totals
  pub summed : ArePairNumbers s.measure (topics_under s.desk s.marks) a b totals
  pub close : verdict totals ≡ Close
  pub is : text ≡ ended (close_line (run_name s.desk a) (run_name s.desk b) totals)

-- how the runs stand by the sums of each pair
abbrev pub standing_of : Subject → List Totals → Standing
standing_of s totals = record { measure = s.measure; desk = s.desk; marks = s.marks; verdicts = map verdict totals }

-- what is kept are the totals of documents by the sums of each pair
pub record AreWeightsOf (s : Subject) (weights : Weights) : Type 0 where
  pub totals : List Totals
  pub summed : AreAllPairNumbers s.measure s.desk s.marks totals
  pub decided : weights.verdicts ≡ map verdict totals
  pub kept : AreKeptFor s.measure s.desk s.marks weights

-- the text is the line of the next document to judge
pub record IsNextText (s : Subject) (text : List ℕ) : Type 0 where
  pub valid : IsDesk s.desk
  pub totals : List Totals
  pub summed : AreAllPairNumbers s.measure s.desk s.marks totals
  pub proposal : Option Proposal
  pub next : IsNext (standing_of s totals) proposal
  pub is : text ≡ ended (next_line s.desk proposal)

-- what two runs are answered: their certificate, or their close line
abbrev pub IsCertifiedAs : Subject → ℕ → ℕ → Certified → Type 0
IsCertifiedAs s a b (answers.Certificate text) = IsCertificateText s a b text.items
IsCertifiedAs s a b (answers.Close text) = IsCloseText s a b text.items
