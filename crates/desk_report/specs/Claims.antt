-- What printed texts claim.
use Rattle.std.specs.Prelude.{◌≡◌, ◌≢◌, ◌↔◌, ◌⊎◌, ◌*◌, ◌<◌, ◌≤◌, ℕ, List, [], ◌∷◌, ◌++◌, length, slice_get, slice_index_or, Option, Some, true, codes, decimal, ℤ, All, map, take, pos}
use Rattle.std.specs.List.{AllByRecursion}
use Rattle.desk_text.specs.Lines.{fields_of, whole_lines}
use Rattle.desk_model.specs.Completion.{Completion}
use Rattle.desk_model.specs.Desk.{Desk, IsDesk, AreMarksOf, topics_under}
use Rattle.desk_model.specs.Extremes.{IsAtMostScore, IsAtLeastScore}
use Rattle.desk_model.specs.Fraction.{IsAtMost, IsAtLeast}
use Rattle.desk_model.specs.MeasureText.{IsMeasure}
use Rattle.desk_model.specs.Order.{Topic, IsCompletion, run_mean, IsAlwaysAbove, AreAlwaysEqual}
use Rattle.desk_model.specs.declared.types.Mark.{Mark}
use Rattle.desk_model.specs.declared.types.MeasureName.{MeasureName}
use Rattle.desk_model.specs.declared.types.MeasureName.TheVariants.{Precision}
use Rattle.desk_model.specs.declared.types.Totals.{Totals}
use Rattle.topic_counts.specs.declared.span.Span.{Span}
use Rattle.measure_laws.specs.Measures.{unit_of}
use Rattle.pair_table.specs.Numbers.{ArePairNumbers, AreAllPairNumbers, AreNumbersIn}
use Rattle.pair_table.specs.Orders.{AreUndecided}
use Rattle.desk_report.specs.Means.{decimal_text}
use Rattle.desk_model.specs.Name.{is_name}
use Rattle.desk_model.specs.Named.{book_at, name_at}
use Rattle.desk_model.specs.Verdict.{verdict}
use Rattle.desk_report.specs.Table.{pair_line, table_text, ended}
use Rattle.desk_report.specs.Close.{close_line}
use Rattle.desk_report.specs.Judging.{qrels_text, next_line}
use Rattle.next_document.specs.Proposal.{Standing, IsProposal, HaveNoWeight, IsNext}
use Rattle.next_document.specs.declared.proposal.Proposal.{Proposal}
use Rattle.order_bundle.specs.Either.{AnyClaimHolds, IsAnyEvidence, any_measure}
use Rattle.order_bundle.specs.Scoped.{IsScoped, IsScopedText, scoped_text}
use Rattle.order_bundle.specs.declared.scoped.Scoped.{Scoped}

-- the desk has a run of this name, and a fact holds of its number
pub record HoldsByName (desk : Desk) (name : List ℕ) (fact : ℕ → Type 0) : Type 0 where
  pub run : ℕ
  pub named : slice_get desk.runs run ≡ Some name
  pub holds : fact run

-- the desk has two runs of these names, and a fact holds of their numbers
pub record HoldsByNames (desk : Desk) (first second : List ℕ) (fact : ℕ → ℕ → Type 0) : Type 0 where
  pub a : ℕ
  pub b : ℕ
  pub named_first : slice_get desk.runs a ≡ Some first
  pub named_second : slice_get desk.runs b ≡ Some second
  pub holds : fact a b

-- a word says exactly what always holds of two runs, and is `open` where none of the three orders does
pub record SaysExactly (name : MeasureName) (topics : List Topic) (word : List ℕ) (a b : ℕ) : Type 0 where
  pub above : (word ≡ codes "above") ↔ IsAlwaysAbove name topics a b
  pub below : (word ≡ codes "below") ↔ IsAlwaysAbove name topics b a
  pub equal : (word ≡ codes "equal") ↔ AreAlwaysEqual name topics a b
  pub undecided : (word ≡ codes "open") ↔ ((IsAlwaysAbove name topics a b → ⊥) × (IsAlwaysAbove name topics b a → ⊥) × (AreAlwaysEqual name topics a b → ⊥))
  pub never_close : word ≢ codes "close"

-- two texts are decimals, in millionths, between which the mean of a minus that of b lies in every completion
pub record EnclosesDifference (name : MeasureName) (topics : List Topic) (low high : List ℕ) (a b : ℕ) : Type 0 where
  pub least : ℤ
  pub most : ℤ
  pub low_text : low ≡ decimal_text least
  pub high_text : high ≡ decimal_text most
  pub from_least : (cs : List Completion) → IsCompletion topics cs → IsAtMost least 1000000 (run_mean name a topics cs) (run_mean name b topics cs)
  pub to_most : (cs : List Completion) → IsCompletion topics cs → IsAtLeast most 1000000 (run_mean name a topics cs) (run_mean name b topics cs)

-- two texts are decimals, in millionths, between which the mean of a run lies in every completion
pub record EnclosesMean (name : MeasureName) (topics : List Topic) (low high : List ℕ) (run : ℕ) : Type 0 where
  pub least : ℤ
  pub most : ℤ
  pub low_text : low ≡ decimal_text least
  pub high_text : high ≡ decimal_text most
  pub from_least : (cs : List Completion) → IsCompletion topics cs → IsAtMostScore least 1000000 (run_mean name run topics cs)
  pub to_most : (cs : List Completion) → IsCompletion topics cs → IsAtLeastScore most 1000000 (run_mean name run topics cs)

-- the line is `pair FIRST WORD SECOND LOW HIGH`
abbrev pub IsPairLine : List ℕ → List ℕ → List ℕ → List ℕ → List ℕ → List ℕ → Type 0
IsPairLine line first word second low high = fields_of line ≡ codes "pair" ∷ first ∷ word ∷ second ∷ low ∷ high ∷ []

-- a printed number, with a point and six digits
abbrev pub IsDecimal : List ℕ → Type 0
IsDecimal text = (millionths : ℤ) × (text ≡ decimal_text millionths)

-- the line is `run NAME LOW HIGH`, where LOW and HIGH are printed numbers
abbrev pub IsRunLine : List ℕ → List ℕ → List ℕ → List ℕ → Type 0
IsRunLine line run low high = (fields_of line ≡ codes "run" ∷ run ∷ low ∷ high ∷ []) × IsDecimal low × IsDecimal high

-- what a line claims of two runs or of one is true
pub record IsTrueLine (name : MeasureName) (desk : Desk) (marks : List (List Mark)) (line : List ℕ) : Type 0 where
  pub above : (first second low high : List ℕ) → IsPairLine line first (codes "above") second low high →
      HoldsByNames desk first second (λ a b. IsAlwaysAbove name (topics_under desk marks) a b)
  pub below : (first second low high : List ℕ) → IsPairLine line first (codes "below") second low high →
      HoldsByNames desk first second (λ a b. IsAlwaysAbove name (topics_under desk marks) b a)
  pub equal : (first second low high : List ℕ) → IsPairLine line first (codes "equal") second low high →
      HoldsByNames desk first second (AreAlwaysEqual name (topics_under desk marks))
  pub undecided : (first second low high : List ℕ) → IsPairLine line first (codes "open") second low high →
      HoldsByNames desk first second (AreUndecided name (topics_under desk marks))
  pub exact : (k : ℕ) → name ≡ Precision k → (first word second low high : List ℕ) → IsPairLine line first word second low high →
      HoldsByNames desk first second (SaysExactly name (topics_under desk marks) word)
  pub pair_bounds : (first word second low high : List ℕ) → IsPairLine line first word second low high →
      HoldsByNames desk first second (EnclosesDifference name (topics_under desk marks) low high)
  pub run_bounds : (run low high : List ℕ) → IsRunLine line run low high →
      HoldsByName desk run (EnclosesMean name (topics_under desk marks) low high)

-- a fact of each whole line of any prefix of a table, whose numbers are those of a measure's name over a desk and its marks
abbrev pub ForEachLine : (MeasureName → Desk → List (List Mark) → List ℕ → Type 0) → Type 0
ForEachLine fact =
    (name : MeasureName) (desk : Desk) (marks : List (List Mark)) (level : ℕ) (depth : Option ℕ) (received : ℕ) (bounds : List Span) (totals : List Totals) →
    IsMeasure name → IsDesk desk → AreMarksOf desk marks → AreNumbersIn name desk marks bounds totals →
    All (fact name desk marks) (whole_lines (take received (table_text desk name level depth (pos (unit_of name)) bounds totals)))

-- what received bytes claim of a desk under marks is true: each whole line, and where they are a certificate of either version, with a depth or without, that too: its claim, or all its claims
pub record IsTrueText (name : MeasureName) (desk : Desk) (marks : List (List Mark)) (received : List ℕ) : Type 0 where
  pub lines : All (IsTrueLine name desk marks) (whole_lines received)
  pub claim : (c : Scoped) → IsScopedText received c → (any_measure c.body ≡ name) × AnyClaimHolds c.body desk marks

-- whatever was received of a table is true
abbrev pub TablesAreTrue : Type 0
TablesAreTrue =
    (name : MeasureName) (desk : Desk) (marks : List (List Mark)) (level : ℕ) (depth : Option ℕ) (received : ℕ) (bounds : List Span) (totals : List Totals) →
    IsMeasure name → IsDesk desk → AreMarksOf desk marks → AreNumbersIn name desk marks bounds totals →
    IsTrueText name desk marks (take received (table_text desk name level depth (pos (unit_of name)) bounds totals))

-- whatever was received of a certificate of either version, with a depth or without, that is evidence is true
abbrev pub CertificatesAreTrue : Type 0
CertificatesAreTrue =
    (c : Scoped) (desk : Desk) (marks : List (List Mark)) (received : ℕ) → IsScoped c → IsDesk desk → AreMarksOf desk marks → IsAnyEvidence c.body desk marks →
    IsTrueText (any_measure c.body) desk marks (take received (scoped_text c))

-- whatever was received of the line of two different runs, in either order, is true where its sums are the numbers of the name
abbrev pub PairLinesAreTrue : Type 0
PairLinesAreTrue =
    (name : MeasureName) (desk : Desk) (marks : List (List Mark)) (a b : ℕ) (totals : Totals) (received : ℕ) →
    IsMeasure name → IsDesk desk → AreMarksOf desk marks → a < length desk.runs → b < length desk.runs → a ≢ b → ArePairNumbers name (topics_under desk marks) a b totals →
    IsTrueText name desk marks (take received (ended (pair_line (unit_of name * length desk.topics) (slice_index_or desk.runs a []) (slice_index_or desk.runs b []) totals)))

-- whatever was received of a close line claims nothing false
abbrev pub CloseLinesAreTrue : Type 0
CloseLinesAreTrue =
    (name : MeasureName) (desk : Desk) (marks : List (List Mark)) (first second : List ℕ) (totals : Totals) (received : ℕ) → is_name first ≡ true → is_name second ≡ true →
    IsTrueText name desk marks (take received (ended (close_line first second totals)))

-- the words that tell what checking a certificate answered
abbrev pub IsAnswerWord : List ℕ → Type 0
IsAnswerWord word = (word ≡ codes "accepted") ⊎ (word ≡ codes "rejected ")

-- bytes that end no line
abbrev pub IsInLine : List ℕ → Type 0
IsInLine bytes = AllByRecursion (λ b. 32 ≤ b) bytes

-- whatever was received of such a line claims nothing false
abbrev pub AnswerLinesAreTrue : Type 0
AnswerLinesAreTrue =
    (name : MeasureName) (desk : Desk) (marks : List (List Mark)) (word rest : List ℕ) (received : ℕ) → IsAnswerWord word → IsInLine rest →
    IsTrueText name desk marks (take received (word ++ rest ++ codes "\n"))

-- a word that begins no line of a pair or of a run, and no certificate
pub record IsOtherWord (word : List ℕ) : Type 0 where
  pub is : is_name word ≡ true
  pub no_pair : word ≢ codes "pair"
  pub no_run : word ≢ codes "run"
  pub no_certificate : word ≢ codes "desk-certificate"

-- whatever was received of a line that begins with another word claims nothing false
abbrev pub OtherLinesAreTrue : Type 0
OtherLinesAreTrue =
    (name : MeasureName) (desk : Desk) (marks : List (List Mark)) (word rest : List ℕ) (received : ℕ) → IsOtherWord word → IsInLine rest →
    IsTrueText name desk marks (take received (word ++ 32 ∷ rest ++ codes "\n"))

-- the line is `next TOPIC DOC WEIGHT`
abbrev pub IsNextLine : List ℕ → List ℕ → List ℕ → List ℕ → Type 0
IsNextLine line topic doc weight = fields_of line ≡ codes "next" ∷ topic ∷ doc ∷ weight ∷ []

-- the line is `next none`
abbrev pub IsNoneLine : List ℕ → Type 0
IsNoneLine line = fields_of line ≡ codes "next" ∷ codes "none" ∷ []

-- a fact of how the runs of a desk stand, each pair with the verdict of its numbers under a measure's name
pub record HoldsOfStanding (name : MeasureName) (desk : Desk) (marks : List (List Mark)) (fact : Standing → Type 0) : Type 0 where
  pub totals : List Totals
  pub numbers : AreAllPairNumbers name desk marks totals
  pub holds : fact (record { measure = name; desk = desk; marks = marks; verdicts = map verdict totals })

-- the document of these names is the proposal, and this is its total in digits
pub record IsProposedAs (topic doc weight : List ℕ) (s : Standing) : Type 0 where
  pub proposal : Proposal
  pub is : IsProposal s proposal
  pub of_topic : (book_at s.desk proposal.topic).name ≡ topic
  pub named : name_at s.desk proposal.topic proposal.doc ≡ doc
  pub total : weight ≡ decimal proposal.weight

-- what was received as the line of the next document to judge is true, where it is a whole line: the document that it names is the proposal, with its
-- total; and at `none` there is no proposal
pub record IsTrueProposal (name : MeasureName) (desk : Desk) (marks : List (List Mark)) (received : List ℕ) : Type 0 where
  pub proposed : (line topic doc weight : List ℕ) → whole_lines received ≡ line ∷ [] → IsNextLine line topic doc weight → HoldsOfStanding name desk marks (IsProposedAs topic doc weight)
  pub none : (line : List ℕ) → whole_lines received ≡ line ∷ [] → IsNoneLine line → HoldsOfStanding name desk marks HaveNoWeight

-- whatever was received of the line of what is to be judged next is true
abbrev pub NextLinesAreTrue : Type 0
NextLinesAreTrue =
    (name : MeasureName) (desk : Desk) (marks : List (List Mark)) (totals : List Totals) (proposal : Option Proposal) (received : ℕ) →
    IsDesk desk → AreMarksOf desk marks → AreAllPairNumbers name desk marks totals →
    IsNext (record { measure = name; desk = desk; marks = marks; verdicts = map verdict totals }) proposal →
    IsTrueText name desk marks (take received (ended (next_line desk proposal))) × IsTrueProposal name desk marks (take received (ended (next_line desk proposal)))

-- whatever was received of the judgements in force, as a judgements file, claims nothing false
abbrev pub QrelsTextsAreTrue : Type 0
QrelsTextsAreTrue =
    (name : MeasureName) (desk : Desk) (marks : List (List Mark)) (grades : List (List (Option ℤ))) (received : ℕ) → IsDesk desk →
    IsTrueText name desk marks (take received (qrels_text desk grades))

-- a text without bytes claims nothing false
abbrev pub NoTextIsTrue : Type 0
NoTextIsTrue = (name : MeasureName) (desk : Desk) (marks : List (List Mark)) (received : ℕ) → IsTrueText name desk marks (take received [])
