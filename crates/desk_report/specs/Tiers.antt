-- The printed tiers of runs, and what their lines claim.
use Rattle.std.specs.Prelude.{◌≡◌, ℕ, List, [], ◌∷◌, ◌++◌, length, map, take, slice_index_or, codes, decimal, flat_map, Option, All}
use Rattle.std.specs.List.{zip}
use Rattle.desk_text.specs.Lines.{fields_of, whole_lines}
use Rattle.desk_model.specs.Desk.{Desk, IsDesk, AreMarksOf, topics_under}
use Rattle.desk_model.specs.MeasureText.{IsMeasure}
use Rattle.desk_model.specs.Order.{Topic, IsAlwaysAbove}
use Rattle.desk_model.specs.declared.types.Mark.{Mark}
use Rattle.desk_model.specs.declared.types.MeasureName.{MeasureName}
use Rattle.order_tiers.specs.Holding.{ScoresAbove, HoldsOfSoMany}
use Rattle.order_tiers.specs.Order.{Ordered, IsOrderIn}
use Rattle.order_tiers.specs.declared.cover.Cover.{Cover}
use Rattle.desk_report.specs.Claims.{HoldsByNames, IsTrueText}
use Rattle.desk_report.specs.Reports.{Subject}
use Rattle.desk_report.specs.Table.{ended, head_lines}

-- ---- the text
-- `system NAME TIER`
abbrev pub system_line : List ℕ → ℕ → List ℕ
system_line name tier = codes "system " ++ name ++ 32 ∷ decimal tier

-- `cover FIRST SECOND WINS LOSSES`
abbrev pub cover_line : List ℕ → List ℕ → ℕ → ℕ → List ℕ
cover_line first second wins losses = codes "cover " ++ first ++ 32 ∷ second ++ 32 ∷ decimal wins ++ 32 ∷ decimal losses

-- one line for each run, in the order of the runs
abbrev pub system_lines : List (List ℕ) → List ℕ → List (List ℕ)
system_lines runs tiers = map (λ (run : List ℕ × ℕ). system_line run.0 run.1) (zip runs tiers)

-- the line of a covering pair of runs
abbrev pub line_of_cover : List (List ℕ) → Cover → List ℕ
line_of_cover runs c = cover_line (slice_index_or runs c.first []) (slice_index_or runs c.second []) c.wins c.losses

-- the lines: the head of a table, how many tiers there are, each run's tier, and the covering pairs
unfoldable pub tiers_lines : Desk → MeasureName → ℕ → Option ℕ → Ordered → List (List ℕ)
tiers_lines desk measure level depth order =
    head_lines measure level depth (length desk.topics) (length desk.runs)
    ++ (codes "tiers " ++ decimal order.greatest) ∷ system_lines desk.runs order.tiers
    ++ map (line_of_cover desk.runs) order.covers

unfoldable pub tiers_text : Desk → MeasureName → ℕ → Option ℕ → Ordered → List ℕ
tiers_text desk measure level depth order = flat_map ended (tiers_lines desk measure level depth order)

-- the text is that of the tiers of what is spoken of
pub record IsTiersText (s : Subject) (text : List ℕ) : Type 0 where
  pub valid : IsDesk s.desk
  pub order : Ordered
  pub named : IsOrderIn s.measure s.desk s.marks order
  pub is : text ≡ tiers_text s.desk s.measure s.level s.depth order

-- ---- what its lines claim
-- the line is `cover FIRST SECOND WINS LOSSES`
abbrev pub IsCoverLine : List ℕ → List ℕ → List ℕ → List ℕ → List ℕ → Type 0
IsCoverLine line first second wins losses = fields_of line ≡ codes "cover" ∷ first ∷ second ∷ wins ∷ losses ∷ []

-- a fact holds of as many topics as a text says in digits
pub record SaysOfTopics (fact : Topic → Type 0) (topics : List Topic) (text : List ℕ) : Type 0 where
  pub count : ℕ
  pub digits : text ≡ decimal count
  pub holds : HoldsOfSoMany fact topics count

-- the mean of a is greater than that of b in every completion; on as many topics as are won its score is, and on as many as are lost that of b
pub record CoverSays (name : MeasureName) (topics : List Topic) (wins losses : List ℕ) (a b : ℕ) : Type 0 where
  pub above : IsAlwaysAbove name topics a b
  pub won : SaysOfTopics (ScoresAbove name a b) topics wins
  pub lost : SaysOfTopics (ScoresAbove name b a) topics losses

-- what a line claims as one of a covering pair is true
abbrev pub IsTrueCoverLine : MeasureName → Desk → List (List Mark) → List ℕ → Type 0
IsTrueCoverLine name desk marks line =
    (first second wins losses : List ℕ) → IsCoverLine line first second wins losses → HoldsByNames desk first second (CoverSays name (topics_under desk marks) wins losses)

-- whatever was received of the tiers of the runs of a desk, by a measure's name, claims nothing false, and its lines of covering pairs are true
abbrev pub TiersTextsAreTrue : Type 0
TiersTextsAreTrue =
    (name : MeasureName) (desk : Desk) (marks : List (List Mark)) (level : ℕ) (depth : Option ℕ) (received : ℕ) (order : Ordered) →
    IsMeasure name → IsDesk desk → AreMarksOf desk marks → IsOrderIn name desk marks order →
    IsTrueText name desk marks (take received (tiers_text desk name level depth order))
    × All (IsTrueCoverLine name desk marks) (whole_lines (take received (tiers_text desk name level depth order)))
