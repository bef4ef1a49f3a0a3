-- The weights of one pair of runs in the totals, and what a change of its verdict does to them.
use Rattle.std.specs.Prelude.{◌≡◌, ℕ, ◌+◌, ◌^◌, ◌<◌, ◌≤◌, if◌then◌else◌, List, [], length, slice_index, slice_index_or}
use Rattle.desk_model.specs.Desk.{Desk, ranking_of}
use Rattle.desk_model.specs.declared.pairs.PairPlaces.{PairPlaces}
use Rattle.desk_model.specs.declared.types.Mark.{Mark}
use Rattle.desk_model.specs.declared.types.MeasureName.{MeasureName}
use Rattle.desk_model.specs.declared.types.Verdict.{Verdict}
use Rattle.measure_core.specs.Shifts.{HaveRoom, AreShifted}
use Rattle.measure_core.specs.declared.shift.Shift.{Shift}
use Rattle.measure_laws.specs.Weights.{weight_of}
use Rattle.next_document.specs.Kept.{AreOver}
use Rattle.next_document.specs.Proposal.{Standing, is_unsettled}

-- the weights of a topic's documents in a pair of runs
abbrev pub pair_weights : MeasureName → Desk → List (List Mark) → PairPlaces → ℕ → ℕ → ℕ
pair_weights measure desk marks pair topic = weight_of measure (slice_index_or marks topic []) (ranking_of desk pair.first topic) (ranking_of desk pair.second topic)

-- the same, of how runs stand
abbrev pub weights_of : Standing → PairPlaces → ℕ → ℕ → ℕ
weights_of s pair topic = pair_weights s.measure s.desk s.marks pair topic

-- what a pair with this verdict adds to a total
abbrev pub counted : Verdict → ℕ → ℕ
counted verdict weight = if is_unsettled verdict then weight else 0

-- each total has what the pair adds to it, and room for more
abbrev pub HaveCounted : Verdict → (ℕ → ℕ) → List ℕ → Type 0
HaveCounted verdict weight totals = (doc : ℕ) → doc < length totals → (counted verdict (weight doc) ≤ slice_index totals doc) × (slice_index totals doc + weight doc < 2 ^ 128)

-- totals before and after the verdict of a pair is another
pub record AreMoved (before after : Verdict) (weight : ℕ → ℕ) (earlier later : List ℕ) : Type 0 where
  pub count : length later ≡ length earlier
  pub each : (doc : ℕ) → doc < length earlier → slice_index later doc + counted before (weight doc) ≡ slice_index earlier doc + counted after (weight doc)

-- there is a total for each document, and something holds of the totals of each topic
pub record HoldOnAll (marks : List (List Mark)) (P : ℕ → List ℕ → Type 0) (totals : List (List ℕ)) : Type 0 where
  pub over : AreOver marks totals
  pub each : (topic : ℕ) → topic < length marks → P topic (slice_index_or totals topic [])

-- the totals of all topics can be made greater or less by the weights of a pair
abbrev pub HaveRoomOnAll : Shift → Standing → PairPlaces → List (List ℕ) → Type 0
HaveRoomOnAll shift s pair totals = HoldOnAll s.marks (λ (topic : ℕ) (here : List ℕ). HaveRoom shift (weights_of s pair topic) here) totals

-- they were made greater or less by them
abbrev pub AreShiftedOnAll : Shift → Standing → PairPlaces → List (List ℕ) → List (List ℕ) → Type 0
AreShiftedOnAll shift s pair old now = HoldOnAll s.marks (λ (topic : ℕ) (here : List ℕ). AreShifted shift (weights_of s pair topic) (slice_index_or old topic []) here) now

-- they have what a pair with this verdict adds to them, and room for more
abbrev pub HaveCountedOnAll : Verdict → Standing → PairPlaces → List (List ℕ) → Type 0
HaveCountedOnAll verdict s pair totals = HoldOnAll s.marks (λ (topic : ℕ) (here : List ℕ). HaveCounted verdict (weights_of s pair topic) here) totals

-- they are those after the verdict of the pair is another
abbrev pub AreMovedOnAll : Verdict → Verdict → Standing → PairPlaces → List (List ℕ) → List (List ℕ) → Type 0
AreMovedOnAll before after s pair old now = HoldOnAll s.marks (λ (topic : ℕ) (here : List ℕ). AreMoved before after (weights_of s pair topic) (slice_index_or old topic []) here) now
