-- What the laws of a measure say.
use Rattle.std.specs.Prelude.{◌≡◌, ℕ, ◌<◌, ◌≤◌, Bool, false, List, length, slice_index_or}
use Rattle.desk_model.specs.Limits.{DOCUMENT_LIMIT, PARTS_OF_ONE}
use Rattle.desk_model.specs.Ranking.{IsRanking}
use Rattle.desk_model.specs.Completion.{Completes}
use Rattle.desk_model.specs.Fraction.{IsAtMost, IsAtLeast}
use Rattle.desk_model.specs.Score.{score}
use Rattle.desk_model.specs.Extremes.{InEvery, InEveryScore, IsAtMostScore, IsAtLeastScore}
use Rattle.desk_model.specs.declared.types.Mark.{Mark}
use Rattle.desk_model.specs.declared.types.MeasureName.{MeasureName}
use Rattle.measure_laws.specs.Measures.{unit_of}
use Rattle.measure_laws.specs.Cases.{least_truth, HasLeastTails}
use Rattle.measure_laws.specs.Weights.{weight_of}
use Rattle.measure_laws.specs.Shares.{IsModest}
use Rattle.topic_counts.specs.declared.span.Span.{Span}
use Rattle.topic_counts.specs.Numbers.{negated}
use Rattle.measure_core.specs.declared.cell.Cell.{Cell}

-- a ranking over the universe of the marks
pub record IsMet (marks : List Mark) (a : List ℕ) : Type 0 where
  pub ranking : IsRanking (length marks) a
  pub small : length marks ≤ DOCUMENT_LIMIT

-- two rankings over the universe of the marks
pub record AreMet (marks : List Mark) (a b : List ℕ) : Type 0 where
  pub first : IsRanking (length marks) a
  pub second : IsRanking (length marks) b
  pub small : length marks ≤ DOCUMENT_LIMIT

-- unit times the difference lies from the lower end of the least to the upper end of the most, in every completion
pub record Encloses (measure : MeasureName) (marks : List Mark) (a b : List ℕ) (cell : Cell) : Type 0 where
  pub least : InEvery measure marks a b (IsAtMost cell.least.lo (unit_of measure))
  pub most : InEvery measure marks a b (IsAtLeast cell.most.hi (unit_of measure))

-- unit times the score lies from the lower to the upper bound, in every completion
pub record BoundsScore (measure : MeasureName) (marks : List Mark) (a : List ℕ) (bounds : Span) : Type 0 where
  pub low : InEveryScore measure marks a (IsAtMostScore bounds.lo (unit_of measure))
  pub high : InEveryScore measure marks a (IsAtLeastScore bounds.hi (unit_of measure))

-- the list holds the truth value of each document of the universe
pub record AreValues (truth : ℕ → Bool) (universe : ℕ) (values : List Bool) : Type 0 where
  pub count : length values ≡ universe
  pub each : (doc : ℕ) → doc < universe → slice_index_or values doc false ≡ truth doc

-- unit times the difference, where these documents are true and these tails stand, lies in a span
pub record LiesIn (measure : MeasureName) (marks : List Mark) (a b : List ℕ) (truth : ℕ → Bool) (tail_a tail_b : List Bool) (span : Span) : Type 0 where
  pub low : IsAtMost span.lo (unit_of measure) (score measure (length marks) truth a tail_a) (score measure (length marks) truth b tail_b)
  pub high : IsAtLeast span.hi (unit_of measure) (score measure (length marks) truth a tail_a) (score measure (length marks) truth b tail_b)

-- the least case is a completion, and unit times its difference, with the tails that go with it, lies in a span
pub record LeastCaseLiesIn (measure : MeasureName) (marks : List Mark) (a b : List ℕ) (span : Span) : Type 0 where
  pub completes : Completes marks (least_truth measure marks a b)
  pub lies : (tail_a tail_b : List Bool) → HasLeastTails measure tail_a tail_b → LiesIn measure marks a b (least_truth measure marks a b) tail_a tail_b span

-- the same of the most case, which is the least case of the swapped runs
pub record MostCaseLiesIn (measure : MeasureName) (marks : List Mark) (a b : List ℕ) (span : Span) : Type 0 where
  pub completes : Completes marks (least_truth measure marks b a)
  pub lies : (tail_a tail_b : List Bool) → HasLeastTails measure tail_b tail_a → LiesIn measure marks a b (least_truth measure marks b a) tail_a tail_b span

-- the cell of the swapped runs: least and most change places, and the ends of each are negated and change places
abbrev pub swapped_cell : Cell → Cell
swapped_cell c = record { least = negated c.most; most = negated c.least }

-- both ends are from -2*10^18 to 2*10^18
abbrev pub SpanIsModest : Span → Type 0
SpanIsModest s = IsModest s.lo × IsModest s.hi

-- so are all four ends of a cell
pub record CellIsModest (cell : Cell) : Type 0 where
  pub least : SpanIsModest cell.least
  pub most : SpanIsModest cell.most

-- the laws of a measure with this name, these cells and these bounds
pub record MeetsLaws (measure : MeasureName) (cell : List Mark → List ℕ → List ℕ → Cell) (bounds : List Mark → List ℕ → Span) : Type 0 where
  pub encloses : (marks : List Mark) (a b : List ℕ) → AreMet marks a b → Encloses measure marks a b (cell marks a b)
  pub bounds_enclose : (marks : List Mark) (a : List ℕ) → IsMet marks a → BoundsScore measure marks a (bounds marks a)
  pub least_case : (marks : List Mark) (a b : List ℕ) → AreMet marks a b → LeastCaseLiesIn measure marks a b (cell marks a b).least
  pub most_case : (marks : List Mark) (a b : List ℕ) → AreMet marks a b → MostCaseLiesIn measure marks a b (cell marks a b).most
  pub swaps : (marks : List Mark) (a b : List ℕ) → AreMet marks a b → cell marks b a ≡ swapped_cell (cell marks a b)
  pub cell_modest : (marks : List Mark) (a b : List ℕ) → AreMet marks a b → CellIsModest (cell marks a b)
  pub bounds_modest : (marks : List Mark) (a : List ℕ) → IsMet marks a → SpanIsModest (bounds marks a)
  pub unit_size : (1 ≤ unit_of measure) × (unit_of measure ≤ PARTS_OF_ONE)
  pub weight_size : (marks : List Mark) (a b : List ℕ) (doc : ℕ) → weight_of measure marks a b doc ≤ PARTS_OF_ONE
  pub weight_even : (marks : List Mark) (a b : List ℕ) (doc : ℕ) → weight_of measure marks b a doc ≡ weight_of measure marks a b doc

-- what is left to show of a measure: the rest of its laws follows
pub record OwesLaws (measure : MeasureName) (cell : List Mark → List ℕ → List ℕ → Cell) (bounds : List Mark → List ℕ → Span) : Type 0 where
  pub low : (marks : List Mark) (a b : List ℕ) → AreMet marks a b → InEvery measure marks a b (IsAtMost (cell marks a b).least.lo (unit_of measure))
  pub case : (marks : List Mark) (a b : List ℕ) (tail_a tail_b : List Bool) → AreMet marks a b → HasLeastTails measure tail_a tail_b →
      IsAtLeast (cell marks a b).least.hi (unit_of measure) (score measure (length marks) (least_truth measure marks a b) a tail_a) (score measure (length marks) (least_truth measure marks a b) b tail_b)
  pub modest : (marks : List Mark) (a b : List ℕ) → AreMet marks a b → SpanIsModest (cell marks a b).least
  pub swaps : (marks : List Mark) (a b : List ℕ) → AreMet marks a b → cell marks b a ≡ swapped_cell (cell marks a b)
  pub bounds_enclose : (marks : List Mark) (a : List ℕ) → IsMet marks a → BoundsScore measure marks a (bounds marks a)
  pub bounds_modest : (marks : List Mark) (a : List ℕ) → IsMet marks a → SpanIsModest (bounds marks a)
