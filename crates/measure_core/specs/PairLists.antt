-- The lists of the documents that the least and the most cases of pairs of runs make relevant on a topic.
use Rattle.std.specs.Prelude.{ℕ, ◌<◌, List, length, flat_map}
use Rattle.desk_model.specs.declared.types.Mark.{Mark}
use Rattle.desk_model.specs.declared.types.MeasureName.{MeasureName}
use Rattle.measure_core.specs.Lists.{case_documents, least_documents}
use Rattle.measure_core.specs.Pairs.{DeskTopic, ranking_on}
use Rattle.measure_core.specs.declared.counting.ListSizes.{ListSizes}
use Rattle.measure_core.specs.declared.run_pair.RunPair.{RunPair}

-- two runs of so many
pub record IsOfRuns (runs : ℕ) (pair : RunPair) : Type 0 where
  pub first : pair.first < runs
  pub second : pair.second < runs

-- how many documents each of the two lists of a pair has
abbrev pub sizes_on : MeasureName → List Mark → DeskTopic → RunPair → ListSizes
sizes_on measure marks t pair = record {
  least = length (least_documents measure marks (ranking_on t pair.first) (ranking_on t pair.second));
  most = length (least_documents measure marks (ranking_on t pair.second) (ranking_on t pair.first));
}

-- the documents of both lists of a pair, and of some pairs
abbrev pub documents_on : MeasureName → List Mark → DeskTopic → RunPair → List ℕ
documents_on measure marks t pair = case_documents measure marks (ranking_on t pair.first) (ranking_on t pair.second)

abbrev pub pair_documents : MeasureName → List Mark → DeskTopic → List RunPair → List ℕ
pair_documents measure marks t pairs = flat_map (documents_on measure marks t) pairs
