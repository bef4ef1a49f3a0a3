use Rattle.std.proofs.Common.{◌≡◌, ℕ, ◌*◌, length, map, take}
use Rattle.desk_model.specs.declared.types.MeasureName.TheVariants.{AveragePrecision}
use Rattle.measure_core.specs.Lists.{times}
use Rattle.measure_core.specs.PairLists.{pair_documents, sizes_on}
use Rattle.measure_core.specs.Pairs.{runs_on}
use Rattle.average_precision.specs.Uses.{all_shares, AreUsesUpTo}
use Rattle.average_precision.proofs.listed.list_pairs.Given as goal

abbrev pub invariant-loop-pair : goal.invariant-loop-pair
invariant-loop-pair l = record {
  sizes : l.sizes.items ≡ map (sizes_on AveragePrecision l.runs.kept.on.marks.now l.runs.kept.on.rankings.now) (take l.pair-index l.pairs);
  runs : length l.uses ≡ runs_on l.runs.kept.on.rankings.now;
  few : AreUsesUpTo (2 * l.pair-index) l.uses;
  uses : (doc : ℕ) → all_shares l.runs.kept.on.marks.now l.runs.kept.on.rankings.now l.uses doc ≡ times (pair_documents AveragePrecision l.runs.kept.on.marks.now l.runs.kept.on.rankings.now (take l.pair-index l.pairs)) doc;
}
