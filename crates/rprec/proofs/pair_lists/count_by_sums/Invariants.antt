use Rattle.std.proofs.Common.{◌≡◌, ℕ, length, map, take, Some}
use Rattle.desk_model.specs.declared.types.MeasureName.TheVariants.{RPrecision}
use Rattle.measure_core.specs.Lists.{AreCounted}
use Rattle.measure_core.specs.PairLists.{pair_documents, sizes_on}
use Rattle.measure_core.specs.Pairs.{ranking_on}
use Rattle.measure_core.specs.Ranks.{AreRanksIn}
use Rattle.measure_core.specs.Rooms.{IsTopicRoom}
use Rattle.rprec.proofs.pair_lists.count_by_sums.Given as goal

abbrev pub invariant-loop-pair : goal.invariant-loop-pair
invariant-loop-pair l = record {
  topic : IsTopicRoom l.marks l.room;
  first : (run : ℕ) → l.first ≡ Some run → AreRanksIn l.marks (ranking_on l.rankings run) l.room.first.items;
  sizes : l.sizes.items ≡ map (sizes_on RPrecision l.marks l.rankings) (take l.pair-index l.pairs);
  size : length l.counts ≡ length l.marks;
  counted : AreCounted l.initial.counts (pair_documents RPrecision l.marks l.rankings (take l.pair-index l.pairs)) l.counts;
}
