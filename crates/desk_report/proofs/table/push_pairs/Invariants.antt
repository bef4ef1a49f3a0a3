use Rattle.std.proofs.Common.{◌≡◌, ◌++◌, take, drop, length}
use Rattle.std.specs.Prelude.{flat_map}
use Rattle.desk_model.specs.Pairs.{pairs_of, pairs_from}
use Rattle.desk_model.proofs.PairPlace.{ArePlaces}
use Rattle.desk_report.specs.Table.{ended, pair_lines}
use Rattle.desk_report.proofs.table.push_pairs.Given as goal

abbrev pub invariant-loop-each : goal.invariant-loop-each
invariant-loop-each l = record {
  text : l.out.items ≡ l.initial.out.items ++ flat_map ended (take l.each-index (pair_lines l.numbers.parts.number l.numbers.desk.now.runs l.numbers.totals.now));
  left : drop l.each-index (pairs_of l.numbers.desk.now.runs) ≡ pairs_from l.at l.numbers.desk.now.runs;
  placed : ArePlaces (length l.numbers.desk.now.runs) l.at;
}
