use Rattle.std.proofs.Common.{◌≡◌, ◌≤◌, ◌-◌, ◌++◌, List, map, true, length}
use Rattle.desk_outside.specs.Calls.{Reading, GiveInAll}
use Rattle.desk_outside.specs.declared.log.ReadCall.{ReadCall}
use Rattle.desk_files.proofs.Reading.{Reads}
use Rattle.desk_files.proofs.files.feed_file.Given as goal

abbrev pub invariant-pieces : goal.invariant-pieces
invariant-pieces g l = record {
  files : (g.F.Shelf.state l.files).files ≡ (g.F.Shelf.state l.fn.files).files;
  made : (reads : List ReadCall) × ((g.F.Shelf.state l.files).calls ≡ (g.F.Shelf.state l.fn.files).calls ++ map Reading reads) × GiveInAll reads l.count;
  opened : (g.F.Shelf.state l.files).is_open ≡ true;
  later : (g.F.Shelf.state l.fn.files).faults ≤ (g.F.Shelf.state l.files).faults;
  within : l.count ≤ 1073741825;
  counted : l.count ≡ length (g.T.Taker.taken l.taker);
  beside : g.T.Taker.beside l.taker ≡ g.T.Taker.beside l.fn.taker;
  reads : Reads (g.F.Shelf.state l.fn.files).files l.path (g.F.Shelf.state l.files).rest (g.T.Taker.taken l.taker);
}

abbrev pub decreases-pieces : goal.decreases-pieces
decreases-pieces g l = 1073741825 - l.count
