use Rattle.std.proofs.Common.{◌≡◌, ◌≤◌, [], drop}
use Rattle.desk_outside.specs.Calls.{opened_in}
use Rattle.desk_files.specs.Reads.{ToEnd, ReadsFiles}
use Rattle.desk_files.specs.Sheets.{sheets_in_turn}
use Rattle.desk_files.proofs.Opening.{OpensSoFar}
use Rattle.desk_files.proofs.Merging.{MergesOn}
use Rattle.desk_files.proofs.sheets.load_merged.Given as goal

abbrev pub invariant-loop-path : goal.invariant-loop-path
invariant-loop-path g l = record {
  files : (g.F.Shelf.state l.files).files ≡ (g.F.Shelf.state l.fn.files).files;
  later : (g.F.Shelf.state l.fn.files).faults ≤ (g.F.Shelf.state l.files).faults;
  opened : OpensSoFar sheets_in_turn (g.F.Shelf.state l.fn.files).files [] l.path-items l.all (drop l.path-index l.path-items) (opened_in (g.F.Shelf.state l.fn.files).calls) (opened_in (g.F.Shelf.state l.files).calls);
  left : MergesOn (g.F.Shelf.state l.fn.files).files l.path-items l.all (drop l.path-index l.path-items);
  reads : ReadsFiles ToEnd (g.F.Shelf.state l.fn.files).calls (g.F.Shelf.state l.files).calls;
}
