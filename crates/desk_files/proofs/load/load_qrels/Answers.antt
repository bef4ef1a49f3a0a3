use Rattle.std.proofs.Common.{◌∙◌, arith, refl, sym, subst}
use Rattle.std.proofs.Math.Nat.{le_trans}
use Rattle.desk_outside.specs.Outside.{Opens}
use Rattle.qrels_reader.specs.Grouped.{qrels_of}
use Rattle.file_rows.specs.declared.fault.FileFault.TheVariants as faults
use Rattle.desk_files.specs.Files.{file_as, stop_at}
use Rattle.desk_files.specs.Reads.{ToEnd, extent_at}
use Rattle.desk_files.specs.Views.{stop_of}
use Rattle.desk_files.proofs.InTurn.{opened_and_read, file_handed_on, opening_failed, reading_failed, goes_to_end, fault_extent}
use Rattle.desk_files.proofs.Stopping.{gives_memory}
use Rattle.desk_files.proofs.Loading.{stops_file, reads_file, file_is_faulty}
use Rattle.desk_files.proofs.load.load_qrels.Goals as goal

pub returns-in_err-open_file-clause-gives : goal.returns-in_err-open_file-clause-gives
returns-in_err-open_file-clause-gives g c =
    let told = (g.F.Shelf.state c.args.files.now).files in
    let faults = (g.F.Shelf.state c.args.files.now).faults in
    stops_file stop_at qrels_of c.args.path.now told told faults faults (g.F.Shelf.state c.open_file.new.files).faults (λ qrels. qrels) c.from_residual.result c.in_err-open_file.field-0.0 refl c.from_residual.ensures.1 (omega arith) c.in_err-open_file.ensures.stops

pub returns-in_err-reader-clause-gives : goal.returns-in_err-reader-clause-gives
returns-in_err-reader-clause-gives g c =
    gives_memory (g.F.Shelf.state c.args.files.now).files (g.F.Shelf.state c.args.files.now).faults (g.F.Shelf.state c.open_file.new.files).faults (λ qrels. qrels) c.from_residual-in_err-reader.result (λ held. file_as qrels_of held c.args.path.now) c.from_residual-in_err-reader.ensures.1

pub returns-in_err-feed_file-clause-gives : goal.returns-in_err-feed_file-clause-gives
returns-in_err-feed_file-clause-gives g c =
    let told = (g.F.Shelf.state c.args.files.now).files in
    let faults = (g.F.Shelf.state c.args.files.now).faults in
    let opened = c.open_file.new.files in
    stops_file stop_at qrels_of c.args.path.now told (g.F.Shelf.state opened).files faults (g.F.Shelf.state opened).faults (g.F.Shelf.state c.feed_file.new.files).faults (λ qrels. qrels) c.from_residual-in_err-feed_file.result c.in_err-feed_file.field-0.0
    c.open_file.ensures.files c.from_residual-in_err-feed_file.ensures.1 c.open_file.ensures.later c.in_err-feed_file.ensures.gives

pub returns-in-Ok-clause-gives : goal.returns-in-Ok-clause-gives
returns-in-Ok-clause-gives g c =
    reads_file stop_at qrels_of c.args.path.now (g.F.Shelf.state c.args.files.now).files (g.F.Shelf.state c.open_file.new.files).files faults.Memory c.feed_file.new.taker c.in-Ok.qrels c.open_file.ensures.files c.in_ok-feed_file.ensures.gives c.in-Ok.ensures

pub returns-in-Err-clause-gives : goal.returns-in-Err-clause-gives
returns-in-Err-clause-gives g c =
    file_is_faulty stop_at qrels_of c.args.path.now faults.Memory refl (g.F.Shelf.state c.args.files.now).files (g.F.Shelf.state c.open_file.new.files).files (g.F.Shelf.state c.args.files.now).faults (g.F.Shelf.state c.feed_file.new.files).faults c.feed_file.new.taker c.in-Err.fault c.stop_of.result
    c.open_file.ensures.files c.in_ok-feed_file.ensures.gives c.in-Err.ensures c.stop_of.ensures

pub feed_file-requires-clause-content : goal.feed_file-requires-clause-content
feed_file-requires-clause-content g c =
    subst (λ told. Opens told c.args.path.now (g.F.Shelf.state c.open_file.new.files).rest) (sym c.open_file.ensures.files) c.in_ok-open_file.ensures.content

pub returns-in_err-feed_file-clause-files : goal.returns-in_err-feed_file-clause-files
returns-in_err-feed_file-clause-files g c = c.feed_file.ensures.files ∙ c.open_file.ensures.files

pub returns-in_err-feed_file-clause-later : goal.returns-in_err-feed_file-clause-later
returns-in_err-feed_file-clause-later g c = le_trans c.open_file.ensures.later c.feed_file.ensures.later

pub returns-in-Ok-clause-files : goal.returns-in-Ok-clause-files
returns-in-Ok-clause-files g c = c.feed_file.ensures.files ∙ c.open_file.ensures.files

pub returns-in-Ok-clause-later : goal.returns-in-Ok-clause-later
returns-in-Ok-clause-later g c = le_trans c.open_file.ensures.later c.feed_file.ensures.later

pub returns-in-Err-clause-files : goal.returns-in-Err-clause-files
returns-in-Err-clause-files g c = c.feed_file.ensures.files ∙ c.open_file.ensures.files

pub returns-in-Err-clause-later : goal.returns-in-Err-clause-later
returns-in-Err-clause-later g c = le_trans c.open_file.ensures.later c.feed_file.ensures.later

pub returns-in_err-open_file-clause-files : goal.returns-in_err-open_file-clause-files
returns-in_err-open_file-clause-files g c = c.open_file.ensures.files

pub returns-in_err-open_file-clause-later : goal.returns-in_err-open_file-clause-later
returns-in_err-open_file-clause-later g c = c.open_file.ensures.later

pub returns-in_err-reader-clause-files : goal.returns-in_err-reader-clause-files
returns-in_err-reader-clause-files g c = c.open_file.ensures.files

pub returns-in_err-reader-clause-later : goal.returns-in_err-reader-clause-later
returns-in_err-reader-clause-later g c = c.open_file.ensures.later

pub feed_file-requires-clause-open : goal.feed_file-requires-clause-open
feed_file-requires-clause-open g c = c.in_ok-open_file.ensures.open

pub feed_file-requires-clause-none : goal.feed_file-requires-clause-none
feed_file-requires-clause-none g c = c.in_ok-reader.ensures

pub returns-in_err-open_file-clause-reads : goal.returns-in_err-open_file-clause-reads
returns-in_err-open_file-clause-reads g c = opening_failed c.args.path.now _ _ c.from_residual.result c.in_err-open_file.field-0.0 c.from_residual.ensures.1 c.open_file.ensures.calls c.in_err-open_file.ensures.outside

pub returns-in_err-reader-clause-reads : goal.returns-in_err-reader-clause-reads
returns-in_err-reader-clause-reads g c = reading_failed c.args.path.now _ _ c.from_residual-in_err-reader.result _ c.from_residual-in_err-reader.ensures.1 c.open_file.ensures.calls refl

pub returns-in_err-feed_file-clause-reads : goal.returns-in_err-feed_file-clause-reads
returns-in_err-feed_file-clause-reads g c =
    let fed = c.in_err-feed_file.ensures.reads in
    file_handed_on c.args.path.now _ _ c.from_residual-in_err-feed_file.result c.in_err-feed_file.field-0.0 c.from_residual-in_err-feed_file.ensures.1 (opened_and_read c.args.path.now _ _ _ c.open_file.ensures.calls (extent_at (stop_of c.in_err-feed_file.field-0.0)) fed.0 fed.1 fed.2)

pub returns-in-Ok-clause-reads : goal.returns-in-Ok-clause-reads
returns-in-Ok-clause-reads g c = let fed = c.in_ok-feed_file.ensures.reads in opened_and_read c.args.path.now _ _ _ c.open_file.ensures.calls ToEnd fed.0 fed.1 fed.2

pub returns-in-Err-clause-reads : goal.returns-in-Err-clause-reads
returns-in-Err-clause-reads g c =
    let fed = c.in_ok-feed_file.ensures.reads in
    opened_and_read c.args.path.now _ _ _ c.open_file.ensures.calls (extent_at (stop_of c.stop_of.result)) fed.0 fed.1 (goes_to_end (stop_at c.args.path.now c.in-Err.fault) c.stop_of.result fed.0 (fault_extent c.args.path.now c.in-Err.fault) c.stop_of.ensures fed.2)
