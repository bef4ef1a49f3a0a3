use Rattle.std.proofs.Common.{◌≡◌, ℕ, List, [], refl, ap, sym, subst, ◌∙◌, arith}
use Rattle.std.specs.Prelude.{Option, Ok, Err}
use Rattle.std.proofs.Math.Nat.{le_trans}
use Rattle.std.proofs.lemmas.Result.{IfOk-from_err}
use Rattle.desk_outside.specs.Outside.{Opens}
use Rattle.file_rows.specs.Grouped.{TopicRows}
use Rattle.file_rows.specs.Reading.{IsUnlessMemory}
use Rattle.run_reader.specs.Fed.{FedRun}
use Rattle.run_reader.specs.Run.{run_of}
use Rattle.run_reader.specs.declared.used.Used.{Used}
use Rattle.topics_pool.proofs.AddedUp.{added_up, answered}
use Rattle.file_rows.specs.declared.fault.FileFault.TheVariants as faults
use Rattle.desk_files.specs.Files.{file_as, stop_at}
use Rattle.desk_files.specs.Reads.{ToEnd, extent_at}
use Rattle.desk_files.specs.Views.{stop_of}
use Rattle.desk_files.proofs.InTurn.{opened_and_read, file_handed_on, opening_failed, reading_failed, goes_to_end, fault_extent}
use Rattle.desk_files.proofs.Stopping.{gives_memory}
use Rattle.desk_files.proofs.Loading.{IsFedWhole, stops_file, reads_file, file_is_faulty}
use Rattle.desk_files.proofs.load.load_run.Goals as goal

-- the reader that was fed reads as the word says
reads_as_given : (fed reader : FedRun) (given name : Option (List ℕ)) (used : Used) (qrels : List TopicRows) → record fed { fed = [] } ≡ record reader { fed = [] } → reader ≡ record { fed = []; given = given; used = used; qrels = qrels } → given ≡ name →
    run_of fed.given fed.qrels fed.used ≡ run_of name qrels used
reads_as_given fed reader given name used qrels kept new is = ap (λ (r : FedRun). run_of r.given r.qrels r.used) (kept ∙ ap (λ (r : FedRun). record r { fed = [] }) new) ∙ ap (λ n. run_of n qrels used) is

pub returns-in-Ok-clause-rows : goal.returns-in-Ok-clause-rows
returns-in-Ok-clause-rows g c =
    let run = c.in-Ok.run' in
    let fed = c.feed_file.new.taker in
    let kept : fed.used ≡ c.in_ok-reader.reader.used = ap (λ (r : FedRun). r.used) c.feed_file.ensures.beside in
    let used : fed.used ≡ c.args.used = rw c.in_ok-reader.ensures at kept in
    rw used at (added_up fed.given fed.qrels fed.used fed.fed run (answered run (run_of fed.given fed.qrels fed.used fed.fed) c.in-Ok.ensures.run))

pub returns-in_err-open_file-clause-gives : goal.returns-in_err-open_file-clause-gives
returns-in_err-open_file-clause-gives g c =
    let told = (g.F.Shelf.state c.args.files.now).files in
    let faults = (g.F.Shelf.state c.args.files.now).faults in
    let word = c.args.word.now in
    stops_file stop_at (run_of word.name c.args.qrels.now c.args.used) word.path told told faults faults (g.F.Shelf.state c.open_file.new.files).faults (λ run. run) c.from_residual.result c.in_err-open_file.field-0.0
    refl c.from_residual.ensures.1 (omega arith) (rw c.as_str-path.ensures at c.in_err-open_file.ensures.stops)

pub returns-in_err-reader-clause-gives : goal.returns-in_err-reader-clause-gives
returns-in_err-reader-clause-gives g c =
    let word = c.args.word.now in
    gives_memory (g.F.Shelf.state c.args.files.now).files (g.F.Shelf.state c.args.files.now).faults (g.F.Shelf.state c.open_file.new.files).faults (λ run. run) c.from_residual-in_err-reader.result
    (λ held. file_as (run_of word.name c.args.qrels.now c.args.used) held word.path) c.from_residual-in_err-reader.ensures.1

pub returns-in_err-feed_file-clause-gives : goal.returns-in_err-feed_file-clause-gives
returns-in_err-feed_file-clause-gives g c =
    let told = (g.F.Shelf.state c.args.files.now).files in
    let faults = (g.F.Shelf.state c.args.files.now).faults in
    let opened = c.open_file.new.files in
    let word = c.args.word.now in
    stops_file stop_at (run_of word.name c.args.qrels.now c.args.used) word.path told (g.F.Shelf.state opened).files faults (g.F.Shelf.state opened).faults (g.F.Shelf.state c.feed_file.new.files).faults (λ run. run) c.from_residual-in_err-feed_file.result c.in_err-feed_file.field-0.0
    c.open_file.ensures.files c.from_residual-in_err-feed_file.ensures.1 c.open_file.ensures.later (rw c.as_str-path.ensures at c.in_err-feed_file.ensures.gives)

pub returns-in-Ok-clause-gives : goal.returns-in-Ok-clause-gives
returns-in-Ok-clause-gives g c =
    let word = c.args.word.now in
    let fed = c.feed_file.new.taker in
    let opened = (g.F.Shelf.state c.open_file.new.files).files in
    let whole : IsFedWhole opened word.path fed.fed = rw c.as_str-path.ensures at c.in_ok-feed_file.ensures.gives in
    let same = reads_as_given fed c.in_ok-reader.reader _ word.name c.args.used c.args.qrels.now c.feed_file.ensures.beside c.in_ok-reader.ensures c.given_name.ensures.name in
    reads_file stop_at (run_of word.name c.args.qrels.now c.args.used) word.path (g.F.Shelf.state c.args.files.now).files opened faults.Memory fed.fed c.in-Ok.run' c.open_file.ensures.files whole
    (subst (λ read. IsUnlessMemory (Ok c.in-Ok.run') (read fed.fed)) same c.in-Ok.ensures.run)

pub returns-in-Err-clause-gives : goal.returns-in-Err-clause-gives
returns-in-Err-clause-gives g c =
    let word = c.args.word.now in
    let fed = c.feed_file.new.taker in
    let opened = (g.F.Shelf.state c.open_file.new.files).files in
    let whole : IsFedWhole opened word.path fed.fed = rw c.as_str-path.ensures at c.in_ok-feed_file.ensures.gives in
    let same = reads_as_given fed c.in_ok-reader.reader _ word.name c.args.used c.args.qrels.now c.feed_file.ensures.beside c.in_ok-reader.ensures c.given_name.ensures.name in
    file_is_faulty stop_at (run_of word.name c.args.qrels.now c.args.used) word.path faults.Memory refl (g.F.Shelf.state c.args.files.now).files opened (g.F.Shelf.state c.args.files.now).faults (g.F.Shelf.state c.feed_file.new.files).faults fed.fed c.in-Err.fault c.stop_of.result
    c.open_file.ensures.files whole (subst (λ read. IsUnlessMemory (Err c.in-Err.fault) (read fed.fed)) same c.in-Err.ensures.run) (rw c.as_str-path.ensures at c.stop_of.ensures)

pub feed_file-requires-clause-content : goal.feed_file-requires-clause-content
feed_file-requires-clause-content g c =
    subst (λ told. Opens told c.as_str-path.result.now (g.F.Shelf.state c.open_file.new.files).rest) (sym c.open_file.ensures.files) c.in_ok-open_file.ensures.content

pub feed_file-requires-clause-none : goal.feed_file-requires-clause-none
feed_file-requires-clause-none g c = ap (λ (r : FedRun). r.fed) c.in_ok-reader.ensures

pub returns-in_err-open_file-clause-rows : goal.returns-in_err-open_file-clause-rows
returns-in_err-open_file-clause-rows g c = IfOk-from_err c.from_residual.result _ c.from_residual.ensures.0

pub returns-in_err-reader-clause-rows : goal.returns-in_err-reader-clause-rows
returns-in_err-reader-clause-rows g c = IfOk-from_err c.from_residual-in_err-reader.result _ c.from_residual-in_err-reader.ensures.0

pub returns-in_err-feed_file-clause-rows : goal.returns-in_err-feed_file-clause-rows
returns-in_err-feed_file-clause-rows g c = IfOk-from_err c.from_residual-in_err-feed_file.result _ c.from_residual-in_err-feed_file.ensures.0

pub returns-in_err-feed_file-clause-files : goal.returns-in_err-feed_file-clause-files
returns-in_err-feed_file-clause-files g c = c.feed_file.ensures.files ∙ c.open_file.ensures.files

pub returns-in_err-feed_file-clause-later : goal.returns-in_err-feed_file-clause-later
returns-in_err-feed_file-clause-later g c = le_trans c.open_file.ensures.later c.feed_file.ensures.later

pub returns-in-Ok-clause-files : goal.returns-in-Ok-clause-files
returns-in-Ok-clause-files g c = c.feed_file.ensures.files ∙ c.open_file.ensures.files

pub returns-in-Ok-clause-later : goal.returns-in-Ok-clause-later
returns-in-Ok-clause-later g c = le_trans c.open_file.ensures.later c.feed_file.ensures.later

pub returns-in-Err-clause-files : goal.returns-in-Err-clause-files
returns-in-Err-clause-files g c = c.feed_file.ensures.files ∙ c.open_file.ensures.files

pub returns-in-Err-clause-later : goal.returns-in-Err-clause-later
returns-in-Err-clause-later g c = le_trans c.open_file.ensures.later c.feed_file.ensures.later

pub returns-in_err-open_file-clause-files : goal.returns-in_err-open_file-clause-files
returns-in_err-open_file-clause-files g c = c.open_file.ensures.files

pub returns-in_err-open_file-clause-later : goal.returns-in_err-open_file-clause-later
returns-in_err-open_file-clause-later g c = c.open_file.ensures.later

pub returns-in_err-reader-clause-files : goal.returns-in_err-reader-clause-files
returns-in_err-reader-clause-files g c = c.open_file.ensures.files

pub returns-in_err-reader-clause-later : goal.returns-in_err-reader-clause-later
returns-in_err-reader-clause-later g c = c.open_file.ensures.later

pub feed_file-requires-clause-open : goal.feed_file-requires-clause-open
feed_file-requires-clause-open g c = c.in_ok-open_file.ensures.open

pub new-requires-clause-name : goal.new-requires-clause-name
new-requires-clause-name g c = c.given_name.ensures.is_name

pub new-requires-clause-within : goal.new-requires-clause-within
new-requires-clause-within g c = c.requires

pub returns-in-Err-clause-rows : goal.returns-in-Err-clause-rows
returns-in-Err-clause-rows g c = tt

pub returns-in_err-open_file-clause-reads : goal.returns-in_err-open_file-clause-reads
returns-in_err-open_file-clause-reads g c = opening_failed c.args.word.now.path _ _ c.from_residual.result c.in_err-open_file.field-0.0 c.from_residual.ensures.1 (rw c.as_str-path.ensures at c.open_file.ensures.calls) c.in_err-open_file.ensures.outside

pub returns-in_err-reader-clause-reads : goal.returns-in_err-reader-clause-reads
returns-in_err-reader-clause-reads g c = reading_failed c.args.word.now.path _ _ c.from_residual-in_err-reader.result _ c.from_residual-in_err-reader.ensures.1 (rw c.as_str-path.ensures at c.open_file.ensures.calls) refl

pub returns-in_err-feed_file-clause-reads : goal.returns-in_err-feed_file-clause-reads
returns-in_err-feed_file-clause-reads g c =
    let fed = c.in_err-feed_file.ensures.reads in
    file_handed_on c.args.word.now.path _ _ c.from_residual-in_err-feed_file.result c.in_err-feed_file.field-0.0 c.from_residual-in_err-feed_file.ensures.1 (opened_and_read c.args.word.now.path _ _ _ (rw c.as_str-path.ensures at c.open_file.ensures.calls) (extent_at (stop_of c.in_err-feed_file.field-0.0)) fed.0 fed.1 fed.2)

pub returns-in-Ok-clause-reads : goal.returns-in-Ok-clause-reads
returns-in-Ok-clause-reads g c = let fed = c.in_ok-feed_file.ensures.reads in opened_and_read c.args.word.now.path _ _ _ (rw c.as_str-path.ensures at c.open_file.ensures.calls) ToEnd fed.0 fed.1 fed.2

pub returns-in-Err-clause-reads : goal.returns-in-Err-clause-reads
returns-in-Err-clause-reads g c =
    let fed = c.in_ok-feed_file.ensures.reads in
    opened_and_read c.args.word.now.path _ _ _ (rw c.as_str-path.ensures at c.open_file.ensures.calls) (extent_at (stop_of c.stop_of.result)) fed.0 fed.1 (goes_to_end (stop_at c.as_str-path.result.now c.in-Err.fault) c.stop_of.result fed.0 (fault_extent c.as_str-path.result.now c.in-Err.fault) c.stop_of.ensures fed.2)
