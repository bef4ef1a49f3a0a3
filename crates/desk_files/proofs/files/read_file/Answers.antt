use Rattle.std.proofs.Common.{◌∙◌, refl, sym, arith, subst}
use Rattle.std.proofs.Math.Nat.{le_trans}
use Rattle.desk_outside.specs.Outside.{Opens}
use Rattle.desk_files.specs.Files.{whole_file}
use Rattle.desk_files.specs.Reads.{ToEnd, extent_at}
use Rattle.desk_files.specs.Views.{stop_of}
use Rattle.desk_files.proofs.InTurn.{opened_and_read, file_handed_on, opening_failed}
use Rattle.desk_files.proofs.Stopping.{gives_handed_on}
use Rattle.desk_files.proofs.Loading.{IsFedWhole}
use Rattle.desk_files.proofs.files.read_file.Goals as goal

pub returns-in_err-open_file-clause-gives : goal.returns-in_err-open_file-clause-gives
returns-in_err-open_file-clause-gives g c =
    let told = (g.F.Shelf.state c.args.files.now).files in
    let faults = (g.F.Shelf.state c.args.files.now).faults in
    let path = c.args.path.now in
    gives_handed_on told told faults faults (g.F.Shelf.state c.open_file.new.files).faults (λ v. v.items) c.from_residual.result c.in_err-open_file.field-0.0 (λ held. whole_file path (held path)) (λ held. whole_file path (held path))
    refl c.from_residual.ensures.1 (omega arith) c.in_err-open_file.ensures.stops (λ files why t stop. stop)

pub returns-in_err-feed_file-clause-gives : goal.returns-in_err-feed_file-clause-gives
returns-in_err-feed_file-clause-gives g c =
    let opened = c.open_file.new.files in
    let path = c.args.path.now in
    gives_handed_on (g.F.Shelf.state c.args.files.now).files (g.F.Shelf.state opened).files (g.F.Shelf.state c.args.files.now).faults (g.F.Shelf.state opened).faults (g.F.Shelf.state c.feed_file.new.files).faults (λ v. v.items) c.from_residual-in_err-feed_file.result c.in_err-feed_file.field-0.0
    (λ held. whole_file path (held path)) (λ held. whole_file path (held path)) c.open_file.ensures.files c.from_residual-in_err-feed_file.ensures.1 c.open_file.ensures.later c.in_err-feed_file.ensures.gives (λ files why t stop. stop)

pub returns-clause-gives : goal.returns-clause-gives
returns-clause-gives g c = subst (λ told. IsFedWhole told c.args.path.now c.feed_file.new.taker.items) c.open_file.ensures.files c.in_ok-feed_file.ensures.gives

pub feed_file-requires-clause-content : goal.feed_file-requires-clause-content
feed_file-requires-clause-content g c =
    subst (λ told. Opens told c.args.path.now (g.F.Shelf.state c.open_file.new.files).rest) (sym c.open_file.ensures.files) c.in_ok-open_file.ensures.content

pub returns-in_err-feed_file-clause-files : goal.returns-in_err-feed_file-clause-files
returns-in_err-feed_file-clause-files g c = c.feed_file.ensures.files ∙ c.open_file.ensures.files

pub returns-in_err-feed_file-clause-later : goal.returns-in_err-feed_file-clause-later
returns-in_err-feed_file-clause-later g c = le_trans c.open_file.ensures.later c.feed_file.ensures.later

pub returns-clause-files : goal.returns-clause-files
returns-clause-files g c = c.feed_file.ensures.files ∙ c.open_file.ensures.files

pub returns-clause-later : goal.returns-clause-later
returns-clause-later g c = le_trans c.open_file.ensures.later c.feed_file.ensures.later

pub returns-in_err-open_file-clause-files : goal.returns-in_err-open_file-clause-files
returns-in_err-open_file-clause-files g c = c.open_file.ensures.files

pub returns-in_err-open_file-clause-later : goal.returns-in_err-open_file-clause-later
returns-in_err-open_file-clause-later g c = c.open_file.ensures.later

pub feed_file-requires-clause-open : goal.feed_file-requires-clause-open
feed_file-requires-clause-open g c = c.in_ok-open_file.ensures.open

pub feed_file-requires-clause-none : goal.feed_file-requires-clause-none
feed_file-requires-clause-none g c = c.new-bytes.ensures.items

pub returns-in_err-open_file-clause-reads : goal.returns-in_err-open_file-clause-reads
returns-in_err-open_file-clause-reads g c = opening_failed c.args.path.now _ _ c.from_residual.result c.in_err-open_file.field-0.0 c.from_residual.ensures.1 c.open_file.ensures.calls c.in_err-open_file.ensures.outside

pub returns-in_err-feed_file-clause-reads : goal.returns-in_err-feed_file-clause-reads
returns-in_err-feed_file-clause-reads g c =
    let fed = c.in_err-feed_file.ensures.reads in
    file_handed_on c.args.path.now _ _ c.from_residual-in_err-feed_file.result c.in_err-feed_file.field-0.0 c.from_residual-in_err-feed_file.ensures.1 (opened_and_read c.args.path.now _ _ _ c.open_file.ensures.calls (extent_at (stop_of c.in_err-feed_file.field-0.0)) fed.0 fed.1 fed.2)

pub returns-clause-reads : goal.returns-clause-reads
returns-clause-reads g c = let fed = c.in_ok-feed_file.ensures.reads in opened_and_read c.args.path.now _ _ _ c.open_file.ensures.calls ToEnd fed.0 fed.1 fed.2
