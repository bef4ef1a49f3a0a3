use Rattle.std.proofs.lemmas.Result.{err_from_is_err_and}
use Rattle.line_forms.specs.Places.{number_place}
use Rattle.line_forms.proofs.Cuts.{above_free}
use Rattle.line_forms.proofs.Sequel.{then_reads, stop_reads}
use Rattle.order_certificate.specs.Certificate.{IsDocumentCount}
use Rattle.order_bundle.specs.Places.{pick_places}
use Rattle.order_bundle.proofs.PickRows.{list_count_plain}
use Rattle.order_bundle.proofs.claims.list.Goals as goal

pub returns-in_err-count : goal.returns-in_err-count
returns-in_err-count c =
    let p = err_from_is_err_and c.from_residual.result c.from_residual.ensures.1 in
    rw (p.1, p.2) (stop_reads (number_place c.args.word.now IsDocumentCount) (pick_places c.args.docs) c.args.lines.now.rest c.list_count_line.new.lines c.in_err-count.field-0.0 (list_count_plain c.args.word.now c.requires.word) c.in_err-count.ensures)

pub returns : goal.returns
returns c = then_reads (number_place c.args.word.now IsDocumentCount) (pick_places c.args.docs) c.args.lines.now.rest c.list_count_line.new.lines.rest c.in_ok-count.count c.picks.new.lines c.picks.result (list_count_plain c.args.word.now c.requires.word) c.in_ok-count.ensures c.picks.ensures

pub list_count_line-requires : goal.list_count_line-requires
list_count_line-requires c = above_free 10 c.args.word.now c.requires.word
