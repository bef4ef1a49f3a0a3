use Rattle.std.proofs.lemmas.Result.{err_from_is_err_and}
use Rattle.line_forms.proofs.Sequel.{then_reads, stop_reads}
use Rattle.order_bundle.specs.Places.{after_head, head_place}
use Rattle.order_bundle.proofs.ClaimRows.{head_plain}
use Rattle.order_bundle.proofs.claims.claim.Goals as goal

pub returns-in_err-head : goal.returns-in_err-head
returns-in_err-head c =
    let p = err_from_is_err_and c.from_residual.result c.from_residual.ensures.1 in
    rw (p.1, p.2) (stop_reads (head_place c.args.runs c.args.last) (after_head c.args.topics.now) c.args.lines.now.rest c.head_line.new.lines c.in_err-head.field-0.0 (head_plain c.args.runs c.args.last c.requires.runs) c.in_err-head.ensures)

pub returns : goal.returns
returns c = then_reads (head_place c.args.runs c.args.last) (after_head c.args.topics.now) c.args.lines.now.rest c.head_line.new.lines.rest c.in_ok-head.head c.claimed.new.lines c.claimed.result (head_plain c.args.runs c.args.last c.requires.runs) c.in_ok-head.ensures c.claimed.ensures
