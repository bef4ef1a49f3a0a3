use Rattle.std.proofs.Common.{List, ℕ}
use Rattle.std.proofs.lemmas.Result.{err_from_is_err_and}
use Rattle.std.specs.Prelude.{codes}
use Rattle.line_forms.specs.Form.{Whole}
use Rattle.line_forms.proofs.Sequel.{stop_reads, made_reads}
use Rattle.order_certificate.specs.Places.{name_places}
use Rattle.order_certificate.proofs.RowKinds.{doc_above, names_plain}
use Rattle.order_bundle.proofs.TopicRows.{with_docs}
use Rattle.order_bundle.proofs.topics.listed.Goals as goal

pub returns-in_err-docs : goal.returns-in_err-docs
returns-in_err-docs c =
    let p = err_from_is_err_and c.from_residual.result c.from_residual.ensures.1 in
    rw (p.1, p.2) (stop_reads (name_places (codes "doc ") c.args.count) (λ (docs : List (List ℕ)). Whole (with_docs c.args.topic docs)) c.args.lines.now.rest c.names.new.lines c.in_err-docs.field-0.0 (names_plain (codes "doc ") doc_above c.args.count) c.in_err-docs.ensures)

pub returns : goal.returns
returns c = made_reads (name_places (codes "doc ") c.args.count) (with_docs c.args.topic) c.args.lines.now.rest c.names.new.lines.rest c.in_ok-docs.docs c.in_ok-docs.ensures
