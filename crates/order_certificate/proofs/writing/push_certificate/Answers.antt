use Rattle.std.proofs.lemmas.Result.{on_ok_weaker}
use Rattle.line_forms.proofs.Joins.{lines_and_rest}
use Rattle.order_certificate.specs.Certificate.{certificate_text, from_first_lines, opening_lines}
use Rattle.order_certificate.proofs.writing.push_certificate.Goals as goal

pub returns : goal.returns
unfolding certificate_text
returns c =
    let it = c.args.certificate.now in
    on_ok_weaker c.push_from_first.result (lines_and_rest c.args.out.now.items c.push_opening.new.out.items c.push_from_first.new.out.items (opening_lines it.measure it.level) (from_first_lines it) c.in_ok-push_opening.ensures) c.push_from_first.ensures
