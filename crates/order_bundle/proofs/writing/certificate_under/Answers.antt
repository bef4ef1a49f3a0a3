use Rattle.std.proofs.Common.{◌++◌, ◌∙◌, ap}
use Rattle.line_forms.specs.Form.{text_of}
use Rattle.order_certificate.specs.Certificate.{from_first_lines, opening_lines}
use Rattle.order_bundle.specs.Depths.{depth_lines}
use Rattle.order_bundle.specs.Scoped.{scoped_lines, scoped_text}
use Rattle.order_bundle.proofs.Either.{one_under}
use Rattle.order_bundle.proofs.WrittenParts.{three_parts}
use Rattle.order_bundle.proofs.writing.certificate_under.Goals as goal

pub returns : goal.returns
unfolding scoped_text
returns c =
    let it = c.args.certificate.now in
    let depth = c.args.depth in
    three_parts c.new-out.result.items c.push_opening.new.out.items c.push_depth.new.out.items c.push_from_first.new.out.items
    (opening_lines it.measure it.level) (depth_lines depth) (from_first_lines it) c.in_ok-push_opening.ensures c.in_ok-push_depth.ensures c.in_ok-push_from_first.ensures
    ∙ ap (λ z. z ++ text_of (scoped_lines (one_under depth it))) c.new-out.ensures.items
