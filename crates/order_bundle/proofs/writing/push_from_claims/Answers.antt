use Rattle.std.proofs.Common.{[], ◌∷◌, length, flat_map}
use Rattle.std.specs.Prelude.{codes}
use Rattle.std.proofs.lemmas.Result.{on_ok_weaker}
use Rattle.order_bundle.specs.Bundle.{claim_lines, number_line}
use Rattle.order_bundle.proofs.WrittenParts.{line_rows_and_rest, one_line}
use Rattle.order_bundle.proofs.writing.push_from_claims.Goals as goal

pub returns : goal.returns
returns c =
    let claims = c.args.claims.now in
    let o = c.args.out.now.items in
    let p = c.push_number_line.new.out.items in
    let q = c.push_claims.new.out.items in
    let r = c.push_line.new.out.items in
    on_ok_weaker c.push_line.result
    (λ e. line_rows_and_rest o p q r (number_line (codes "claims ") (length claims)) (flat_map claim_lines claims) (codes "end" ∷ []) c.in_ok-push_number_line.ensures c.in_ok-push_claims.ensures (one_line q r (codes "end") e)) c.push_line.ensures
