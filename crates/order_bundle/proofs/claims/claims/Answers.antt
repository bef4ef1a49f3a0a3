use Rattle.std.proofs.Common.{None}
use Rattle.std.proofs.lemmas.Result.{err_from_is_err_and}
use Rattle.std.specs.Prelude.{codes}
use Rattle.line_forms.specs.Places.{number_place}
use Rattle.line_forms.specs.Rows.{rows}
use Rattle.line_forms.proofs.Sequel.{then_reads, stop_reads}
use Rattle.order_bundle.specs.Bundle.{IsClaimCount, last_pair}
use Rattle.order_bundle.specs.Places.{claim_places}
use Rattle.order_bundle.proofs.ClaimRows.{claim_count_plain}
use Rattle.order_bundle.proofs.claims.claims.Goals as goal

pub returns-in_err-count : goal.returns-in_err-count
returns-in_err-count c =
    let p = err_from_is_err_and c.from_residual.result c.from_residual.ensures.1 in
    rw (p.1, p.2) (stop_reads (number_place (codes "claims ") IsClaimCount) (λ n. rows (claim_places c.args.runs c.args.topics.now) last_pair n None) c.args.lines.now.rest c.claim_count_line.new.lines c.in_err-count.field-0.0 claim_count_plain c.in_err-count.ensures)

pub returns : goal.returns
returns c =
    then_reads (number_place (codes "claims ") IsClaimCount) (λ n. rows (claim_places c.args.runs c.args.topics.now) last_pair n None) c.args.lines.now.rest c.claim_count_line.new.lines.rest c.in_ok-count.count c.each_claim.new.lines c.each_claim.result claim_count_plain c.in_ok-count.ensures c.each_claim.ensures
