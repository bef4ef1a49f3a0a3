use Rattle.std.proofs.Common.{◌++◌, decimal}
use Rattle.std.specs.Prelude.{codes}
use Rattle.line_forms.proofs.Cuts.{above_free}
use Rattle.line_forms.proofs.Sequel.{read_part, read_none}
use Rattle.order_bundle.specs.Bundle.{IsClaimCount}
use Rattle.order_bundle.proofs.ClaimRows.{claim_count_plain}
use Rattle.order_bundle.proofs.places.claim_count_line.Goals as goal

pub returns-in-Some : goal.returns-in-Some
returns-in-Some c =
    read_part (λ n. codes "claims " ++ decimal n) IsClaimCount c.args.lines.now.rest c.in-Some.line.now c.next_line.new.self c.claim_count_of.result (λ n fits. above_free 10 (codes "claims " ++ decimal n) (claim_count_plain.1 n fits)) c.next_line.ensures.last c.in-Some.ensures.some c.in-Some.ensures.feedless c.claim_count_of.ensures

pub returns-in-None : goal.returns-in-None
returns-in-None c = read_none (λ n. codes "claims " ++ decimal n) IsClaimCount c.args.lines.now.rest c.next_line.new.self.last c.next_line.ensures.last c.in-None.ensures.none
