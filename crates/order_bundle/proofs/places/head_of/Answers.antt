use Rattle.std.proofs.Common.{◌≡◌, ◌∙◌, sym, subst, true, false, arith}
use Rattle.order_bundle.specs.Bundle.{AreRunsOfClaim, runs_text}
use Rattle.order_bundle.proofs.ClaimRows.{one_claim, one_pair}
use Rattle.order_bundle.proofs.places.head_of.Goals as goal

pub returns-in_default-two_runs : goal.returns-in_default-two_runs
returns-in_default-two_runs c part fits e =
    let h = one_claim c.in-Some.claim part.claim c.in-Some.text.now (runs_text part.first part.second) (sym c.in-Some.ensures.some ∙ e) in
    let a = fits.first_known in
    let b = fits.second_known in
    let few = c.requires in
    c.in_default-two_runs.ensures.none part.first part.second (omega arith) (omega arith) h.1

pub returns-then-not-are_runs_of_claim : goal.returns-then-not-are_runs_of_claim
returns-then-not-are_runs_of_claim c part fits e =
    let h = one_claim c.in-Some.claim part.claim c.in-Some.text.now (runs_text part.first part.second) (sym c.in-Some.ensures.some ∙ e) in
    let a = fits.first_known in
    let b = fits.second_known in
    let few = c.requires in
    let low = c.in-Some-two_runs.ensures.first in
    let high = c.in-Some-two_runs.ensures.second in
    let first = c.in-Some-two_runs.first in
    let second = c.in-Some-two_runs.second in
    let same = one_pair first second part.first part.second (omega arith) (omega arith) (omega arith) (omega arith) (sym c.in-Some-two_runs.ensures.some ∙ h.1) in
    let runs : AreRunsOfClaim c.args.runs c.args.last first second = subst (λ z. AreRunsOfClaim c.args.runs c.args.last z second) (sym same.0) (subst (λ z. AreRunsOfClaim c.args.runs c.args.last part.first z) (sym same.1) fits) in
    let is : c.are_runs_of_claim.result ≡ true = c.are_runs_of_claim.ensures.1 runs in
    let no : true ≡ false = sym is ∙ c.if-not-are_runs_of_claim.true in
    cc
