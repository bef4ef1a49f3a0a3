use Rattle.std.proofs.Common.{◌≡◌, ℕ, ap, sym, subst, ◌∙◌}
use Rattle.precision_candidates.specs.Side.{along, candidate_sum, number_of, out_of}
use Rattle.precision_candidates.specs.Walk.{IsNear, Loses, estimate_of}
use Rattle.precision_candidates.proofs.Visits.{number_is, passed_over}
use Rattle.precision_candidates.proofs.pruned.visited.Goals as goal

pub returns-then-is_beaten : goal.returns-then-is_beaten
returns-then-is_beaten c =
    let high = c.args.side.now.high in
    let marks = c.args.side.now.marks.now in
    let docs = c.args.side.now.docs.now in
    let count = c.args.walk.passed in
    let estimate = c.estimate_at-estimate in
    let sum = candidate_sum high (along marks docs) count in
    let near : IsNear high sum estimate.result.sum estimate.result.slack =
    subst (λ (n : ℕ). IsNear high sum n estimate.result.slack) (sym estimate.ensures.sum) (subst (λ (n : ℕ). IsNear high sum (estimate_of c.args.walk c.args.totals) n) (sym estimate.ensures.slack) c.requires.passing.near) in
    let lost : Loses high (out_of high sum estimate.result.documents) count c.args.best = c.is_beaten.ensures sum near c.if-is_beaten.true in
    let is : out_of high sum estimate.result.documents ≡ number_of high marks docs count = ap (out_of high sum) estimate.ensures.documents ∙ number_is high marks docs c.args.side.now.all count c.args.side.now.ranking c.args.side.now.counts c.requires.passing.within in
    passed_over high marks docs count c.args.best (subst (λ (v : ℕ). Loses high v count c.args.best) is lost) c.requires.best
