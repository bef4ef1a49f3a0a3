use Rattle.std.proofs.Common.{◌≡◌, ℕ, ap, sym, subst, ◌∙◌}
use Rattle.topic_ends.specs.Candidates.{along, candidate_sum, number_of, out_of}
use Rattle.topic_ends.specs.Estimates.{IsAsGood, IsNear, estimate_of}
use Rattle.topic_ends.proofs.BestNumbers.{greater_kept, number_is, passed_over, smaller_kept}
use Rattle.topic_ends.proofs.run_bound.visited.Goals as goal

pub returns-then-is_beaten : goal.returns-then-is_beaten
returns-then-is_beaten c =
    let high = c.args.high in
    let marks = c.args.run.now.marks.now in
    let docs = c.args.run.now.docs.now in
    let count = c.args.passed.unjudged in
    let estimate = c.estimate_at-estimate in
    let sum = candidate_sum high (along marks docs) count in
    let near : IsNear high sum estimate.result.sum estimate.result.slack =
    subst (λ (n : ℕ). IsNear high sum n estimate.result.slack) (sym estimate.ensures.sum) (subst (λ (n : ℕ). IsNear high sum (estimate_of c.args.passed c.args.totals) n) (sym estimate.ensures.slack) c.requires.passing.near) in
    let lost : IsAsGood high c.args.best (out_of high sum estimate.result.documents) = c.is_beaten.ensures sum near c.if-is_beaten.true in
    let is : out_of high sum estimate.result.documents ≡ number_of high marks docs count = ap (out_of high sum) estimate.ensures.documents ∙ number_is high marks docs c.args.run.now.all count c.args.run.now.ranking c.args.run.now.counts c.requires.passing.within in
    passed_over high marks docs count c.args.best (subst (λ (v : ℕ). IsAsGood high c.args.best v) is lost) c.requires.best

pub returns-then-high : goal.returns-then-high
returns-then-high c =
    greater_kept c.args.high c.args.run.now.marks.now c.args.run.now.docs.now c.args.passed.unjudged c.args.best c.number-next.result c.max.result c.if-high.true c.requires.passing.within c.number-next.ensures.value c.number-next.ensures.small c.max.ensures c.requires.best

pub returns-else-high : goal.returns-else-high
returns-else-high c =
    smaller_kept c.args.high c.args.run.now.marks.now c.args.run.now.docs.now c.args.passed.unjudged c.args.best c.number-next.result c.min.result c.if-high.false c.requires.passing.within c.number-next.ensures.value c.number-next.ensures.small c.min.ensures c.requires.best
