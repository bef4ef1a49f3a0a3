use Rattle.std.proofs.Common.{ℕ, ap, ◌∙◌}
use Rattle.precision_candidates.specs.Side.{along, candidate_sum, out_of}
use Rattle.precision_candidates.proofs.Visits.{number_is}
use Rattle.precision_candidates.proofs.candidate.SideCandidate.choice.Goals as goal

pub returns-clause-value : goal.returns-clause-value
returns-clause-value c =
    let side = c.args.self.side.now in
    let count = c.args.self.count in
    let sum = candidate_sum side.high (along side.marks.now side.docs.now) count in
    c.quotient.ensures.value ∙ ap (λ (n : ℕ). out_of side.high n c.documents.result) c.sum_of-sum.ensures.value ∙ ap (λ (n : ℕ). out_of side.high sum n) c.documents.ensures.value
    ∙ number_is side.high side.marks.now side.docs.now side.all count side.ranking side.counts c.args.self.within
