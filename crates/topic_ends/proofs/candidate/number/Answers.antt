use Rattle.std.proofs.Common.{ℕ, ap, ◌∙◌}
use Rattle.topic_ends.specs.Candidates.{along, candidate_sum, out_of}
use Rattle.topic_ends.proofs.BestNumbers.{number_is}
use Rattle.topic_ends.proofs.candidate.number.Goals as goal

pub returns-clause-value : goal.returns-clause-value
returns-clause-value c =
    let high = c.args.high in
    let run = c.args.run.now in
    c.quotient.ensures.value ∙ ap (λ (n : ℕ). out_of high n c.documents_in.result) c.sum_of.ensures.value
    ∙ ap (out_of high (candidate_sum high (along run.marks.now run.docs.now) c.args.count)) c.documents_in.ensures.value
    ∙ number_is high run.marks.now run.docs.now run.all c.args.count run.ranking run.counts c.requires
