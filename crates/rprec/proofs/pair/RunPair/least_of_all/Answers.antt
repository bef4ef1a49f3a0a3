use Rattle.std.proofs.Common.{◌+◌, ap, ◌∙◌}
use Rattle.rprec.specs.Sums.{prefixes}
use Rattle.rprec.proofs.pair.RunPair.least_of_all.Goals as goal

pub least_case-requires-clause-end : goal.least_case-requires-clause-end
least_case-requires-clause-end c = let p = c.args.self.now in c.prefixes_at-end.ensures ∙ ap (λ k. prefixes p (p.all.relevant + k)) c.steps.ensures
