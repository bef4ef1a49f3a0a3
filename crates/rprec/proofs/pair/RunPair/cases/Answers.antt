use Rattle.std.proofs.Common.{◌+◌, ap, ◌∙◌, sym, subst}
use Rattle.rprec.specs.declared.pair.RunPair.{RunPair}
use Rattle.rprec.specs.Greedy.{swapped}
use Rattle.rprec.specs.Picks.{IsLeastCase}
use Rattle.rprec.specs.Sums.{prefixes, steps_of}
use Rattle.rprec.proofs.pair.RunPair.cases.Goals as goal

pub least_case-requires-clause-end : goal.least_case-requires-clause-end
least_case-requires-clause-end c = let p = c.args.self.now in c.prefixes_at-end.ensures ∙ ap (λ k. prefixes p (p.all.relevant + k)) c.steps.ensures

pub least_case-requires-2-clause-start : goal.least_case-requires-2-clause-start
least_case-requires-2-clause-start c =
    let p = c.args.self.now in
    c.swapped.ensures ∙ ap swapped c.prefixes_at-start.ensures ∙ ap (λ (q : RunPair). prefixes q q.all.relevant) (sym c.swapped-swapped.ensures)

pub least_case-requires-2-clause-end : goal.least_case-requires-2-clause-end
least_case-requires-2-clause-end c =
    let p = c.args.self.now in
    c.swapped-2.ensures ∙ ap swapped (c.prefixes_at-end.ensures ∙ ap (λ k. prefixes p (p.all.relevant + k)) c.steps.ensures) ∙ ap (λ (q : RunPair). prefixes q (q.all.relevant + steps_of q)) (sym c.swapped-swapped.ensures)

pub returns-clause-most : goal.returns-clause-most
returns-clause-most c = subst (λ (q : RunPair). IsLeastCase q.marks.now q.a.now q.b.now c.least_case-2.result) c.swapped-swapped.ensures c.least_case-2.ensures
