use Rattle.std.proofs.Common.{◌+◌, ap, ◌∙◌, sym, subst}
use Rattle.rprec.specs.declared.greedy.DepthCandidate.{DepthCandidate}
use Rattle.rprec.specs.declared.pair.RunPair.{RunPair}
use Rattle.rprec.specs.declared.prefixes.Prefixes.{Prefixes}
use Rattle.rprec.specs.Greedy.{AreFew, IsLeast, candidate, swapped}
use Rattle.rprec.specs.Search.{IsBestOf}
use Rattle.rprec.specs.Sums.{choice_at, prefixes, steps_of, swapped_pair}
use Rattle.rprec.proofs.Pairs.{pair_few, pair_swapped}
use Rattle.rprec.proofs.pair.RunPair.extremes.Goals as goal

pub greedy_choice-requires-clause-few : goal.greedy_choice-requires-clause-few
greedy_choice-requires-clause-few c = let p = c.args.self.now in subst (λ (f : Prefixes). AreFew f p.all) (sym c.prefixes_at-start.ensures) (pair_few p p.all.relevant p.is)

pub greedy_choice-requires-2-clause-few : goal.greedy_choice-requires-2-clause-few
greedy_choice-requires-2-clause-few c =
    let p = c.args.self.now in
    subst (λ (f : Prefixes). AreFew f p.all) (sym (c.swapped.ensures ∙ ap swapped c.prefixes_at-start.ensures)) (pair_few (swapped_pair p) p.all.relevant (pair_swapped p p.is))

pub least_from-requires-clause-end : goal.least_from-requires-clause-end
least_from-requires-clause-end c = let p = c.args.self.now in c.prefixes_at-end.ensures ∙ ap (λ k. prefixes p (p.all.relevant + k)) c.steps.ensures

pub least_from-requires-2-clause-end : goal.least_from-requires-2-clause-end
least_from-requires-2-clause-end c =
    let p = c.args.self.now in
    c.swapped-3.ensures ∙ ap swapped (c.prefixes_at-end.ensures ∙ ap (λ k. prefixes p (p.all.relevant + k)) c.steps.ensures) ∙ ap (λ (q : RunPair). prefixes q (q.all.relevant + steps_of q)) (sym c.swapped-2.ensures)

pub least_from-requires-2-clause-best : goal.least_from-requires-2-clause-best
least_from-requires-2-clause-best c =
    let p = c.args.self.now in
    let best = c.both_best-best.result.most.candidate in
    let start = c.swapped.ensures ∙ ap swapped c.prefixes_at-start.ensures in
    subst (λ (q : RunPair). IsBestOf (choice_at q) 0 (steps_of q) (candidate (prefixes q q.all.relevant) q.all 0) best) (sym c.swapped-2.ensures)
    (subst (λ (x : DepthCandidate). IsBestOf (choice_at (swapped_pair p)) 0 (steps_of p) x best) (c.greedy_choice-2.ensures ∙ ap (λ (f : Prefixes). candidate f p.all 0) start) c.both_best-best.ensures.most)

pub returns-clause-most : goal.returns-clause-most
returns-clause-most c = subst (λ (q : RunPair). IsLeast q.marks.now q.a.now q.b.now c.least_from-2.result.candidate) c.swapped-2.ensures c.least_from-2.ensures
