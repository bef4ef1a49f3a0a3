use Rattle.std.proofs.Common.{ap, ◌∙◌, sym, subst}
use Rattle.rprec.specs.declared.greedy.DepthCandidate.{DepthCandidate}
use Rattle.rprec.specs.declared.prefixes.Prefixes.{Prefixes}
use Rattle.rprec.specs.Greedy.{AreFew, candidate}
use Rattle.rprec.specs.Search.{IsBestOf}
use Rattle.rprec.specs.Sums.{choice_at, steps_of}
use Rattle.rprec.proofs.Pairs.{pair_few}
use Rattle.rprec.proofs.pair.RunPair.least.Goals as goal

pub greedy_choice-judged-requires-clause-few : goal.greedy_choice-judged-requires-clause-few
greedy_choice-judged-requires-clause-few c = let p = c.args.self.now in subst (λ (f : Prefixes). AreFew f p.all) (sym c.requires.start) (pair_few p p.all.relevant c.args.self.now.is)

pub least_from-requires-clause-best : goal.least_from-requires-clause-best
least_from-requires-clause-best c =
    let p = c.args.self.now in
    subst (λ (x : DepthCandidate). IsBestOf (choice_at p) 0 (steps_of p) x c.best.result.candidate) (c.greedy_choice-judged.ensures ∙ ap (λ (f : Prefixes). candidate f p.all 0) c.requires.start) c.best.ensures
