use Rattle.std.proofs.Common.{◌+◌, arith, ap, ◌∙◌, sym, subst}
use Rattle.rprec.specs.declared.prefixes.Prefixes.{Prefixes}
use Rattle.rprec.specs.Greedy.{AreFew, candidate}
use Rattle.rprec.proofs.Pairs.{pair_few}
use Rattle.rprec.proofs.pair.RunPair.choice_from.Goals as goal

pub greedy_choice-small-requires-clause-few : goal.greedy_choice-small-requires-clause-few
greedy_choice-small-requires-clause-few c =
    let p = c.args.self.now in subst (λ (f : Prefixes). AreFew f p.all) (sym c.requires.prefixes) (pair_few p (p.all.relevant + (c.args.place + 1)) c.args.self.now.is)

pub returns : goal.returns
returns c = c.greedy_choice-small.ensures ∙ ap (λ (f : Prefixes). candidate f c.args.self.now.all (c.args.place + 1)) c.requires.prefixes
