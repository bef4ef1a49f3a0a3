use Rattle.std.proofs.Common.{◌≡◌, ◌*◌, ◌-◌, arith, ap, ◌∙◌, sym, subst}
use Rattle.rprec.specs.declared.greedy.DepthCandidate.{DepthCandidate}
use Rattle.rprec.specs.declared.prefixes.Prefixes.{Prefixes}
use Rattle.rprec.specs.Greedy.{AreFew, candidate}
use Rattle.rprec.specs.Sums.{prefixes}
use Rattle.rprec.proofs.Pairs.{pair_few, unpacked_pair}
use Rattle.rprec.proofs.pair.RunPair.choice_at_block.Goals as goal

pub greedy_choice-small-requires-clause-few : goal.greedy_choice-small-requires-clause-few
greedy_choice-small-requires-clause-few c =
    let p = c.args.self.now in
    let depth = 10 * c.args.block in
    let is : c.unpacked-prefixes.result ≡ prefixes p depth = c.unpacked-prefixes.ensures ∙ unpacked_pair p depth c.at_block.result c.args.self.now.is c.at_block.ensures in
    subst (λ (f : Prefixes). AreFew f p.all) (sym is) (pair_few p depth c.args.self.now.is)

pub returns : goal.returns
returns c =
    let p = c.args.self.now in
    let depth = 10 * c.args.block in
    let is : c.unpacked-prefixes.result ≡ prefixes p depth = c.unpacked-prefixes.ensures ∙ unpacked_pair p depth c.at_block.result c.args.self.now.is c.at_block.ensures in
    c.greedy_choice-small.ensures ∙ ap (λ (f : Prefixes). candidate f p.all (c.args.block * 10 - p.all.relevant)) is ∙ ap (candidate (prefixes p depth) p.all) (omega arith)

pub invariant_of-result : goal.invariant_of-result
invariant_of-result c = record {
  near = record {
    few = omega (arith, ap (λ (x : DepthCandidate). x.count) c.greedy_choice-small.ensures, c.requires.low, c.requires.high, c.args.self.now.is.few);
    first_few = c.greedy_choice-small.result.small.first_few;
    second_few = c.greedy_choice-small.result.small.second_few;
  };
}
