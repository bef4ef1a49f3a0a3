use Rattle.std.proofs.Common.{ap}
use Rattle.std.proofs.Props.{props}
use Rattle.rprec.specs.Blocks.{IsPairOf, swapped_is}
use Rattle.rprec.specs.declared.pair.RunPair.{RunPair}
use Rattle.rprec.proofs.pair.RunPair.swapped.Goals as goal

pub returns : goal.returns
returns c =
    let p = c.args.self.now in
    let Fact : Type 0 = IsPairOf p.marks.now p.b.now p.a.now p.second.now.numbers p.first.now.numbers p.both.now p.shared.now p.longest p.all in
    let one : IsProp Fact = hlevel props in
    let with_fact : Fact → RunPair = λ h. record { a = p.b; b = p.a; first = p.second; second = p.first; both = p.both; shared = p.shared; marks = p.marks; all = p.all; longest = p.longest; is = h } in
    ap with_fact (one _ (swapped_is p.is))
