use Rattle.std.proofs.Common.{ℕ, ◌≤◌, ◌^◌, Option, false, subst, sym, ◌∙◌}
use Rattle.topic_ends.specs.RunBounds.{AreKnown}
use Rattle.topic_ends.specs.declared.run_bound.RunBounds.{RunBounds}
use Rattle.topic_ends.proofs.BestNumbers.{bound-most}
use Rattle.topic_ends.proofs.average.low_bound.Goals as goal

pub returns-in-Some-clause-value : goal.returns-in-Some-clause-value
returns-in-Some-clause-value c =
    let known = subst (λ (o : Option RunBounds). AreKnown c.args.run.now.marks.now c.args.run.now.docs.now o) c.in-Some.is c.requires in
    c.from.ensures ∙ known.low

pub returns-in-Some-clause-small : goal.returns-in-Some-clause-small
returns-in-Some-clause-small c =
    let known = subst (λ (o : Option RunBounds). AreKnown c.args.run.now.marks.now c.args.run.now.docs.now o) c.in-Some.is c.requires in
    subst (λ (n : ℕ). n ≤ 10 ^ 18) (sym (c.from.ensures ∙ known.low)) (bound-most false c.args.run.now.marks.now c.args.run.now.docs.now c.args.run.now.ranking)
