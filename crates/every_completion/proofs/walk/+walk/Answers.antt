use Rattle.every_completion.specs.Walk.{ends_of}
use Rattle.every_completion.proofs.Splitting.{restored, walked}
use Rattle.every_completion.proofs.walk.+walk.Goals as goal

pub returns-in-Some-clause-same : goal.returns-in-Some-clause-same
returns-in-Some-clause-same t c = restored c.args.marks.now c.walk-relevant.new.marks c.walk-other.new.marks c.in-Some.doc c.in-Some.ensures.here.2 c.walk-relevant.ensures.same c.walk-other.ensures.same

pub returns-in-Some-clause-ends : goal.returns-in-Some-clause-ends
returns-in-Some-clause-ends t c =
    walked c.args.of.now.scale.measure c.args.of.now.scale.unit c.args.marks.now c.walk-relevant.new.marks c.args.of.now.first.now c.args.of.now.second.now c.in-Some.doc (ends_of c.walk-relevant.result) (ends_of c.walk-other.result) (ends_of c.join.result)
    c.in-Some.ensures.here.1 c.in-Some.ensures.here.2 c.walk-relevant.ensures.same c.walk-relevant.ensures.ends c.walk-other.ensures.ends c.join.ensures.least_lo c.join.ensures.least_hi c.join.ensures.most_lo c.join.ensures.most_hi
