use Rattle.precision_candidates.proofs.BaseClasses.{base_all, base_more}
use Rattle.precision_candidates.proofs.classes.set_base.Goals as goal

pub loop-place-preserved : goal.loop-place-preserved
loop-place-preserved c = base_more c.args.marks.now c.loop-place.place c.loop-place.classes c.class_for.result c.loop-place-test.true c.class_for.ensures c.loop-place.invariant

pub returns : goal.returns
returns c = base_all c.args.marks.now c.loop-place.place c.loop-place.classes c.loop-place-test.false c.loop-place.invariant
