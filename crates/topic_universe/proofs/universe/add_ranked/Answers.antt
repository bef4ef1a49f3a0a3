use Rattle.topic_universe.proofs.Sets.{gather_step, number_step}
use Rattle.topic_universe.proofs.universe.add_ranked.Goals as goal

pub loop-i-preserved : goal.loop-i-preserved
loop-i-preserved c =
    let name = c.get.result.now in
    let more = number_step c.loop-i.names c.number.new.self c.args.ranked.now c.loop-i.numbers.items c.push.new.self.items c.loop-i.i c.in_ok-number.field-0 name
    c.in_ok-number.ensures.names c.loop-i.invariant.within c.loop-i.invariant.numbers c.get.ensures c.in_ok-number.ensures.number c.in_ok-push.ensures.items in
    record { names = gather_step _ c.args.ranked.now c.loop-i.i name _ _ c.get.ensures c.loop-i.invariant.names c.in_ok-number.ensures.names; within = more.0; numbers = more.1 }
