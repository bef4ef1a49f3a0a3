use Rattle.std.proofs.Common.{refl, ap, get_or, arith}
use Rattle.topics_pool.proofs.Forgetting.{forget_step, all_forget}
use Rattle.topics_pool.proofs.runs.forget_topic.Goals as goal

pub loop-r-init : goal.loop-r-init
loop-r-init c = record { long = refl; before = λ k run lt low. absurd (omega (arith, lt)); rest = λ k run le. refl }

pub loop-r-preserved : goal.loop-r-preserved
loop-r-preserved c =
    let long = c.loop-r.invariant.long in
    let runs = c.loop-r.runs in
    let r = c.loop-r.r in
    forget_step c.args.topic.now r c.args.runs.now runs _ (get_or runs r c.index-runs-r.result) c.forget.new.self c.loop-r.invariant (omega (arith, long, c.loop-r-test.true)) (ap (λ d. get_or runs r d) c.index-runs-r.is)
    (record { gone = c.forget.ensures.gone; others = c.forget.ensures.others; rows = c.forget.ensures.rows }) refl

pub returns : goal.returns
returns c =
    let before = c.loop-r.invariant in
    all_forget c.args.topic.now c.args.runs.now c.loop-r.runs before.long (λ k run lt. before.before k run (omega (arith, lt, before.long, c.loop-r-test.false)) lt)
