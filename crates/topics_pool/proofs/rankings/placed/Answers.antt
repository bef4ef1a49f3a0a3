use Rattle.std.proofs.Common.{◌<◌, length, get_or, refl}
use Rattle.std.specs.Prelude.{slice_index}
use Rattle.std.proofs.lemmas.List.Elements.{All-get_or}
use Rattle.std.proofs.lemmas.Result.{IfOk-from_err}
use Rattle.topics_pool.proofs.Pushing.{pushed_next, pushed_all}
use Rattle.topics_pool.proofs.rankings.placed.Goals as goal

pub returns-in_err-docs : goal.returns-in_err-docs
returns-in_err-docs c = IfOk-from_err c.from_residual.result _ c.from_residual.ensures.0

pub returns-in_err-push : goal.returns-in_err-push
returns-in_err-push c = IfOk-from_err c.from_residual-in_err-push.result _ c.from_residual-in_err-push.ensures.0

pub loop-number-init : goal.loop-number-init
loop-number-init c = c.in_ok-docs.ensures.items

pub bounds-places-number : goal.bounds-places-number
bounds-places-number c = All-get_or (λ n. n < length c.args.places.now) c.args.numbers.now c.loop-number.number-index 0 c.loop-number-test.true c.requires

pub loop-number-preserved : goal.loop-number-preserved
loop-number-preserved c =
    let places = c.args.places.now in
    let i = c.loop-number.number-index in
    pushed_next (slice_index places) c.args.numbers.now i 0 c.loop-number.docs.items c.push.new.self.items (get_or places (get_or c.args.numbers.now i 0) 0) c.loop-number-test.true c.loop-number.invariant c.in_ok-push.ensures.items refl

pub returns : goal.returns
returns c = pushed_all (slice_index c.args.places.now) c.args.numbers.now c.loop-number.number-index c.loop-number.docs.items c.loop-number-test.false c.loop-number.invariant
