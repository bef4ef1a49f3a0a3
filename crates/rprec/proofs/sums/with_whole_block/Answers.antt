use Rattle.std.proofs.Common.{◌≡◌, ℕ, ◌+◌, ◌*◌, take, arith, ap, ◌∙◌}
use Rattle.std.proofs.lemmas.List.{length-take}
use Rattle.rprec.specs.Packed.{pack}
use Rattle.rprec.specs.Sums.{counts_of}
use Rattle.rprec.proofs.Counts.{all_few, number_adds}
use Rattle.rprec.proofs.sums.with_whole_block.Goals as goal

pub overflow_add-longer : goal.overflow_add-longer
overflow_add-longer c =
    let marks = c.args.run.now.marks.now in
    let docs = c.args.run.now.docs.now in
    let place = c.loop-place.place in
    omega (arith, c.loop-place.invariant, number_adds marks docs place c.number_at-longer.result c.number_at-longer.ensures, all_few marks (take (place + 1) docs), length-take {A = ℕ} (place + 1) docs, c.args.run.now.met.short)

pub loop-place-preserved : goal.loop-place-preserved
loop-place-preserved c = omega (arith, c.loop-place.invariant, number_adds c.args.run.now.marks.now c.args.run.now.docs.now c.loop-place.place c.number_at-longer.result c.number_at-longer.ensures)

pub loop-place-init : goal.loop-place-init
loop-place-init c = c.requires.number ∙ ap (λ (k : ℕ). pack (counts_of c.args.run.now.marks.now (take k c.args.run.now.docs.now))) (omega arith)

pub returns : goal.returns
returns c =
    let ended : c.loop-place.place ≡ 10 * (c.args.block + 1) = omega (arith, c.loop-place-test.false, c.loop-place.auto.place-end (omega arith)) in
    c.loop-place.invariant ∙ ap (λ (k : ℕ). pack (counts_of c.args.run.now.marks.now (take k c.args.run.now.docs.now))) ended
