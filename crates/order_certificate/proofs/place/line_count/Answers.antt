use Rattle.std.proofs.Common.{◌∙◌, ap, subst, sym, Some}
use Rattle.desk_model.proofs.Nested.{get_or-there}
use Rattle.desk_model.proofs.PairPlace.{there}
use Rattle.order_certificate.specs.Certificate.{AreLists}
use Rattle.order_certificate.proofs.LinesOfPlaces.{one_counted}
use Rattle.order_certificate.proofs.place.line_count.Goals as goal

pub loop-witness-preserved : goal.loop-witness-preserved
loop-witness-preserved c =
    let i = c.loop-witness.witness-index in
    let ws = c.args.witnesses.now in
    let w = c.witness-item.result in
    let at = there ws i c.loop-witness-test.true in
    let is = c.witness-item.is ∙ get_or-there ws i at.0 w at.1 in
    let lists = subst AreLists (sym c.witness-item.is) (c.requires.lists i w c.loop-witness-test.true) in
    one_counted ws i c.loop-witness.lines w c.as_slice.result.now c.as_slice-in-loop-witness.result.now c.loop-witness.invariant (at.1 ∙ ap Some (sym is)) lists c.as_slice.ensures c.as_slice-in-loop-witness.ensures
