use Rattle.std.proofs.Common.{◌≡◌, ℕ, List, ap, ◌∙◌, sym, subst}
use Rattle.desk_model.specs.declared.types.MeasureName.TheVariants.{RPrecision}
use Rattle.measure_core.specs.Laws.{CellIsModest}
use Rattle.measure_core.specs.Numbers.{exact_cell}
use Rattle.measure_core.proofs.Exact.{exact_laws}
use Rattle.rprec.proofs.Ends.{topic_is}
use Rattle.rprec.proofs.rprec.RprecRankedMeasure.ranked_cell.Goals as goal

pub invariant_of-find-clause-topic : goal.invariant_of-find-clause-topic
invariant_of-find-clause-topic c = topic_is c.args.apart.now.marks.now c.args.apart.now.all c.args.apart.now.topic.topic.least c.args.apart.now.topic.topic.most

pub returns-clause-modest : goal.returns-clause-modest
returns-clause-modest c =
    let marks = c.args.apart.now.marks.now in
    let a = c.args.apart.now.a.now in
    let b = c.args.apart.now.b.now in
    let is : c.find.result ≡ exact_cell RPrecision marks a b = c.find.ensures ∙ ap (λ (docs : List ℕ). exact_cell RPrecision marks docs c.docs-2.result.now) c.docs.ensures.docs ∙ ap (exact_cell RPrecision marks a) c.docs-2.ensures.docs in
    subst CellIsModest (sym is) ((exact_laws RPrecision tt tt).cell_modest marks a b c.args.apart.now.met)
