use Rattle.std.proofs.Common.{◌∙◌, sym}
use Rattle.rprec.proofs.ShortLists.{short_pairs}
use Rattle.rprec.proofs.short.short_cells.Goals as goal

pub returns-clause-cells : goal.returns-clause-cells
returns-clause-cells g c = λ found.
    c.own_cells.ensures.cells found ∙ short_pairs c.all_documents-relevant.result.relevant c.args.on.now.marks.now c.args.on.now.rankings.now (sym c.all_documents-relevant.ensures.least) (c.are_short.ensures.short c.if-not-are_short.false)
