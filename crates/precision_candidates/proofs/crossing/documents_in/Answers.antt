use Rattle.std.proofs.Common.{sym}
use Rattle.precision_candidates.proofs.RunFacts.{documents_moved}
use Rattle.precision_candidates.proofs.crossing.documents_in.Goals as goal

pub returns : goal.returns
returns g c =
    let on = c.chosen.result.now.on in
    documents_moved (g.C.Classes.marks c.args.classes.now) on.marks.now (g.C.Classes.run c.args.classes.now) on.docs.now c.documents.result (sym c.chosen.ensures.marks) (sym c.chosen.ensures.run) c.documents.ensures
