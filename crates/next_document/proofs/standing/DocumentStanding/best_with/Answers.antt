use Rattle.std.proofs.Common.{[], List, Some, get_or, ap, sym, ◌∙◌}
use Rattle.std.proofs.lemmas.Option.{get_or_from_slice_get, slice_get-get_or}
use Rattle.desk_model.specs.declared.types.Mark.{Mark}
use Rattle.desk_model.specs.declared.types.Mark.TheVariants.{Unjudged}
use Rattle.next_document.specs.Proposal.{IsUnjudged}
use Rattle.next_document.specs.Shown.{shown_at}
use Rattle.next_document.proofs.Choosing.{judged, best_stays, best_of_two}
use Rattle.next_document.proofs.standing.DocumentStanding.best_with.Goals as goal

pub returns-in-Unjudged : goal.returns-in-Unjudged
returns-in-Unjudged g c =
    let s = shown_at g.M.Measure.measured c.args.self.now.topic in
    let here = get_or_from_slice_get c.args.self.now.topic.standing.on.marks.now c.args.self.now.topic.number c.topic.result.now [] c.topic.ensures in
    let unjudged : IsUnjudged s c.args.self.now.topic.number c.args.self.now.number =
    slice_get-get_or (get_or c.args.self.now.topic.standing.on.marks.now c.args.self.now.topic.number []) c.args.self.now.number Unjudged c.args.self.now.known ∙ ap (λ (marks : List Mark). Some (get_or marks c.args.self.now.number Unjudged)) here ∙ ap (λ (m : Mark). Some m) c.in-Unjudged.is in
    best_of_two s c.args.self.now.topic.number c.args.self.now.number c.total-weight.result c.args.best c.better.result c.requires.best unjudged c.total-weight.ensures c.better.ensures.kept c.better.ensures.replaced

pub returns-in-Relevant : goal.returns-in-Relevant
returns-in-Relevant g c =
    let s = shown_at g.M.Measure.measured c.args.self.now.topic in
    let here = get_or_from_slice_get c.args.self.now.topic.standing.on.marks.now c.args.self.now.topic.number c.topic.result.now [] c.topic.ensures in
    best_stays s c.args.self.now.topic.number c.args.self.now.number c.args.best c.requires.best (λ (u : IsUnjudged s c.args.self.now.topic.number c.args.self.now.number).
    absurd (judged (get_or c.topic.result.now c.args.self.now.number Unjudged) c.in-Relevant.is
    (ap (λ (marks : List Mark). get_or marks c.args.self.now.number Unjudged) (sym here) ∙ get_or_from_slice_get (get_or c.args.self.now.topic.standing.on.marks.now c.args.self.now.topic.number []) c.args.self.now.number Unjudged Unjudged u)))
