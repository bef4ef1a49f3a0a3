use Rattle.std.proofs.Common.{◌≡◌, ◌+◌, ◌<◌, subst, List, [], length, Some, get_or, ap, sym, ◌∙◌, arith}
use Rattle.std.proofs.lemmas.Option.{slice_get-get_or, get_or_from_slice_get}
use Rattle.desk_model.specs.declared.types.Mark.{Mark}
use Rattle.desk_model.specs.declared.types.Mark.TheVariants.{Unjudged}
use Rattle.next_document.specs.Proposal.{IsUnjudged}
use Rattle.next_document.proofs.Choosing.{judged, best_stays, best_of_two, best_of_topic}
use Rattle.next_document.specs.Best.{IsBestBefore}
use Rattle.next_document.proofs.best_kept.TopicTotals.best_with.Goals as goal
use Rattle.next_document.proofs.best_kept.TopicTotals.best_with.Goals.{in-Unjudged, in-Relevant}

pub loop-doc-preserved : goal.loop-doc-preserved
loop-doc-preserved c s marks totals earlier =
    let topic = c.args.self.now.number in
    let doc = c.loop-doc.doc in
    let best = c.loop-doc.invariant s marks totals earlier in
    let within : doc < length (get_or s.marks topic []) = omega (arith, ap (λ (m : List Mark). length m) marks, c.loop-doc-test.true) in
    let here : get_or (get_or s.marks topic []) doc Unjudged ≡ get_or c.args.self.now.marks.now doc Unjudged = ap (λ (m : List Mark). get_or m doc Unjudged) marks in
    elim c.match-mark.branch [
      | in-Unjudged w ↦
          let unjudged : IsUnjudged s topic doc = slice_get-get_or (get_or s.marks topic []) doc Unjudged within ∙ ap (λ (m : Mark). Some m) (here ∙ w.in-Unjudged.is) in
          subst (IsBestBefore s topic (doc + 1)) (sym w.best-is)
          (best_of_two s topic doc (get_or c.args.self.now.totals.now doc 0) c.loop-doc.best w.better-best.result best unjudged (totals doc within) w.better-best.ensures.kept w.better-best.ensures.replaced)
      | in-Relevant w ↦
          subst (IsBestBefore s topic (doc + 1)) (sym w.best-is)
          (best_stays s topic doc c.loop-doc.best best (λ (u : IsUnjudged s topic doc). absurd (judged _ w.in-Relevant.is (sym here ∙ get_or_from_slice_get (get_or s.marks topic []) doc Unjudged Unjudged u))))
    ]

pub returns : goal.returns
returns c s marks totals earlier =
    best_of_topic s c.args.self.now.number c.loop-doc.doc c.loop-doc.best (c.loop-doc.invariant s marks totals earlier) (omega (arith, ap (λ (m : List Mark). length m) marks, c.loop-doc-test.false))
