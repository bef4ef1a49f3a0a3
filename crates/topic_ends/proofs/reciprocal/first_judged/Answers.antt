use denote.Enum.Bare.{sameb}
use Rattle.std.proofs.Common.{◌≡◌, ℕ, Bool, false, get_or, refl, ◌∙◌}
use Rattle.desk_model.specs.Completion.{picked_value, with_picked}
use Rattle.desk_model.specs.Mark.{mark_at}
use Rattle.desk_model.specs.contracts.types.Mark.{the_type}
use Rattle.desk_model.specs.declared.types.Mark.{Mark}
use Rattle.desk_model.specs.declared.types.Mark.TheVariants.{Unjudged, Relevant, Other}
use Rattle.topic_ends.proofs.FirstPlaces.{here, later, nowhere}
use Rattle.topic_ends.proofs.reciprocal.first_judged.Goals as goal

-- the test of a mark
judged : (mark : Mark) → sameb the_type mark Relevant ≡ picked_value false mark
judged Unjudged = refl
judged Relevant = refl
judged Other = refl

pub returns-then-eq-clause-first : goal.returns-then-eq-clause-first
returns-then-eq-clause-first c =
    let marks = c.args.marks.now in
    let items = c.docs-doc-items.result.now in
    let i = c.loop-place.place in
    let judges : ℕ → Bool = with_picked marks (λ _. false) in
    rw (← c.docs-doc-items.ensures.docs, c.loop-place.invariant, here judges items i c.loop-place-test.true (c.if-eq.ensures ∙ judged (mark_at marks (get_or items i 0))))

pub loop-place-preserved : goal.loop-place-preserved
loop-place-preserved c =
    let marks = c.args.marks.now in
    let items = c.docs-doc-items.result.now in
    let i = c.loop-place.place in
    let judges : ℕ → Bool = with_picked marks (λ _. false) in
    rw (c.loop-place.invariant, later judges items i c.loop-place-test.true (c.if-eq.ensures ∙ judged (mark_at marks (get_or items i 0))))

pub returns-clause-first : goal.returns-clause-first
returns-clause-first c =
    let items = c.docs-doc-items.result.now in
    let judges : ℕ → Bool = with_picked c.args.marks.now (λ _. false) in
    rw (← c.docs-doc-items.ensures.docs, c.loop-place.invariant, nowhere judges items c.loop-place.place c.loop-place-test.false)
